-- The children of nodes, and what stands below them.
use Rattle.rt_walk.proofs.Prelude.{◌≡◌, ◌∙◌, ◌<◌, sym, ap, subst, refl, arith, ℕ, Bool, true, false, cond, List, [], ◌∷◌, ◌++◌, length, reverse, Option, append_assoc, flat_map, list_any, flat_map-append, reverse-append, reverse-reverse, map-append, list_any-append, NodeState, is_child, nodes_below, subtree, children_of, links_of, AreElders}
use Rattle.rt_walk.proofs.Ended.{neither}

-- nobody before a node stands below it
past-elders : (xs : List (ℕ × Option ℕ)) (x : ℕ × Option ℕ) (later : List (ℕ × Option ℕ)) → AreElders (xs ++ x ∷ later) → nodes_below x.0 (xs ++ x ∷ later) ≡ nodes_below x.0 later
past-elders [] x later h = let none = neither (is_child x.0 x.1) (list_any (λ y. is_child y.0 x.1) later) h.0 in rw (none.0) refl
past-elders (w ∷ xs) x later h =
    let after = neither (is_child w.0 w.1) (list_any (λ y. is_child y.0 w.1) (xs ++ x ∷ later)) h.0 in
    let there = neither (list_any (λ y. is_child y.0 w.1) xs) (list_any (λ y. is_child y.0 w.1) (x ∷ later)) (sym (list_any-append (λ y. is_child y.0 w.1) xs (x ∷ later)) ∙ after.1) in
    let none = neither (is_child x.0 w.1) (list_any (λ y. is_child y.0 w.1) later) there.1 in
    rw (none.0) (past-elders xs x later h.1)

-- what stands below a node are its children, each with what stands below it
below-from : (xs later : List (ℕ × Option ℕ)) (node : ℕ) → AreElders (xs ++ later) → nodes_below node later ≡ flat_map (subtree (xs ++ later)) (children_of later node)
below-from xs [] node h = refl
below-from xs (x ∷ later) node h =
    let moved = append_assoc xs (x ∷ []) later in
    let P : List (ℕ × Option ℕ) → Type 0 = λ all. nodes_below node later ≡ flat_map (subtree all) (children_of later node) in
    by (is_child node x.1) (subst P moved (below-from (xs ++ x ∷ []) later node (rw moved h)))
  where
    by : (b : Bool) → nodes_below node later ≡ flat_map (subtree (xs ++ x ∷ later)) (children_of later node) → cond b ((x.0 ∷ nodes_below x.0 later) ++ nodes_below node later) (nodes_below node later) ≡ flat_map (subtree (xs ++ x ∷ later)) (cond b (x.0 ∷ children_of later node) (children_of later node))
    by true rest = rw (past-elders xs x later h) (ap (λ zs. (x.0 ∷ nodes_below x.0 later) ++ zs) rest)
    by false rest = rest

pub below-children : (nodes : List (ℕ × Option ℕ)) (node : ℕ) → AreElders nodes → nodes_below node nodes ≡ flat_map (subtree nodes) (children_of nodes node)
below-children nodes node h = below-from [] nodes node h

pub elders-same : (xs ys : List (ℕ × Option ℕ)) → ys ≡ xs → AreElders xs → AreElders ys
elders-same xs ys e h = rw e h

-- a node more

pub children-append : (xs ys : List (ℕ × Option ℕ)) (node : ℕ) → children_of (xs ++ ys) node ≡ children_of xs node ++ children_of ys node
children-append [] ys node = refl
children-append (x ∷ xs) ys node = by (is_child node x.1) (children-append xs ys node)
  where
    by : (b : Bool) → children_of (xs ++ ys) node ≡ children_of xs node ++ children_of ys node → cond b (x.0 ∷ children_of (xs ++ ys) node) (children_of (xs ++ ys) node) ≡ cond b (x.0 ∷ children_of xs node) (children_of xs node) ++ children_of ys node
    by true rest = ap (λ zs. x.0 ∷ zs) rest
    by false rest = rest

pub elders-more : (xs : List (ℕ × Option ℕ)) (x : ℕ × Option ℕ) → children_of xs x.0 ≡ [] → is_child x.0 x.1 ≡ false → AreElders xs → AreElders (xs ++ x ∷ [])
elders-more [] x none own h = (rw own refl, tt)
elders-more (w ∷ xs) x none own h = (first, elders-more xs x apart.1 own h.1)
  where
    by : (b : Bool) → cond b (w.0 ∷ children_of xs x.0) (children_of xs x.0) ≡ [] → (b ≡ false) × (children_of xs x.0 ≡ [])
    by true e = absurd (cc)
    by false e = (refl, e)

    apart : (is_child x.0 w.1 ≡ false) × (children_of xs x.0 ≡ [])
    apart = by (is_child x.0 w.1) none

    first : list_any (λ y. is_child y.0 w.1) (w ∷ xs ++ x ∷ []) ≡ false
    first =
        let old = neither (is_child w.0 w.1) (list_any (λ y. is_child y.0 w.1) xs) h.0 in
        rw (old.0, list_any-append (λ y. is_child y.0 w.1) xs (x ∷ []), old.1, apart.0) refl

-- rows with one more

links-more : (xs ys : List NodeState) (x : NodeState) → ys ≡ xs ++ x ∷ [] → links_of ys ≡ links_of xs ++ (x.number, x.parent) ∷ []
links-more xs ys x e = ap links_of e ∙ map-append {B = ℕ × Option ℕ} (λ x. (x.number, x.parent)) xs (x ∷ [])

pub family-more : (old new : ℕ → List ℕ) (xs ys : List NodeState) (x : NodeState) → ys ≡ xs ++ x ∷ [] → ((node : ℕ) → new node ≡ old node ++ children_of ((x.number, x.parent) ∷ []) node) → ((node : ℕ) → old node ≡ children_of (links_of xs) node) → (node : ℕ) → new node ≡ children_of (links_of ys) node
family-more old new xs ys x e put kept node =
    put node
    ∙ ap (λ zs. zs ++ children_of ((x.number, x.parent) ∷ []) node) (kept node)
    ∙ sym (children-append (links_of xs) ((x.number, x.parent) ∷ []) node)
    ∙ ap (λ all. children_of all node) (sym (links-more xs ys x e))

pub elders-right : (xs ys : List NodeState) (x : NodeState) → ys ≡ xs ++ x ∷ [] → children_of (links_of xs) x.number ≡ [] → is_child x.number x.parent ≡ false → AreElders (links_of xs) → AreElders (links_of ys)
elders-right xs ys x e none own h = elders-same (links_of xs ++ (x.number, x.parent) ∷ []) (links_of ys) (links-more xs ys x e) (elders-more (links_of xs) (x.number, x.parent) none own h)

-- one step of a walk: the next node comes, and then its children

module _ (nodes : List (ℕ × Option ℕ)) (next : ℕ) (pending later children after : List ℕ) (below : nodes_below next nodes ≡ flat_map (subtree nodes) children) (popped : pending ≡ later ++ next ∷ []) (added : after ≡ later ++ reverse children) where
  was : flat_map (subtree nodes) (reverse pending) ≡ next ∷ (nodes_below next nodes ++ flat_map (subtree nodes) (reverse later))
  was = rw (popped, reverse-append later (next ∷ [])) refl

  is : flat_map (subtree nodes) (reverse after) ≡ nodes_below next nodes ++ flat_map (subtree nodes) (reverse later)
  is = rw (added, reverse-append later (reverse children), reverse-reverse children, flat_map-append (subtree nodes) children (reverse later), ← below) refl

  pub walk-step : (numbers whole all : List ℕ) → whole ≡ numbers ++ next ∷ [] → numbers ++ flat_map (subtree nodes) (reverse pending) ≡ all → whole ++ flat_map (subtree nodes) (reverse after) ≡ all
  walk-step numbers whole all pushed h = rw (pushed, is, append_assoc) (rw was at h)

  pub walk-less : length (flat_map (subtree nodes) (reverse after)) < length (flat_map (subtree nodes) (reverse pending))
  walk-less = rw (is, was) (omega arith)
