-- What the calls do to the record that is kept.
use Rattle.rt_super.proofs.Prelude.{◌≡◌, ℕ, zero, suc, ◌+◌, ◌<◌, ◌≤◌, Bool, true, false, cond, not, ◌||◌, ◌&&◌, eqb, List, [], ◌∷◌, ◌++◌, length, map, set, refl, sym, ap, ◌∙◌, arith, Option, Some, None, filter, filter_map, list_any, slice_get, option_map, option_map_or, option_or, option_and_then, is_some, map-append, length-map, list_any-append, find-append, slice_get_past, slice_get_within, nat_tests, NodeState, TreeRecord, node_at, is_known, is_live, live_task, task_on, links, is_child, nodes_below, subtree, stands_in, was_born_ended, is_ended, newly_ended, tasks_on, new_node, with_new, changed, with_end, Matches, placed, is_marked}
use Rattle.std.specs.List.{find}
use Rattle.rt_super.specs.Inside.{state_of}
use Rattle.rt_super.proofs.Below.{stands-append, or_false}

-- tests of places

eqb_suc : (a b : ℕ) → eqb a b ≡ eqb (suc a) (suc b)
eqb_suc a b = grind (arith, nat_tests)

zero_suc : (b : ℕ) → false ≡ eqb 0 (suc b)
zero_suc b = grind (arith, nat_tests)

suc_zero : (b : ℕ) → false ≡ eqb (suc b) 0
suc_zero b = grind (arith, nat_tests)

-- one place more

pub slice_push : {X : Type 0} (xs : List X) (x : X) (n : ℕ) → slice_get (xs ++ x ∷ []) n ≡ option_or (slice_get xs n) (cond (eqb (length xs) n) (Some x) None)
slice_push [] x zero = refl
slice_push [] x (suc n) = ap (λ b. cond b (Some x) None) (zero_suc n)
slice_push (y ∷ ys) x zero = refl
slice_push (y ∷ ys) x (suc n) = slice_push ys x n ∙ ap (λ b. option_or (slice_get ys n) (cond b (Some x) None)) (eqb_suc (length ys) n)

pub marked_push : (ended : List Bool) (flag : Bool) (n : ℕ) → is_marked (ended ++ flag ∷ []) n ≡ (is_marked ended n || (eqb (length ended) n && flag))
marked_push [] flag zero = refl
marked_push [] flag (suc n) = ap (λ b. b && flag) (zero_suc n)
marked_push (b ∷ bs) flag zero = sym (or_false b) ∙ ap (λ t. b || (t && flag)) (suc_zero (length bs))
marked_push (b ∷ bs) flag (suc n) = marked_push bs flag n ∙ ap (λ t. is_marked bs n || (t && flag)) (eqb_suc (length bs) n)

placed_push : (i : ℕ) (ps : List (Option ℕ)) (p : Option ℕ) → placed i (ps ++ p ∷ []) ≡ placed i ps ++ (i + length ps, p) ∷ []
placed_push i [] p = let e : i + 0 ≡ i = omega arith in rw e refl
placed_push i (q ∷ ps) p = let e : i + suc (length ps) ≡ suc i + length ps = omega arith in rw (e, placed_push (suc i) ps p) refl

length-placed : (i : ℕ) (ps : List (Option ℕ)) → length (placed i ps) ≡ length ps
length-placed i [] = refl
length-placed i (p ∷ ps) = ap suc (length-placed (suc i) ps)

-- a changed place

pub slice_set : {X : Type 0} (xs : List X) (n m : ℕ) (y : X) → slice_get (set xs n y) m ≡ cond (eqb m n) (option_map (λ _. y) (slice_get xs m)) (slice_get xs m)
slice_set [] n m y = same_both (eqb m n) None
  where
    same_both : {X : Type 0} (b : Bool) (x : X) → x ≡ cond b x x
    same_both true x = refl
    same_both false x = refl
slice_set (x ∷ xs) zero zero y = refl
slice_set (x ∷ xs) zero (suc m) y = ap (λ b. cond b (option_map (λ _. y) (slice_get xs m)) (slice_get xs m)) (suc_zero m)
slice_set (x ∷ xs) (suc n) zero y = ap (λ b. cond b (Some y) (Some x)) (zero_suc n)
slice_set (x ∷ xs) (suc n) (suc m) y = slice_set xs n m y ∙ ap (λ b. cond b (option_map (λ _. y) (slice_get xs m)) (slice_get xs m)) (eqb_suc m n)

-- what a new node ends with

neither : (a b : Bool) → (a || b) ≡ false → (a ≡ false) × (b ≡ false)
neither true b e = (cc, cc)
neither false b e = (refl, e)

-- a new node adds nothing to what stands below another, unless its parent stands there
below_new : (a n q : ℕ) (xs : List (ℕ × Option ℕ)) → stands_in (a ∷ nodes_below a xs) q ≡ false → nodes_below a (xs ++ (n, Some q) ∷ []) ≡ nodes_below a xs
below_new a n q [] apart = rw ((neither (eqb a q) false apart).0) refl
below_new a n q (x ∷ xs) apart = by (is_child a x.1) apart (λ h. below_new a n q xs h) (λ h. below_new x.0 n q xs h)
  where
    by : (b : Bool) → stands_in (a ∷ cond b ((x.0 ∷ nodes_below x.0 xs) ++ nodes_below a xs) (nodes_below a xs)) q ≡ false → (stands_in (a ∷ nodes_below a xs) q ≡ false → nodes_below a (xs ++ (n, Some q) ∷ []) ≡ nodes_below a xs) → (stands_in (x.0 ∷ nodes_below x.0 xs) q ≡ false → nodes_below x.0 (xs ++ (n, Some q) ∷ []) ≡ nodes_below x.0 xs) → cond b ((x.0 ∷ nodes_below x.0 (xs ++ (n, Some q) ∷ [])) ++ nodes_below a (xs ++ (n, Some q) ∷ [])) (nodes_below a (xs ++ (n, Some q) ∷ [])) ≡ cond b ((x.0 ∷ nodes_below x.0 xs) ++ nodes_below a xs) (nodes_below a xs)
    by true h others first =
        let parts = neither (eqb a q) (stands_in ((x.0 ∷ nodes_below x.0 xs) ++ nodes_below a xs) q) h in
        let halves = neither (stands_in (x.0 ∷ nodes_below x.0 xs) q) (stands_in (nodes_below a xs) q) (sym (stands-append q (x.0 ∷ nodes_below x.0 xs) (nodes_below a xs)) ∙ parts.1) in
        rw (first halves.0, others (rw (parts.0) halves.1)) refl
    by false h others first = others h

any_new : (xs : List (ℕ × Option ℕ)) (n q m : ℕ) (ends : List ℕ) → list_any (λ e. stands_in (subtree xs e) q) ends ≡ false → list_any (λ e. stands_in (subtree (xs ++ (n, Some q) ∷ []) e) m) ends ≡ list_any (λ e. stands_in (subtree xs e) m) ends
any_new xs n q m [] none = refl
any_new xs n q m (e ∷ ends) none =
    let parts = neither (stands_in (subtree xs e) q) (list_any (λ e. stands_in (subtree xs e) q) ends) none in
    rw (below_new e n q xs parts.0, any_new xs n q m ends parts.1) refl

-- nothing stands below a node because of one without a parent
below_alone : (a n : ℕ) (xs : List (ℕ × Option ℕ)) → nodes_below a (xs ++ (n, None) ∷ []) ≡ nodes_below a xs
below_alone a n [] = refl
below_alone a n (x ∷ xs) = rw (below_alone x.0 n xs, below_alone a n xs) refl

or_turned : (a b c : Bool) → ((a || b) || c) ≡ ((a || c) || b)
or_turned true b c = refl
or_turned false true true = refl
or_turned false true false = refl
or_turned false false true = refl
or_turned false false false = refl

-- a parent that isn't ended
abbrev pub Lasts : TreeRecord → Option ℕ → Type 0
Lasts r None = Unit {0}
Lasts r (Some parent) = is_ended r parent ≡ false

-- a changed node

abbrev pub turned : (NodeState → NodeState) → ℕ → NodeState → NodeState
turned change n x = cond (eqb x.number n) (change x) x

-- what a change keeps of a node stays
turned_same : {X : Type 0} (f : NodeState → X) (change : NodeState → NodeState) (n : ℕ) (x : NodeState) → f (change x) ≡ f x → f (turned change n x) ≡ f x
turned_same f change n x e = elim (eqb x.number n) as (λ b. f (cond b (change x) x) ≡ f x) [ true ↦ e | false ↦ refl ]

map_same : {X : Type 0} (f : NodeState → X) (g : NodeState → NodeState) → ((x : NodeState) → f (g x) ≡ f x) → (xs : List NodeState) → map f (map g xs) ≡ map f xs
map_same f g e [] = refl
map_same f g e (x ∷ xs) = rw (e x, map_same f g e xs) refl

find_same : (m : ℕ) (g : NodeState → NodeState) → ((x : NodeState) → (g x).number ≡ x.number) → (xs : List NodeState) → find (λ x. eqb x.number m) (map g xs) ≡ option_map g (find (λ x. eqb x.number m) xs)
find_same m g e [] = refl
find_same m g e (x ∷ xs) =
    ap (λ k. cond (eqb k m) (Some (g x)) (find (λ y. eqb y.number m) (map g xs))) (e x)
    ∙ ap (λ o. cond (eqb x.number m) (Some (g x)) o) (find_same m g e xs)
    ∙ both (eqb x.number m)
  where
    both : (b : Bool) → cond b (Some (g x)) (option_map g (find (λ y. eqb y.number m) xs)) ≡ option_map g (cond b (Some x) (find (λ y. eqb y.number m) xs))
    both true = refl
    both false = refl

found_number : (m : ℕ) (xs : List NodeState) (x : NodeState) → find (λ x. eqb x.number m) xs ≡ Some x → eqb x.number m ≡ true
found_number m [] x e = cc
found_number m (y ∷ ys) x e = by (eqb y.number m) refl (found_number m ys x)
  where
    by : (b : Bool) → eqb y.number m ≡ b → (find (λ x. eqb x.number m) ys ≡ Some x → eqb x.number m ≡ true) → eqb x.number m ≡ true
    by true h rest = let same : y ≡ x = found (rw (h) at e) in rw (← same) h
      where
        found : Some y ≡ Some x → y ≡ x
        found k = cc
    by false h rest = rest (rw (h) at e)

-- a new node has no task
pub free_new : (r : TreeRecord) (n : ℕ) (p : Option ℕ) (flag : Bool) → is_known r n ≡ false → live_task (with_new r n p flag) n ≡ None
free_new r n p flag fresh =
    let new = new_node n p flag in
    let same : eqb n n ≡ true = grind (arith, nat_tests) in
    let at : node_at (with_new r n p flag) n ≡ Some new = find-append (λ x. eqb x.number n) r.nodes (new ∷ []) ∙ ap (λ o. option_or o (cond (eqb n n) (Some new) None)) (unknown (node_at r n) fresh) ∙ ap (λ b. option_or None (cond b (Some new) None)) same in
    rw at refl
  where
    unknown : (o : Option NodeState) → is_some o ≡ false → o ≡ None
    unknown None e = refl
    unknown (Some x) e = cc

-- a change of a node that keeps its number, its parent and how it was born
pub record Keeps (change : NodeState → NodeState) : Type 0 where
  pub number : (x : NodeState) → (change x).number ≡ x.number
  pub parent : (x : NodeState) → (change x).parent ≡ x.parent
  pub born : (x : NodeState) → (change x).born_ended ≡ x.born_ended

-- what is right by a record, and stays right

module _ (ps : List (Option ℕ)) (states : List (Bool × Option ℕ)) (ended : List Bool) (flags : List ℕ) (r : TreeRecord) (s : Matches ps states ended flags r) where
  pub count_kept : length r.nodes ≡ length ps
  count_kept = sym (length-map {B = ℕ × Option ℕ} r.nodes (λ x. (x.number, x.parent))) ∙ ap length s.order ∙ length-placed 0 ps

  pub known_kept : (n : ℕ) → is_known r n ≡ is_some (slice_get states n)
  known_kept n = elim (node_at r n) as (λ o. is_some o ≡ is_some (option_map state_of o)) [ None ↦ refl | Some x ↦ refl ] ∙ ap is_some (s.nodes n)

  pub live_kept : (n : ℕ) → is_live r n ≡ option_map_or (λ x. x.0) (slice_get states n) false
  live_kept n = elim (node_at r n) as (λ o. option_map_or (λ x. x.live) o false ≡ option_map_or (λ x. x.0) (option_map state_of o) false) [ None ↦ refl | Some x ↦ refl ] ∙ ap (λ o. option_map_or (λ x. x.0) o false) (s.nodes n)

  pub live_within : (n : ℕ) → is_live r n ≡ true → n < length states
  live_within n live = by (slice_get states n) refl (sym (live_kept n) ∙ live)
    where
      by : (o : Option (Bool × Option ℕ)) → slice_get states n ≡ o → option_map_or (λ x. x.0) o false ≡ true → n < length states
      by None e on = cc
      by (Some x) e on = slice_get_within states n x e

  pub known_within : (n : ℕ) → is_known r n ≡ true → n < length states
  known_within n known = by (slice_get states n) refl (sym (known_kept n) ∙ known)
    where
      by : (o : Option (Bool × Option ℕ)) → slice_get states n ≡ o → is_some o ≡ true → n < length states
      by None e on = cc
      by (Some x) e on = slice_get_within states n x e

  task_kept : (n : ℕ) → task_on r n ≡ option_and_then (λ x. x.1) (slice_get states n)
  task_kept n = elim (node_at r n) as (λ o. option_and_then (λ x. x.task) o ≡ option_and_then (λ x. x.1) (option_map state_of o)) [ None ↦ refl | Some x ↦ refl ] ∙ ap (λ o. option_and_then (λ x. x.1) o) (s.nodes n)

  pub record_end : (n : ℕ) (after : List Bool) (more : List ℕ) (tasks : ℕ → Option ℕ) → n < length states → ((m : ℕ) → is_marked after m ≡ (is_marked ended m || stands_in (subtree (placed 0 ps) n) m)) → ((m : ℕ) → tasks m ≡ option_and_then (λ x. x.1) (slice_get states m)) → more ≡ flags ++ filter_map tasks (filter (λ m. not (is_marked ended m)) (subtree (placed 0 ps) n)) → Matches ps states after more (with_end r n)
  record_end n after more tasks known marks same noted =
      let there : is_known r n ≡ true = known_kept n ∙ within states n known in
      let flagged : TreeRecord = record { nodes = r.nodes; ends = r.ends ++ n ∷ []; flags = r.flags ++ tasks_on r (newly_ended r n) } in
      let is : with_end r n ≡ flagged = rw there refl in
      let fresh : tasks_on r (newly_ended r n) ≡ filter_map tasks (filter (λ m. not (is_marked ended m)) (subtree (placed 0 ps) n)) = λ i. filter_map (λ m. (task_kept m ∙ sym (same m)) i) (filter (λ m. not (s.ended m i)) (subtree (s.order i) n)) in
      let right : Matches ps states after more flagged = record {
        order = s.order;
        nodes = s.nodes;
        ended = λ m. all m;
        flags = ap (λ fs. fs ++ tasks_on r (newly_ended r n)) s.flags ∙ ap (λ fs. flags ++ fs) fresh ∙ sym noted;
      } in
      rw is right
    where
      within : {X : Type 0} (xs : List X) (n : ℕ) → n < length xs → is_some (slice_get xs n) ≡ true
      within [] n h = absurd (omega arith)
      within (x ∷ xs) zero h = refl
      within (x ∷ xs) (suc n) h = within xs n (omega arith)

      or_end : (b a s : Bool) → (b || (a || (s || false))) ≡ ((b || a) || s)
      or_end true a s = refl
      or_end false true s = refl
      or_end false false s = or_false s

      all : (m : ℕ) → (was_born_ended r m || list_any (λ e. stands_in (subtree (links r) e) m) (r.ends ++ n ∷ [])) ≡ is_marked after m
      all m =
          rw (list_any-append (λ e. stands_in (subtree (links r) e) m) r.ends (n ∷ []), or_end (was_born_ended r m) (list_any (λ e. stands_in (subtree (links r) e) m) r.ends) (stands_in (subtree (links r) n) m))
          (ap (λ b. b || stands_in (subtree (links r) n) m) (s.ended m) ∙ ap (λ ls. is_marked ended m || stands_in (subtree ls n) m) s.order ∙ sym (marks m))

  pub record_end_past : (n : ℕ) → length states ≤ n → Matches ps states ended flags (with_end r n)
  record_end_past n past =
      let there : is_known r n ≡ false = known_kept n ∙ ap is_some (slice_get_past states n past) in
      let is : with_end r n ≡ r = rw there refl in
      rw is s

  pub record_new : (p : Option ℕ) (flag : Bool) → length ended ≡ length states → length ps ≡ length states → Lasts r p → Matches (ps ++ p ∷ []) (states ++ (true, None) ∷ []) (ended ++ flag ∷ []) flags (with_new r (length states) p flag)
  record_new p flag lengths same lasts = record {
    order = rw (last, placed_push 0 ps p, at, s.order) refl;
    nodes = λ n. rw (find-append (λ x. eqb x.number n) r.nodes (new ∷ []), slice_push {X = Bool × Option ℕ} states (true, None) n) (known n (node_at r n) (s.nodes n));
    ended = λ n. rw (birth n, last, others p lasts n, or_turned (was_born_ended r n) (eqb (length states) n && flag) (by_ends n), s.ended n, ← lengths) (sym (marked_push ended flag n));
    flags = s.flags;
  }
    where
      new : NodeState
      new = new_node (length states) p flag

      at : 0 + length ps ≡ length states
      at = omega arith

      last : links (with_new r (length states) p flag) ≡ links r ++ (length states, p) ∷ []
      last = map-append {B = ℕ × Option ℕ} (λ x. (x.number, x.parent)) r.nodes (new ∷ [])

      known : (n : ℕ) (o : Option NodeState) → option_map state_of o ≡ slice_get states n → option_map state_of (option_or o (cond (eqb (length states) n) (Some new) None)) ≡ option_or (slice_get states n) (cond (eqb (length states) n) (Some (true, None)) None)
      known n None e = rw (← e) (elim (eqb (length states) n) as (λ b. option_map state_of (cond b (Some new) None) ≡ cond b (Some (true, None)) None) [ true ↦ refl | false ↦ refl ])
      known n (Some x) e = rw (← e) refl

      born : (n : ℕ) (o : Option NodeState) → option_map state_of o ≡ slice_get states n → option_map_or (λ x. x.born_ended) (option_or o (cond (eqb (length states) n) (Some new) None)) false ≡ (option_map_or (λ x. x.born_ended) o false || (eqb (length states) n && flag))
      born n None e = elim (eqb (length states) n) as (λ b. option_map_or (λ x. x.born_ended) (cond b (Some new) None) false ≡ (b && flag)) [ true ↦ refl | false ↦ refl ]
      born n (Some x) e =
          let within = slice_get_within states n (state_of x) (sym e) in
          let other : eqb (length states) n ≡ false = grind (arith, nat_tests) in
          rw other (sym (or_false x.born_ended))

      birth : (n : ℕ) → was_born_ended (with_new r (length states) p flag) n ≡ (was_born_ended r n || (eqb (length states) n && flag))
      birth n = ap (λ o. option_map_or (λ x. x.born_ended) o false) (find-append (λ x. eqb x.number n) r.nodes (new ∷ [])) ∙ born n (node_at r n) (s.nodes n)

      by_ends : ℕ → Bool
      by_ends n = list_any (λ e. stands_in (subtree (links r) e) n) r.ends

      others : (p : Option ℕ) → Lasts r p → (n : ℕ) → list_any (λ e. stands_in (subtree (links r ++ (length states, p) ∷ []) e) n) r.ends ≡ by_ends n
      others None lasts n = λ i. list_any (λ e. stands_in (e ∷ below_alone e (length states) (links r) i) n) r.ends
      others (Some q) lasts n = any_new (links r) (length states) q n r.ends (neither (was_born_ended r q) (list_any (λ e. stands_in (subtree (links r) e) q) r.ends) lasts).1

  -- a new node ends nothing else
  pub ended_new : (p : Option ℕ) (flag : Bool) (number : ℕ) → number ≡ length states → length ended ≡ length states → length ps ≡ length states → Lasts r p → (n : ℕ) → is_ended (with_new r number p flag) n ≡ (is_ended r n || (eqb number n && flag))
  ended_new p flag number place lengths same lasts n = rw place ((record_new p flag lengths same lasts).ended n ∙ marked_push ended flag n ∙ ap (λ k. is_marked ended n || (eqb k n && flag)) lengths ∙ ap (λ b. b || (eqb (length states) n && flag)) (sym (s.ended n)))

  pub record_changed : (change : NodeState → NodeState) (n : ℕ) (y : Bool × Option ℕ) → Keeps change → ((x : NodeState) → slice_get states n ≡ Some (state_of x) → state_of (change x) ≡ y) → Matches ps (set states n y) ended flags (changed change n r)
  record_changed change n y keeps kept = record {
    order = same_links ∙ s.order;
    nodes = λ m. rw (find_same m (turned change n) number r.nodes, slice_set states n m y) (known m (node_at r m) refl (s.nodes m));
    ended = λ m. rw (born m, same_links) (s.ended m);
    flags = s.flags;
  }
    where
      number : (x : NodeState) → (turned change n x).number ≡ x.number
      number x = turned_same (λ x. x.number) change n x (keeps.number x)

      same_links : links (changed change n r) ≡ links r
      same_links = map_same {X = ℕ × Option ℕ} (λ x. (x.number, x.parent)) (turned change n) (λ x. turned_same {X = ℕ × Option ℕ} (λ x. (x.number, x.parent)) change n x (pair x)) r.nodes
        where
          pair : (x : NodeState) → let a : ℕ × Option ℕ = ((change x).number, (change x).parent) in let b : ℕ × Option ℕ = (x.number, x.parent) in a ≡ b
          pair x = rw (keeps.number x, keeps.parent x) refl

      known : (m : ℕ) (o : Option NodeState) → node_at r m ≡ o → option_map state_of o ≡ slice_get states m → option_map state_of (option_map (turned change n) o) ≡ cond (eqb m n) (option_map (λ _. y) (slice_get states m)) (slice_get states m)
      known m None at e = rw (← e) (elim (eqb m n) as (λ b. let none : Option (Bool × Option ℕ) = None in none ≡ cond b none none) [ true ↦ refl | false ↦ refl ])
      known m (Some x) at e = rw (← e) (by (eqb m n) refl)
        where
          by : (b : Bool) → eqb m n ≡ b → Some (state_of (turned change n x)) ≡ cond b (Some y) (Some (state_of x))
          by true h =
              let here = found_number m r.nodes x at in
              let same : m ≡ n = grind (arith, nat_tests) in
              let there : eqb x.number n ≡ true = rw (← same) here in
              rw there (ap (λ z. Some z) (kept x (rw (← same) (sym e))))
          by false h =
              let here = found_number m r.nodes x at in
              let there : eqb x.number n ≡ false = grind (arith, nat_tests) in
              rw there refl

      born : (m : ℕ) → was_born_ended (changed change n r) m ≡ was_born_ended r m
      born m = rw (find_same m (turned change n) number r.nodes) (by (node_at r m))
        where
          by : (o : Option NodeState) → option_map_or (λ x. x.born_ended) (option_map (turned change n) o) false ≡ option_map_or (λ x. x.born_ended) o false
          by None = refl
          by (Some x) = turned_same (λ x. x.born_ended) change n x (keeps.born x)
