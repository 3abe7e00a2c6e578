-- Ends in a tree of nodes whose numbers are of their own: who has ended stays ended, and so is what stands below.
use Rattle.rt_laws.proofs.Prelude.{◌≡◌, ◌⊎◌, inl, inr, ℕ, List, [], ◌∷◌, ◌++◌, map, filter, filter_map, Option, Some, None, is_some, option_and_then, option_map, eq-eqb, Bool, true, false, not, ◌||◌, ◌==◌, eqb, if◌then◌else◌, refl, sym, ap, ◌∙◌, arith, find_by, list_any, option_map_or, cases_Bool, NodeState, TreeRecord, new_node, node_at, is_known, is_live, task_on, links, is_child, nodes_below, subtree, stands_in, was_born_ended, is_ended, newly_ended, tasks_on, with_new, changed, with_task, with_release, with_end, stands-append, has_number}

pub or-cases : (a b : Bool) → (a || b) ≡ true → (a ≡ true) ⊎ (b ≡ true)
or-cases true b h = inl refl
or-cases false b h = inr h

pub or-left : (a b : Bool) → a ≡ true → (a || b) ≡ true
or-left true b h = refl
or-left false b h = absurd (cc)

pub or-right : (a b : Bool) → b ≡ true → (a || b) ≡ true
or-right true b h = refl
or-right false b h = h

abbrev pub Links : Type 0
Links = List (ℕ × Option ℕ)

-- a number stands among them
abbrev pub numbered : ℕ → Links → Bool
numbered j [] = false
numbered j (x ∷ l) = eqb x.0 j || numbered j l

-- a further node changes nothing below others

below-push : (a : ℕ) (l : Links) (x : ℕ × Option ℕ) (j : ℕ) → eqb x.0 j ≡ false → stands_in (nodes_below a (l ++ x ∷ [])) j ≡ stands_in (nodes_below a l) j
below-push a [] x j e = elim (cases_Bool (is_child a x.1)) [ inl c ↦ rw (c, e) refl | inr c ↦ rw c refl ]
below-push a (y ∷ l) x j e = elim (cases_Bool (is_child a y.1)) [
  | inl c ↦ rw (c, stands-append j (y.0 ∷ nodes_below y.0 (l ++ x ∷ [])) (nodes_below a (l ++ x ∷ [])), stands-append j (y.0 ∷ nodes_below y.0 l) (nodes_below a l), below-push y.0 l x j e, below-push a l x j e) refl
  | inr c ↦ rw c (below-push a l x j e)
]

any-push : (l : Links) (x : ℕ × Option ℕ) (j : ℕ) (ends : List ℕ) → eqb x.0 j ≡ false → list_any (λ e. stands_in (subtree (l ++ x ∷ []) e) j) ends ≡ list_any (λ e. stands_in (subtree l e) j) ends
any-push l x j [] e = refl
any-push l x j (a ∷ ends) e = rw (below-push a l x j e, any-push l x j ends e) refl

links-push : (xs : List NodeState) (x : NodeState) → map {B = ℕ × Option ℕ} (λ (x : NodeState). (x.number, x.parent)) (xs ++ x ∷ []) ≡ map {B = ℕ × Option ℕ} (λ (x : NodeState). (x.number, x.parent)) xs ++ (x.number, x.parent) ∷ []
links-push [] x = refl
links-push (y ∷ xs) x = ap (λ l. (y.number, y.parent) ∷ l) (links-push xs x)

node-push : (xs : List NodeState) (x : NodeState) (j : ℕ) → eqb x.number j ≡ false → find_by (λ (x : NodeState). x.number == j) (xs ++ x ∷ []) ≡ find_by (λ (x : NodeState). x.number == j) xs
node-push [] x j e = rw e refl
node-push (y ∷ xs) x j e = elim (cases_Bool (eqb y.number j)) [ inl c ↦ rw c refl | inr c ↦ rw c (node-push xs x j e) ]

node-own : (xs : List NodeState) (x : NodeState) → is_some (find_by (λ (y : NodeState). y.number == x.number) xs) ≡ false → find_by (λ (y : NodeState). y.number == x.number) (xs ++ x ∷ []) ≡ Some x
node-own [] x h = grind arith
node-own (y ∷ xs) x h = elim (cases_Bool (eqb y.number x.number)) [
  | inl c ↦ (let z : true ≡ false = rw c at h in absurd (cc))
  | inr c ↦ rw c (node-own xs x (rw c at h))
]

module _ (r : TreeRecord) (number : ℕ) (parent : Option ℕ) (born : Bool) where
  abbrev made : TreeRecord
  made = with_new r number parent born

  pub ended-new : (j : ℕ) → eqb number j ≡ false → is_ended made j ≡ is_ended r j
  ended-new j e = rw (node-push r.nodes (new_node number parent born) j e, links-push r.nodes (new_node number parent born), any-push (links r) (number, parent) j r.ends e) refl

  born-new : (j : ℕ) → eqb number j ≡ false → was_born_ended made j ≡ was_born_ended r j
  born-new j e = rw (node-push r.nodes (new_node number parent born) j e) refl

  pub task-new : (j : ℕ) → is_known r number ≡ false → task_on made j ≡ task_on r j
  task-new j u = elim (cases_Bool (eqb number j)) [
    | inl e ↦ (
        let same : number ≡ j = grind arith in
        let none : task_on r number ≡ None = none-on (node_at r number) u in
        let here : task_on made number ≡ None = rw (node-own r.nodes (new_node number parent born) u) refl in
        rw (← same) (here ∙ sym none))
    | inr e ↦ rw (node-push r.nodes (new_node number parent born) j e) refl
  ]
    where
      none-on : (x : Option NodeState) → is_some x ≡ false → option_and_then (λ (x : NodeState). x.task) x ≡ None
      none-on None h = refl
      none-on (Some x) h = absurd (cc)

  pub born-own : is_known r number ≡ false → born ≡ true → is_ended made number ≡ true
  born-own u h = or-left (was_born_ended made number) (list_any (λ e. stands_in (subtree (links made) e) number) made.ends) (rw (node-own r.nodes (new_node number parent born) u) h)

-- a node that is changed keeps its number and its parent

pub record Keeps (f : NodeState → NodeState) : Type 0 where
  pub number : (x : NodeState) → (f x).number ≡ x.number
  pub parent : (x : NodeState) → (f x).parent ≡ x.parent
  pub born : (x : NodeState) → (f x).born_ended ≡ x.born_ended

module _ (f : NodeState → NodeState) (keeps : Keeps f) (n : ℕ) where
  abbrev pub turned : NodeState → NodeState
  turned x = if eqb x.number n then f x else x

  turned-number : (x : NodeState) → (turned x).number ≡ x.number
  turned-number x = elim (cases_Bool (eqb x.number n)) [ inl e ↦ rw e (keeps.number x) | inr e ↦ rw e refl ]

  turned-parent : (x : NodeState) → (turned x).parent ≡ x.parent
  turned-parent x = elim (cases_Bool (eqb x.number n)) [ inl e ↦ rw e (keeps.parent x) | inr e ↦ rw e refl ]

  turned-born : (x : NodeState) → (turned x).born_ended ≡ x.born_ended
  turned-born x = elim (cases_Bool (eqb x.number n)) [ inl e ↦ rw e (keeps.born x) | inr e ↦ rw e refl ]

  links-changed : (xs : List NodeState) → map {B = ℕ × Option ℕ} (λ (x : NodeState). (x.number, x.parent)) (map turned xs) ≡ map {B = ℕ × Option ℕ} (λ (x : NodeState). (x.number, x.parent)) xs
  links-changed [] = refl
  links-changed (x ∷ xs) = rw (turned-number x, turned-parent x, links-changed xs) refl

  found-changed : (j : ℕ) (xs : List NodeState) → find_by (λ (x : NodeState). x.number == j) (map turned xs) ≡ option_map turned (find_by (λ (x : NodeState). x.number == j) xs)
  found-changed j [] = refl
  found-changed j (x ∷ xs) = elim (cases_Bool (eqb x.number j)) [
    | inl e ↦ rw (turned-number x, e) refl
    | inr e ↦ rw (turned-number x, e) (found-changed j xs)
  ]

  module _ (r : TreeRecord) where
    born-changed : (j : ℕ) → was_born_ended (changed f n r) j ≡ was_born_ended r j
    born-changed j = rw (found-changed j r.nodes) (born-of (node_at r j))
      where
        born-of : (x : Option NodeState) → option_map_or (λ (x : NodeState). x.born_ended) (option_map turned x) false ≡ option_map_or (λ (x : NodeState). x.born_ended) x false
        born-of None = refl
        born-of (Some x) = turned-born x

    pub ended-changed : (j : ℕ) → is_ended (changed f n r) j ≡ is_ended r j
    ended-changed j = rw (born-changed j, links-changed r.nodes) refl

-- the end of a node

list-any-last : (l : Links) (j n : ℕ) (ends : List ℕ) → list_any (λ e. stands_in (subtree l e) j) (ends ++ n ∷ []) ≡ (list_any (λ e. stands_in (subtree l e) j) ends || stands_in (subtree l n) j)
list-any-last l j n [] = or-false (stands_in (subtree l n) j)
  where
    or-false : (b : Bool) → (b || false) ≡ b
    or-false true = refl
    or-false false = refl
list-any-last l j n (e ∷ ends) = rw (list-any-last l j n ends) (or-assoc (stands_in (subtree l e) j) (list_any (λ e. stands_in (subtree l e) j) ends) (stands_in (subtree l n) j))
  where
    or-assoc : (a b c : Bool) → (a || (b || c)) ≡ ((a || b) || c)
    or-assoc true b c = refl
    or-assoc false b c = refl

module _ (r : TreeRecord) (n : ℕ) where
  pub ended-end : (j : ℕ) → is_ended (with_end r n) j ≡ true → (is_ended r j ≡ true) ⊎ ((is_known r n ≡ true) × (stands_in (subtree (links r) n) j ≡ true))
  ended-end j h = elim (cases_Bool (is_known r n)) [
    | inl k ↦ (
        let now : (was_born_ended r j || list_any (λ e. stands_in (subtree (links r) e) j) (r.ends ++ n ∷ [])) ≡ true = rw k at h in
        elim (or-cases (was_born_ended r j) (list_any (λ e. stands_in (subtree (links r) e) j) (r.ends ++ n ∷ [])) now) [
          | inl b ↦ inl (or-left (was_born_ended r j) (list_any (λ e. stands_in (subtree (links r) e) j) r.ends) b)
          | inr a ↦ elim (or-cases (list_any (λ e. stands_in (subtree (links r) e) j) r.ends) (stands_in (subtree (links r) n) j) (sym (list-any-last (links r) j n r.ends) ∙ a)) [
            | inl o ↦ inl (or-right (was_born_ended r j) (list_any (λ e. stands_in (subtree (links r) e) j) r.ends) o)
            | inr o ↦ inr (k, o)
          ]
        ])
    | inr k ↦ inl (rw k at h)
  ]

  pub ended-stays : (j : ℕ) → is_ended r j ≡ true → is_ended (with_end r n) j ≡ true
  ended-stays j h = elim (cases_Bool (is_known r n)) [
    | inl k ↦ rw k (elim (or-cases (was_born_ended r j) (list_any (λ e. stands_in (subtree (links r) e) j) r.ends) h) [
      | inl b ↦ or-left (was_born_ended r j) (list_any (λ e. stands_in (subtree (links r) e) j) (r.ends ++ n ∷ [])) b
      | inr o ↦ or-right (was_born_ended r j) (list_any (λ e. stands_in (subtree (links r) e) j) (r.ends ++ n ∷ [])) (list-any-last (links r) j n r.ends ∙ or-left (list_any (λ e. stands_in (subtree (links r) e) j) r.ends) (stands_in (subtree (links r) n) j) o)
    ])
    | inr k ↦ rw k h
  ]

  pub ended-now : (j : ℕ) → is_known r n ≡ true → stands_in (subtree (links r) n) j ≡ true → is_ended (with_end r n) j ≡ true
  ended-now j k h = rw k (or-right (was_born_ended r j) (list_any (λ e. stands_in (subtree (links r) e) j) (r.ends ++ n ∷ [])) (list-any-last (links r) j n r.ends ∙ or-right (list_any (λ e. stands_in (subtree (links r) e) j) r.ends) (stands_in (subtree (links r) n) j) h))

-- its tasks are flagged

filtered-has : (task : ℕ → Option ℕ) (keep : ℕ → Bool) (xs : List ℕ) (j k : ℕ) → stands_in xs j ≡ true → keep j ≡ true → task j ≡ Some k → has_number k (filter_map task (filter keep xs)) ≡ true
filtered-has task keep [] j k h p t = absurd (cc)
filtered-has task keep (x ∷ xs) j k h p t = elim (or-cases (eqb x j) (stands_in xs j) h) [
  | inl e ↦ (
      let same : x ≡ j = grind arith in
      rw (same, p, t) (or-left (eqb k k) (has_number k (filter_map task (filter keep xs))) (eq-eqb k k refl)))
  | inr o ↦ kept (keep x) refl (task x) refl (filtered-has task keep xs j k o p t)
]
  where
    kept : (b : Bool) → keep x ≡ b → (o : Option ℕ) → task x ≡ o → has_number k (filter_map task (filter keep xs)) ≡ true → has_number k (filter_map task (filter keep (x ∷ xs))) ≡ true
    kept false e o f more = rw e more
    kept true e None f more = rw (e, f) more
    kept true e (Some other) f more = rw (e, f) (or-right (eqb other k) (has_number k (filter_map task (filter keep xs))) more)

pub flags-end : (r : TreeRecord) (n j k : ℕ) → is_known r n ≡ true → stands_in (subtree (links r) n) j ≡ true → is_ended r j ≡ false → task_on r j ≡ Some k → has_number k (tasks_on r (newly_ended r n)) ≡ true
flags-end r n j k known h e t = filtered-has (task_on r) (λ m. not (is_ended r m)) (subtree (links r) n) j k h (rw e refl) t

-- what stands below

-- the parent of each stands before it, and wasn't born ended
abbrev pub AreOlder : Links → Type 0
AreOlder [] = Unit {0}
AreOlder (x ∷ l) = ((p : ℕ) → x.1 ≡ Some p → numbered p (x ∷ l) ≡ false) × AreOlder l

numbered-below : (a : ℕ) (l : Links) (j : ℕ) → stands_in (nodes_below a l) j ≡ true → numbered j l ≡ true
numbered-below a [] j h = h
numbered-below a (x ∷ l) j h = elim (cases_Bool (is_child a x.1)) [
  | inl c ↦ (
      let both : stands_in ((x.0 ∷ nodes_below x.0 l) ++ nodes_below a l) j ≡ true = rw c at h in
      elim (or-cases (stands_in (x.0 ∷ nodes_below x.0 l) j) (stands_in (nodes_below a l) j) (sym (stands-append j (x.0 ∷ nodes_below x.0 l) (nodes_below a l)) ∙ both)) [
        | inl k ↦ elim (or-cases (eqb x.0 j) (stands_in (nodes_below x.0 l) j) k) [
          | inl e ↦ or-left (eqb x.0 j) (numbered j l) e
          | inr o ↦ or-right (eqb x.0 j) (numbered j l) (numbered-below x.0 l j o)
        ]
        | inr o ↦ or-right (eqb x.0 j) (numbered j l) (numbered-below a l j o)
      ])
  | inr c ↦ or-right (eqb x.0 j) (numbered j l) (numbered-below a l j (rw c at h))
]

child-of : (n : ℕ) (p : Option ℕ) → is_child n p ≡ true → p ≡ Some n
child-of n None h = absurd (cc)
child-of n (Some p) h = let same : n ≡ p = grind arith in rw same refl

-- what stands below the first of them, or below another
below-first : (l : Links) (x : ℕ × Option ℕ) (a j : ℕ) → is_child a x.1 ≡ true → stands_in (x.0 ∷ nodes_below x.0 l) j ≡ true → stands_in (nodes_below a (x ∷ l)) j ≡ true
below-first l x a j c f = rw c (stands-append j (x.0 ∷ nodes_below x.0 l) (nodes_below a l) ∙ or-left (stands_in (x.0 ∷ nodes_below x.0 l) j) (stands_in (nodes_below a l) j) f)

below-rest : (l : Links) (x : ℕ × Option ℕ) (a j : ℕ) → stands_in (nodes_below a l) j ≡ true → stands_in (nodes_below a (x ∷ l)) j ≡ true
below-rest l x a j f = elim (cases_Bool (is_child a x.1)) [
  | inl c ↦ rw c (stands-append j (x.0 ∷ nodes_below x.0 l) (nodes_below a l) ∙ or-right (stands_in (x.0 ∷ nodes_below x.0 l) j) (stands_in (nodes_below a l) j) f)
  | inr c ↦ rw c f
]

below-split : (l : Links) (x : ℕ × Option ℕ) (a j : ℕ) → stands_in (nodes_below a (x ∷ l)) j ≡ true → ((is_child a x.1 ≡ true) × (stands_in (x.0 ∷ nodes_below x.0 l) j ≡ true)) ⊎ (stands_in (nodes_below a l) j ≡ true)
below-split l x a j h = elim (cases_Bool (is_child a x.1)) [
  | inl c ↦ (
      let both : stands_in ((x.0 ∷ nodes_below x.0 l) ++ nodes_below a l) j ≡ true = rw c at h in
      elim (or-cases (stands_in (x.0 ∷ nodes_below x.0 l) j) (stands_in (nodes_below a l) j) (sym (stands-append j (x.0 ∷ nodes_below x.0 l) (nodes_below a l)) ∙ both)) [
        | inl k ↦ inl (c, k)
        | inr k ↦ inr k
      ])
  | inr c ↦ inr (rw c at h)
]

-- below what stands below
below-below : (l : Links) (a n j : ℕ) → AreOlder l → stands_in (nodes_below a l) n ≡ true → stands_in (nodes_below n l) j ≡ true → stands_in (nodes_below a l) j ≡ true
below-below [] a n j o h k = absurd (cc)
below-below (x ∷ l) a n j o h k = elim (below-split l x n j k) [
  | inl c ↦ (
      let older = o.0 n (child-of n x.1 c.0) in
      let younger = numbered-below a (x ∷ l) n h in
      absurd (cc))
  | inr under ↦ elim (below-split l x a n h) [
    | inl c ↦ elim (or-cases (eqb x.0 n) (stands_in (nodes_below x.0 l) n) c.1) [
      | inl e ↦ (
          let same : x.0 ≡ n = grind arith in
          below-first l x a j c.0 (or-right (eqb x.0 j) (stands_in (nodes_below x.0 l) j) (rw same under)))
      | inr m ↦ below-first l x a j c.0 (or-right (eqb x.0 j) (stands_in (nodes_below x.0 l) j) (below-below l x.0 n j o.1 m under))
    ]
    | inr m ↦ below-rest l x a j (below-below l a n j o.1 m under)
  ]
]

subtree-below : (l : Links) (a n j : ℕ) → AreOlder l → stands_in (subtree l a) n ≡ true → stands_in (nodes_below n l) j ≡ true → stands_in (subtree l a) j ≡ true
subtree-below l a n j o h k = elim (or-cases (eqb a n) (stands_in (nodes_below a l) n) h) [
  | inl e ↦ (let same : a ≡ n = grind arith in or-right (eqb a j) (stands_in (nodes_below a l) j) (rw same k))
  | inr m ↦ or-right (eqb a j) (stands_in (nodes_below a l) j) (below-below l a n j o m k)
]

any-below : (l : Links) (n j : ℕ) (ends : List ℕ) → AreOlder l → list_any (λ e. stands_in (subtree l e) n) ends ≡ true → stands_in (nodes_below n l) j ≡ true → list_any (λ e. stands_in (subtree l e) j) ends ≡ true
any-below l n j [] o h k = h
any-below l n j (e ∷ ends) o h k = elim (or-cases (stands_in (subtree l e) n) (list_any (λ e. stands_in (subtree l e) n) ends) h) [
  | inl m ↦ or-left (stands_in (subtree l e) j) (list_any (λ e. stands_in (subtree l e) j) ends) (subtree-below l e n j o m k)
  | inr m ↦ or-right (stands_in (subtree l e) j) (list_any (λ e. stands_in (subtree l e) j) ends) (any-below l n j ends o m k)
]

-- each parent is known, and wasn't born ended
abbrev pub AreChildren : TreeRecord → Links → Type 0
AreChildren r [] = Unit {0}
AreChildren r (x ∷ l) = ((p : ℕ) → x.1 ≡ Some p → (is_known r p ≡ true) × (was_born_ended r p ≡ false)) × AreChildren r l

none-below : (r : TreeRecord) (n j : ℕ) (l : Links) → AreChildren r l → was_born_ended r n ≡ true → stands_in (nodes_below n l) j ≡ true → ⊥
none-below r n j [] c b h = cc
none-below r n j (x ∷ l) c b h = elim (below-split l x n j h) [
  | inl k ↦ (let z = (c.0 n (child-of n x.1 k.0)).1 in cc)
  | inr m ↦ none-below r n j l c.1 b m
]

pub record IsTree (r : TreeRecord) : Type 0 where
  pub older : AreOlder (links r)
  pub children : AreChildren r (links r)

pub ended-below : (r : TreeRecord) (n j : ℕ) → IsTree r → is_ended r n ≡ true → stands_in (nodes_below n (links r)) j ≡ true → is_ended r j ≡ true
ended-below r n j t h k = elim (or-cases (was_born_ended r n) (list_any (λ e. stands_in (subtree (links r) e) n) r.ends) h) [
  | inl b ↦ absurd (none-below r n j (links r) t.children b k)
  | inr m ↦ or-right (was_born_ended r j) (list_any (λ e. stands_in (subtree (links r) e) j) r.ends) (any-below (links r) n j r.ends t.older m k)
]

-- a tree stays one

numbered-push : (l : Links) (x : ℕ × Option ℕ) (p : ℕ) → numbered p l ≡ false → eqb x.0 p ≡ false → numbered p (l ++ x ∷ []) ≡ false
numbered-push [] x p h e = rw e refl
numbered-push (y ∷ l) x p h e = elim (cases_Bool (eqb y.0 p)) [
  | inl c ↦ (let z : true ≡ false = rw c at h in absurd (cc))
  | inr c ↦ rw c (numbered-push l x p (rw c at h) e)
]

older-push : (r : TreeRecord) (l : Links) (x : ℕ × Option ℕ) → AreOlder l → AreChildren r l → is_known r x.0 ≡ false → ((p : ℕ) → x.1 ≡ Some p → is_known r p ≡ true) → AreOlder (l ++ x ∷ [])
older-push r [] x o c u k = ((λ p e. own p (k p e)), tt)
  where
    own : (p : ℕ) → is_known r p ≡ true → numbered p (x ∷ []) ≡ false
    own p h = elim (cases_Bool (eqb x.0 p)) [
      | inl e ↦ (let same : x.0 ≡ p = grind arith in let z : is_known r p ≡ false = rw same at u in absurd (cc))
      | inr e ↦ rw e refl
    ]
older-push r (y ∷ l) x o c u k = ((λ p e. numbered-push (y ∷ l) x p (o.0 p e) (apart p (c.0 p e).0)), older-push r l x o.1 c.1 u k)
  where
    apart : (p : ℕ) → is_known r p ≡ true → eqb x.0 p ≡ false
    apart p h = elim (cases_Bool (eqb x.0 p)) [
      | inl e ↦ (let same : x.0 ≡ p = grind arith in let z : is_known r p ≡ false = rw same at u in absurd (cc))
      | inr e ↦ e
    ]

pub unlike : (r : TreeRecord) (number j : ℕ) → is_known r number ≡ false → is_known r j ≡ true → eqb number j ≡ false
unlike r number j u k = elim (cases_Bool (eqb number j)) [
  | inl e ↦ (let same : number ≡ j = grind arith in let z : is_known r j ≡ false = rw same at u in absurd (cc))
  | inr e ↦ e
]

module _ (r : TreeRecord) (number : ℕ) (parent : Option ℕ) (born : Bool) (u : is_known r number ≡ false) where
  pub known-new : (j : ℕ) → is_known r j ≡ true → is_known (with_new r number parent born) j ≡ true
  known-new j k = rw (node-push r.nodes (new_node number parent born) j (unlike r number j u k)) k

  children-push : (l : Links) → AreChildren r l → ((p : ℕ) → parent ≡ Some p → (is_known r p ≡ true) × (was_born_ended r p ≡ false)) → AreChildren (with_new r number parent born) (l ++ (number, parent) ∷ [])
  children-push [] c k = ((λ p e. (known-new p (k p e).0, born-new r number parent born p (unlike r number p u (k p e).0) ∙ (k p e).1)), tt)
  children-push (x ∷ l) c k = ((λ p e. (known-new p (c.0 p e).0, born-new r number parent born p (unlike r number p u (c.0 p e).0) ∙ (c.0 p e).1)), children-push l c.1 k)

  pub tree-new : IsTree r → ((p : ℕ) → parent ≡ Some p → (is_known r p ≡ true) × (was_born_ended r p ≡ false)) → IsTree (with_new r number parent born)
  tree-new t k = record {
    older = rw (links-push r.nodes (new_node number parent born)) (older-push r (links r) (number, parent) t.older t.children u (λ p e. (k p e).0));
    children = rw (links-push r.nodes (new_node number parent born)) (children-push (links r) t.children k);
  }

module _ (f : NodeState → NodeState) (keeps : Keeps f) (n : ℕ) (r : TreeRecord) where
  pub known-changed : (j : ℕ) → is_known (changed f n r) j ≡ is_known r j
  known-changed j = rw (found-changed f keeps n j r.nodes) (some-turned (node_at r j))
    where
      some-turned : (x : Option NodeState) → is_some (option_map (turned f keeps n) x) ≡ is_some x
      some-turned None = refl
      some-turned (Some x) = refl

  children-changed : (l : Links) → AreChildren r l → AreChildren (changed f n r) l
  children-changed [] c = tt
  children-changed (x ∷ l) c = ((λ p e. (known-changed p ∙ (c.0 p e).0, born-changed f keeps n r p ∙ (c.0 p e).1)), children-changed l c.1)

  pub tree-changed : IsTree r → IsTree (changed f n r)
  tree-changed t = record {
    older = rw (links-changed f keeps n r.nodes) t.older;
    children = rw (links-changed f keeps n r.nodes) (children-changed (links r) t.children);
  }

children-same : (r q : TreeRecord) (l : Links) → q.nodes ≡ r.nodes → AreChildren r l → AreChildren q l
children-same r q [] e c = tt
children-same r q (x ∷ l) e c = ((λ p k. rw e (c.0 p k)), children-same r q l e c.1)

pub tree-same : (r q : TreeRecord) → q.nodes ≡ r.nodes → IsTree r → IsTree q
tree-same r q e t = record { older = rw e t.older; children = children-same r q (links q) e (rw e t.children) }

-- tasks on nodes

pub known-live : (r : TreeRecord) (n : ℕ) → is_live r n ≡ true → is_known r n ≡ true
known-live r n h = some-live (node_at r n) h
  where
    some-live : (x : Option NodeState) → option_map_or (λ (x : NodeState). x.live) x false ≡ true → is_some x ≡ true
    some-live (Some x) h = refl
    some-live None h = absurd (cc)

pub known-on : (r : TreeRecord) (n k : ℕ) → task_on r n ≡ Some k → is_known r n ≡ true
known-on r n k h = some-on (node_at r n) h
  where
    some-on : (x : Option NodeState) → option_and_then (λ (x : NodeState). x.task) x ≡ Some k → is_some x ≡ true
    some-on (Some x) h = refl
    some-on None h = absurd (cc)

abbrev put_on : ℕ → NodeState → NodeState
put_on task x = record x { task = Some task }

pub puts-keeps : (task : ℕ) → Keeps (λ (x : NodeState). record x { task = Some task })
puts-keeps task = record { number = λ x. refl; parent = λ x. refl; born = λ x. refl }

pub release-keeps : Keeps (λ (x : NodeState). record x { live = false })
release-keeps = record { number = λ x. refl; parent = λ x. refl; born = λ x. refl }

abbrev on_first : ℕ → List NodeState → Option ℕ
on_first j xs = option_and_then (λ (x : NodeState). x.task) (find_by (λ (x : NodeState). x.number == j) xs)

put-here : (n k : ℕ) (xs : List NodeState) → is_some (find_by (λ (x : NodeState). x.number == n) xs) ≡ true → on_first n (map (turned (put_on k) (puts-keeps k) n) xs) ≡ Some k
put-here n k [] h = absurd (cc)
put-here n k (x ∷ xs) h = elim (cases_Bool (eqb x.number n)) [
  | inl e ↦ rw (e, e) refl
  | inr e ↦ rw (e, e) (put-here n k xs (rw e at h))
]

put-other : (n k j : ℕ) (xs : List NodeState) → eqb n j ≡ false → on_first j (map (turned (put_on k) (puts-keeps k) n) xs) ≡ on_first j xs
put-other n k j [] a = refl
put-other n k j (x ∷ xs) a = elim (cases_Bool (eqb x.number n)) [
  | inl e ↦ (
      let same : x.number ≡ n = grind arith in
      let apart : eqb x.number j ≡ false = rw same a in
      rw (e, apart) (put-other n k j xs a))
  | inr e ↦ elim (cases_Bool (eqb x.number j)) [
    | inl f ↦ rw (e, f) refl
    | inr f ↦ rw (e, f) (put-other n k j xs a)
  ]
]

pub task-put : (r : TreeRecord) (n k : ℕ) → is_known r n ≡ true → task_on (with_task r n k) n ≡ Some k
task-put r n k h = put-here n k r.nodes h

pub task-other : (r : TreeRecord) (n k j : ℕ) → eqb n j ≡ false → task_on (with_task r n k) j ≡ task_on r j
task-other r n k j a = put-other n k j r.nodes a

release-on : (n j : ℕ) (xs : List NodeState) → on_first j (map (turned (λ (x : NodeState). record x { live = false }) release-keeps n) xs) ≡ on_first j xs
release-on n j [] = refl
release-on n j (x ∷ xs) = elim (cases_Bool (eqb x.number n)) [
  | inl e ↦ elim (cases_Bool (eqb x.number j)) [
    | inl f ↦ rw (e, f) refl
    | inr f ↦ rw (e, f) (release-on n j xs)
  ]
  | inr e ↦ elim (cases_Bool (eqb x.number j)) [
    | inl f ↦ rw (e, f) refl
    | inr f ↦ rw (e, f) (release-on n j xs)
  ]
]

pub task-release : (r : TreeRecord) (n j : ℕ) → task_on (with_release r n) j ≡ task_on r j
task-release r n j = release-on n j r.nodes
