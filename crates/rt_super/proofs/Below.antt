-- What stands below a place.
use Rattle.rt_super.proofs.Prelude.{◌≡◌, ◌≢◌, ℕ, zero, suc, ◌+◌, ◌<◌, ◌≤◌, Bool, true, false, cond, ◌||◌, eqb, List, [], ◌∷◌, ◌++◌, length, drop, refl, sym, ◌∙◌, subst, arith, Option, Some, None, flat_map, slice_get, AllByRecursion, list_any-append, nat_tests, is_child, nodes_below, stands_in, placed, children_from, IsOlder, AreOlder, IsClosed}

-- what stands below a, among the places from i on
abbrev pub below : ℕ → ℕ → List (Option ℕ) → List ℕ
below a i rest = nodes_below a (placed i rest)

-- how often a number stands in a list
abbrev pub times : ℕ → List ℕ → ℕ
times m [] = 0
times m (x ∷ xs) = cond (eqb x m) 1 0 + times m xs

pub times-append : (m : ℕ) (xs ys : List ℕ) → times m (xs ++ ys) ≡ times m xs + times m ys
times-append m [] ys = omega arith
times-append m (x ∷ xs) ys = omega (arith, times-append m xs ys)

pub stands-times : (m : ℕ) (xs : List ℕ) → times m xs ≡ 0 → stands_in xs m ≡ false
stands-times m [] e = refl
stands-times m (x ∷ xs) e = grind (arith, nat_tests, stands-times m xs)

-- the first place, and the others
pub times_below : (m a i : ℕ) (p : Option ℕ) (rest : List (Option ℕ)) → times m (below a i (p ∷ rest)) ≡ cond (is_child a p) (cond (eqb i m) 1 0 + times m (below i (suc i) rest)) 0 + times m (below a (suc i) rest)
times_below m a i p rest =
    elim (is_child a p) as (λ b. times m (cond b ((i ∷ below i (suc i) rest) ++ below a (suc i) rest) (below a (suc i) rest)) ≡ cond b (cond (eqb i m) 1 0 + times m (below i (suc i) rest)) 0 + times m (below a (suc i) rest)) [
      | true ↦ times-append m (i ∷ below i (suc i) rest) (below a (suc i) rest)
      | false ↦ omega arith
    ]

pub below_low : (m a i : ℕ) (rest : List (Option ℕ)) → m < i → times m (below a i rest) ≡ 0
below_low m a i [] h = refl
below_low m a i (p ∷ rest) h =
    let first = below_low m i (suc i) rest (omega arith) in
    let others = below_low m a (suc i) rest (omega arith) in
    rw (times_below m a i p rest) (elim (is_child a p) as (λ b. cond b (cond (eqb i m) 1 0 + times m (below i (suc i) rest)) 0 + times m (below a (suc i) rest) ≡ 0) [ true ↦ grind (arith, nat_tests) | false ↦ omega arith ])

pub below_high : (m a i : ℕ) (rest : List (Option ℕ)) → i + length rest ≤ m → times m (below a i rest) ≡ 0
below_high m a i [] h = refl
below_high m a i (p ∷ rest) h =
    let first = below_high m i (suc i) rest (omega arith) in
    let others = below_high m a (suc i) rest (omega arith) in
    rw (times_below m a i p rest) (elim (is_child a p) as (λ b. cond b (cond (eqb i m) 1 0 + times m (below i (suc i) rest)) 0 + times m (below a (suc i) rest) ≡ 0) [ true ↦ grind (arith, nat_tests) | false ↦ omega arith ])

pub below_apart : (m a b i : ℕ) (rest : List (Option ℕ)) → a ≢ b → a < i → b < i → times m (below a i rest) + times m (below b i rest) ≤ 1
below_apart m a b i [] ne ha hb = omega arith
below_apart m a b i (None ∷ rest) ne ha hb = below_apart m a b (suc i) rest ne (omega arith) (omega arith)
below_apart m a b i (Some q ∷ rest) ne ha hb =
    let ab = below_apart m a b (suc i) rest ne (omega arith) (omega arith) in
    let ia = below_apart m i a (suc i) rest (omega arith) (omega arith) (omega arith) in
    let ib = below_apart m i b (suc i) rest (omega arith) (omega arith) (omega arith) in
    let li = below_low m i (suc i) rest in
    let la = below_low m a (suc i) rest in
    let lb = below_low m b (suc i) rest in
    rw (times_below m a i (Some q) rest, times_below m b i (Some q) rest) (grind (arith, nat_tests))

pub below_once : (m a i : ℕ) (rest : List (Option ℕ)) → a < i → times m (below a i rest) ≤ 1
below_once m a i [] h = omega arith
below_once m a i (p ∷ rest) h =
    let one = below_once m a (suc i) rest (omega arith) in
    let ia = below_apart m i a (suc i) rest (omega arith) (omega arith) (omega arith) in
    let li = below_low m i (suc i) rest in
    let la = below_low m a (suc i) rest in
    rw (times_below m a i p rest) (elim (is_child a p) as (λ b. cond b (cond (eqb i m) 1 0 + times m (below i (suc i) rest)) 0 + times m (below a (suc i) rest) ≤ 1) [ true ↦ grind (arith, nat_tests) | false ↦ omega arith ])

-- the places before the children of a can be left out
is_child_older : (a i : ℕ) (p : Option ℕ) → IsOlder p i → i ≤ a → is_child a p ≡ false
is_child_older a i None o h = refl
is_child_older a i (Some q) o h = grind (arith, nat_tests)

pub below_skip : (a i : ℕ) (p : Option ℕ) (rest : List (Option ℕ)) → IsOlder p i → i ≤ a → below a i (p ∷ rest) ≡ below a (suc i) rest
below_skip a i p rest o h = rw (is_child_older a i p o h) refl

pub below_from : (k a i : ℕ) (rest : List (Option ℕ)) → AreOlder i rest → i + k ≤ suc a → below a i rest ≡ below a (i + k) (drop k rest)
below_from zero a i rest o h = let e : i + zero ≡ i = omega arith in rw e refl
below_from (suc k) a i [] o h = refl
below_from (suc k) a i (p ∷ rest) o h =
    let e : i + suc k ≡ suc i + k = omega arith in
    rw (below_skip a i p rest o.0 (omega arith), e) (below_from k a (suc i) rest o.1 (omega arith))

-- a node's subtree has no number twice
pub below_once_in : (m a : ℕ) (rest : List (Option ℕ)) → AreOlder 0 rest → times m (below a 0 rest) ≤ 1
below_once_in m a rest o =
    let e : 0 + suc a ≡ suc a = omega arith in
    rw (below_from (suc a) a 0 rest o (omega arith), e) (below_once m a (suc a) (drop (suc a) rest) (omega arith))

pub below_self : (a : ℕ) (rest : List (Option ℕ)) → AreOlder 0 rest → times a (below a 0 rest) ≡ 0
below_self a rest o =
    let e : 0 + suc a ≡ suc a = omega arith in
    rw (below_from (suc a) a 0 rest o (omega arith), e) (below_low a a (suc a) (drop (suc a) rest) (omega arith))

-- what stands below a are its children, each with what stands below it
pub below_by_children : (under : ℕ → List ℕ) (a i : ℕ) (rest : List (Option ℕ)) → AreOlder i rest → ((c : ℕ) → i ≤ c → under c ≡ below c i rest) → below a i rest ≡ flat_map (λ c. c ∷ under c) (children_from a i rest)
below_by_children under a i [] o same = refl
below_by_children under a i (p ∷ rest) o same =
    let later : (c : ℕ) → suc i ≤ c → under c ≡ below c (suc i) rest = λ c h. same c (omega arith) ∙ below_skip c i p rest o.0 (omega arith) in
    let others = below_by_children under a (suc i) rest o.1 later in
    let first = same i (omega arith) ∙ below_skip i i p rest o.0 (omega arith) in
    elim (is_child a p) as (λ b. cond b ((i ∷ below i (suc i) rest) ++ below a (suc i) rest) (below a (suc i) rest) ≡ flat_map (λ c. c ∷ under c) (cond b (i ∷ children_from a (suc i) rest) (children_from a (suc i) rest))) [
      | true ↦ rw (first, others) refl
      | false ↦ others
    ]

pub stands-append : (m : ℕ) (xs ys : List ℕ) → stands_in (xs ++ ys) m ≡ (stands_in xs m || stands_in ys m)
stands-append m xs ys = list_any-append (λ x. eqb x m) xs ys

pub or_false : (b : Bool) → (b || false) ≡ b
or_false true = refl
or_false false = refl

-- where the marks are closed, what stands below a marked place is marked
pub AllByRecursion-append : {X : Type 0} (P : X → Type 0) (xs ys : List X) → AllByRecursion P xs → AllByRecursion P ys → AllByRecursion P (xs ++ ys)
AllByRecursion-append P [] ys h k = k
AllByRecursion-append P (x ∷ xs) ys h k = (h.0, AllByRecursion-append P xs ys h.1 k)

pub closed_later : (mark : ℕ → Bool) (i : ℕ) (p : Option ℕ) (rest : List (Option ℕ)) → IsClosed mark i (p ∷ rest) → IsClosed mark (suc i) rest
closed_later mark i p rest h k q at on = let e : suc i + k ≡ i + suc k = omega arith in rw e (h (suc k) q at on)

pub below_marked : (mark : ℕ → Bool) (a i : ℕ) (rest : List (Option ℕ)) → IsClosed mark i rest → mark a ≡ true → AllByRecursion (λ m. mark m ≡ true) (below a i rest)
below_marked mark a i [] h on = tt
below_marked mark a i (None ∷ rest) h on = below_marked mark a (suc i) rest (closed_later mark i None rest h) on
below_marked mark a i (Some q ∷ rest) h on =
    let later = closed_later mark i (Some q) rest h in
    let others = below_marked mark a (suc i) rest later on in
    let head : eqb a q ≡ true → mark i ≡ true = λ e. let same : q ≡ a = grind (arith, nat_tests) in let z : i + 0 ≡ i = omega arith in rw z at (h 0 q refl (rw same on)) in
    first_below mark a i q rest (λ on_i. below_marked mark i (suc i) rest later on_i) others head
  where
    first_below : (mark : ℕ → Bool) (a i q : ℕ) (rest : List (Option ℕ)) → (mark i ≡ true → AllByRecursion (λ m. mark m ≡ true) (below i (suc i) rest)) → AllByRecursion (λ m. mark m ≡ true) (below a (suc i) rest) → (eqb a q ≡ true → mark i ≡ true) → AllByRecursion (λ m. mark m ≡ true) (below a i (Some q ∷ rest))
    first_below mark a i q rest under others head = by (eqb a q) refl
      where
        by : (b : Bool) → eqb a q ≡ b → AllByRecursion (λ m. mark m ≡ true) (cond b ((i ∷ below i (suc i) rest) ++ below a (suc i) rest) (below a (suc i) rest))
        by true e = (head e, AllByRecursion-append (λ m. mark m ≡ true) (below i (suc i) rest) (below a (suc i) rest) (under (head e)) others)
        by false e = others

-- what has its parent in a subtree stands in it

closed_by : (aq iq biq baq ij bij baj : Bool) → (aq || ((iq || biq) || baq)) ≡ true → ((iq || biq) ≡ true → bij ≡ true) → ((aq || baq) ≡ true → baj ≡ true) → ((ij || bij) || baj) ≡ true
closed_by aq iq biq baq true bij baj e f g = refl
closed_by aq iq biq baq false true baj e f g = refl
closed_by aq iq biq baq false false true e f g = refl
closed_by true iq biq baq false false false e f g = g refl
closed_by false true biq baq false false false e f g = f refl
closed_by false false true baq false false false e f g = f refl
closed_by false false false true false false false e f g = g refl
closed_by false false false false false false false e f g = e

pub below_closed : (a i k q : ℕ) (rest : List (Option ℕ)) → AreOlder i rest → slice_get rest k ≡ Some (Some q) → stands_in (a ∷ below a i rest) q ≡ true → stands_in (below a i rest) (i + k) ≡ true
below_closed a i k q [] older at there = cc
below_closed a i zero q (None ∷ rest) older at there = cc
below_closed a i zero q (Some p ∷ rest) older at there =
    let same : p ≡ q = cc in
    let lower : q < i = omega (arith, older.0) in
    let none = stands-times q (below a i (Some p ∷ rest)) (below_low q a i (Some p ∷ rest) lower) in
    let here : eqb a q ≡ true = left (eqb a q) (stands_in (below a i (Some p ∷ rest)) q) there none in
    let child : eqb a p ≡ true = rw same here in
    let self : eqb i (i + 0) ≡ true = grind (arith, nat_tests) in
    rw (child, stands-append (i + 0) (i ∷ below i (suc i) rest) (below a (suc i) rest), self) refl
  where
    left : (x y : Bool) → (x || y) ≡ true → y ≡ false → x ≡ true
    left true y e f = refl
    left false y e f = sym f ∙ e ∙ refl
below_closed a i (suc k) q (p ∷ rest) older at there =
    by (is_child a p) refl (below_closed a (suc i) k q rest older.1 at) (below_closed i (suc i) k q rest older.1 at) there
  where
    by : (b : Bool) → is_child a p ≡ b → (stands_in (a ∷ below a (suc i) rest) q ≡ true → stands_in (below a (suc i) rest) (suc i + k) ≡ true) → (stands_in (i ∷ below i (suc i) rest) q ≡ true → stands_in (below i (suc i) rest) (suc i + k) ≡ true) → stands_in (a ∷ cond (is_child a p) ((i ∷ below i (suc i) rest) ++ below a (suc i) rest) (below a (suc i) rest)) q ≡ true → stands_in (cond (is_child a p) ((i ∷ below i (suc i) rest) ++ below a (suc i) rest) (below a (suc i) rest)) (i + suc k) ≡ true
    by true child others first there =
        let e : i + suc k ≡ suc i + k = omega arith in
        let there' = rw (child, stands-append q (i ∷ below i (suc i) rest) (below a (suc i) rest)) at there in
        let here = closed_by (eqb a q) (eqb i q) (stands_in (below i (suc i) rest) q) (stands_in (below a (suc i) rest) q) (eqb i (suc i + k)) (stands_in (below i (suc i) rest) (suc i + k)) (stands_in (below a (suc i) rest) (suc i + k)) there' first others in
        let all = stands-append (suc i + k) (i ∷ below i (suc i) rest) (below a (suc i) rest) ∙ here in
        rw child (subst (λ (j : ℕ). stands_in ((i ∷ below i (suc i) rest) ++ below a (suc i) rest) j ≡ true) (sym e) all)
    by false child others first there =
        let e : i + suc k ≡ suc i + k = omega arith in
        rw child (subst (λ (j : ℕ). stands_in (below a (suc i) rest) j ≡ true) (sym e) (others (rw (child) at there)))
