-- Nodes at the places of their numbers.
use Rattle.rt_walk.proofs.Prelude.{◌≡◌, inl, inr, is_some, ◌<◌, ◌∙◌, sym, ap, refl, arith, ℕ, zero, suc, true, false, cond, eqb, get_or, List, [], ◌∷◌, ◌++◌, length, map, Some, None, cases_Bool, nat_tests, map-append, slice_get, slice_set, NodeState, first_place, AreDistinct, links_of, numbers_of, has_number, is_known, is_ended, new_node, told_by, AreEnded}
use Rattle.std.specs.List.{find}
use Rattle.rt_walk.proofs.Ended.{on_number, ended-born, ended-child, links-kept, same-on}
use Rattle.rt_walk.proofs.Placed.{none-suc, pred-of, has-none, distinct-more}

pub row-none : (k : ℕ) (xs : List NodeState) → first_place k (numbers_of xs) ≡ None → find (λ x. eqb x.number k) xs ≡ None
row-none k [] h = refl
row-none k (x ∷ xs) h = elim (cases_Bool (eqb x.number k)) [
  | inl e ↦ let f = rw e at h in absurd (cc)
  | inr e ↦ rw e (row-none k xs (none-suc (first_place k (numbers_of xs)) (rw e at h)))
]

pub row-some : (k i : ℕ) (xs : List NodeState) → first_place k (numbers_of xs) ≡ Some i → find (λ x. eqb x.number k) xs ≡ slice_get xs i
row-some k i [] h = absurd (cc)
row-some k zero (x ∷ xs) h = elim (cases_Bool (eqb x.number k)) [
  | inl e ↦ rw e refl
  | inr e ↦ let m = pred-of (first_place k (numbers_of xs)) zero (rw e at h) in absurd (omega (arith, m.1))
]
row-some k (suc i) (x ∷ xs) h = elim (cases_Bool (eqb x.number k)) [
  | inl e ↦ let f : Some 0 ≡ Some (suc i) = rw e at h in absurd (cc)
  | inr e ↦
      let m = pred-of (first_place k (numbers_of xs)) (suc i) (rw e at h) in
      let same : m.0 ≡ i = omega (arith, m.1) in
      rw e (row-some k i xs (rw same at m.2))
]

pub row-within : (k i : ℕ) (xs : List NodeState) → first_place k (numbers_of xs) ≡ Some i → i < length xs
row-within k i [] h = absurd (cc)
row-within k zero (x ∷ xs) h = omega arith
row-within k (suc i) (x ∷ xs) h = elim (cases_Bool (eqb x.number k)) [
  | inl e ↦ let f : Some 0 ≡ Some (suc i) = rw e at h in absurd (cc)
  | inr e ↦
      let m = pred-of (first_place k (numbers_of xs)) (suc i) (rw e at h) in
      let same : m.0 ≡ i = omega (arith, m.1) in
      let t = row-within k i xs (rw same at m.2) in
      omega (arith, t)
]

-- who has no number keeps all rows
pub change-none : (change : NodeState → NodeState) (k : ℕ) (xs : List NodeState) → first_place k (numbers_of xs) ≡ None → map (on_number k change) xs ≡ xs
change-none change k [] h = refl
change-none change k (x ∷ xs) h = elim (cases_Bool (eqb x.number k)) [
  | inl e ↦ let f = rw e at h in absurd (cc)
  | inr e ↦ rw e (ap (λ ys. x ∷ ys) (change-none change k xs (none-suc (first_place k (numbers_of xs)) (rw e at h))))
]

pub change-at : (change : NodeState → NodeState) (k i : ℕ) (xs : List NodeState) (y : NodeState) → AreDistinct (numbers_of xs) → first_place k (numbers_of xs) ≡ Some i → slice_get xs i ≡ Some y → map (on_number k change) xs ≡ slice_set xs i (change y)
change-at change k i [] y d h g = absurd (cc)
change-at change k zero (x ∷ xs) y d h g = elim (cases_Bool (eqb x.number k)) [
  | inl e ↦
      let same : x.number ≡ k = grind (arith, nat_tests) in
      let is : x ≡ y = cc in
      let gone : first_place k (numbers_of xs) ≡ None = rw (← same) d.0 in
      rw (e, is) (ap (λ ys. change y ∷ ys) (change-none change k xs gone))
  | inr e ↦ let m = pred-of (first_place k (numbers_of xs)) zero (rw e at h) in absurd (omega (arith, m.1))
]
change-at change k (suc i) (x ∷ xs) y d h g = elim (cases_Bool (eqb x.number k)) [
  | inl e ↦ let f : Some 0 ≡ Some (suc i) = rw e at h in absurd (cc)
  | inr e ↦
      let m = pred-of (first_place k (numbers_of xs)) (suc i) (rw e at h) in
      let same : m.0 ≡ i = omega (arith, m.1) in
      rw e (ap (λ ys. x ∷ ys) (change-at change k i xs y d.1 (rw same at m.2) g))
]

pub numbers-more : (xs : List NodeState) (x : NodeState) → numbers_of (xs ++ x ∷ []) ≡ numbers_of xs ++ x.number ∷ []
numbers-more xs x = map-append {B = ℕ} (λ x. x.number) xs (x ∷ [])

get-there : {X : Type 0} (i : ℕ) (xs : List X) (d : X) → i < length xs → slice_get xs i ≡ Some (get_or xs i d)
get-there i [] d h = absurd (omega (arith, h))
get-there zero (x ∷ xs) d h = refl
get-there (suc i) (x ∷ xs) d h = get-there i xs d (omega (arith, h))

-- the same at a place that is read

pub row-here : (k i : ℕ) (xs : List NodeState) (d : NodeState) → first_place k (numbers_of xs) ≡ Some i → find (λ x. eqb x.number k) xs ≡ Some (get_or xs i d)
row-here k i xs d h = row-some k i xs h ∙ get-there i xs d (row-within k i xs h)

pub change-here : (change : NodeState → NodeState) (k i : ℕ) (xs : List NodeState) (d : NodeState) → AreDistinct (numbers_of xs) → first_place k (numbers_of xs) ≡ Some i → map (on_number k change) xs ≡ slice_set xs i (change (get_or xs i d))
change-here change k i xs d distinct h = change-at change k i xs (get_or xs i d) distinct h (get-there i xs d (row-within k i xs h))

-- a change that keeps numbers
numbers-kept : (g : NodeState → NodeState) → ((x : NodeState) → (g x).number ≡ x.number) → (xs : List NodeState) → numbers_of (map g xs) ≡ numbers_of xs
numbers-kept g same [] = refl
numbers-kept g same (x ∷ xs) = rw (same x, numbers-kept g same xs) refl

pub numbers-changed : (change : NodeState → NodeState) (k : ℕ) → ((x : NodeState) → (change x).number ≡ x.number) → (xs : List NodeState) → numbers_of (map (on_number k change) xs) ≡ numbers_of xs
numbers-changed change k same xs = numbers-kept (on_number k change) one xs
  where
    one : (x : NodeState) → (on_number k change x).number ≡ x.number
    one x = elim (eqb x.number k) as (λ b. (cond b (change x) x).number ≡ x.number) [ true ↦ same x | false ↦ refl ]

pub links-changed : (change : NodeState → NodeState) (k : ℕ) → ((x : NodeState) → (change x).number ≡ x.number) → ((x : NodeState) → (change x).parent ≡ x.parent) → (xs : List NodeState) → links_of (map (on_number k change) xs) ≡ links_of xs
links-changed change k number parent xs = links-kept (on_number k change) (same-on (λ x. x.number) change k number) (same-on (λ x. x.parent) change k parent) xs []

-- a row that was read is put back with a change
pub put-at : (change : NodeState → NodeState) (k i : ℕ) (xs : List NodeState) (y z : NodeState) → AreDistinct (numbers_of xs) → first_place k (numbers_of xs) ≡ Some i → y ≡ get_or xs i y → z ≡ change y → slice_set xs i z ≡ map (on_number k change) xs
put-at change k i xs y z distinct h read is =
    let e : z ≡ change (get_or xs i y) = is ∙ ap change read in
    ap (slice_set xs i) e ∙ sym (change-here change k i xs y distinct h)

-- a number that isn't among them is no node's
pub unknown : (k : ℕ) (xs : List NodeState) (ends : List ℕ) → has_number k (numbers_of xs) ≡ false → is_known (told_by xs ends) k ≡ false
unknown k xs ends h = ap is_some (row-none k xs (has-none k (numbers_of xs) h))

-- a node more

pub born-right : (ended after : List ℕ) (xs ys : List NodeState) (ends : List ℕ) (number : ℕ) → ys ≡ xs ++ new_node number None true ∷ [] → after ≡ ended ++ number ∷ [] → is_known (told_by xs ends) number ≡ false → AreEnded ended (told_by xs ends) → AreEnded after (told_by ys ends)
born-right ended after xs ys ends number e f fresh h n = rw (e, f) (ended-born ended xs ends number fresh h n)

pub child-right : (ended after : List ℕ) (xs ys : List NodeState) (ends : List ℕ) (number parent : ℕ) → ys ≡ xs ++ new_node number (Some parent) false ∷ [] → after ≡ ended → is_ended (told_by xs ends) parent ≡ false → AreEnded ended (told_by xs ends) → AreEnded after (told_by ys ends)
child-right ended after xs ys ends number parent e f off h n = rw (e, f) (ended-child ended xs ends number parent off h n)

pub placed-right : (number : ℕ) (ps qs : List ℕ) (xs ys : List NodeState) (x : NodeState) → ps ≡ numbers_of xs → x.number ≡ number → ys ≡ xs ++ x ∷ [] → qs ≡ ps ++ number ∷ [] → qs ≡ numbers_of ys
placed-right number ps qs xs ys x placed same e f = f ∙ ap (λ ns. ns ++ number ∷ []) placed ∙ ap (λ n. numbers_of xs ++ n ∷ []) (sym same) ∙ sym (numbers-more xs x) ∙ ap numbers_of (sym e)

pub distinct-right : (number : ℕ) (ps qs : List ℕ) → qs ≡ ps ++ number ∷ [] → has_number number ps ≡ false → AreDistinct ps → AreDistinct qs
distinct-right number ps qs f fresh d = rw f (distinct-more number ps fresh d)

pub ruleset at_laws = (row-none, row-here, row-within)
