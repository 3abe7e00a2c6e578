-- Wakes, one after another.
use Rattle.rt_machine.proofs.Prelude.{◌≡◌, ℕ, List, [], ◌∷◌, ◌++◌, refl, true, slice_get, Some, drop, Entry, Told, pushed, pushed_all, is_calm, AreCalm, Calmly}

pushed-append : (t : Told) (xs ys : List Entry) → pushed_all (pushed_all t xs) ys ≡ pushed_all t (xs ++ ys)
pushed-append t [] ys = refl
pushed-append t (x ∷ xs) ys = pushed-append (pushed t x) xs ys

calm-append : (xs ys : List Entry) → AreCalm xs → AreCalm ys → AreCalm (xs ++ ys)
calm-append [] ys h k = k
calm-append (x ∷ xs) ys h k = (h.0, calm-append xs ys h.1 k)

pub calmly-none : (t : Told) → Calmly t t
calmly-none t = record { entries = []; calm = tt; is = refl }

pub calmly-one : (t u : Told) (e : Entry) → u ≡ pushed t e → is_calm e ≡ true → Calmly t u
calmly-one t u e is calm = record { entries = e ∷ []; calm = (calm, tt); is = is }

pub calmly-calmly : (a b c : Told) → Calmly a b → Calmly b c → Calmly a c
calmly-calmly a b c h k = record {
  entries = h.entries ++ k.entries;
  calm = calm-append h.entries k.entries h.calm k.calm;
  is = rw (k.is, h.is) (pushed-append a h.entries k.entries);
}

-- the first of a list stands before the rest
pub first-flag : (xs : List ℕ) (k : ℕ) → slice_get xs 0 ≡ Some k → xs ≡ k ∷ drop 1 xs
first-flag [] k h = cc
first-flag (x ∷ xs) k h = cc

pub ruleset wake_laws = (calmly-none, calmly-one)
