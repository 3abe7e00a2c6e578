-- Entries one list after another.
use Rattle.std.proofs.Common.{◌≡◌, ℕ, List, [], ◌∷◌, ◌++◌, refl}
use Rattle.rt_audit.specs.declared.entry.Entry.{Entry}
use Rattle.rt_model.specs.State.{State}
use Rattle.rt_audit.specs.Journal.{digest_from, digest_after}
use Rattle.rt_model.specs.Digests.{AreDigested}
use Rattle.rt_model.specs.Effects.{after, after_all}
use Rattle.rt_model.specs.Rules.{IsLawful, AreDrawn}
use Rattle.rt_model.specs.Runs.{run_after, runs_after, AreLawful}
use Rattle.rt_model.specs.Tied.{Steps, Value, IsTied}

pub after_all-append : (s : State) (xs ys : List Entry) → after_all s (xs ++ ys) ≡ after_all (after_all s xs) ys
after_all-append s [] ys = refl
after_all-append s (x ∷ xs) ys = after_all-append (after s x) xs ys

pub IsLawful-append : (s : State) (xs ys : List Entry) → IsLawful s xs → IsLawful (after_all s xs) ys → IsLawful s (xs ++ ys)
IsLawful-append s [] ys p q = q
IsLawful-append s (x ∷ xs) ys p q = (p.0, IsLawful-append (after s x) xs ys p.1 q)

pub runs_after-append : (r : State) (xs ys : List Entry) → runs_after r (xs ++ ys) ≡ runs_after (runs_after r xs) ys
runs_after-append r [] ys = refl
runs_after-append r (x ∷ xs) ys = runs_after-append (run_after r x) xs ys

pub AreLawful-append : (r : State) (xs ys : List Entry) → AreLawful r xs → AreLawful (runs_after r xs) ys → AreLawful r (xs ++ ys)
AreLawful-append r [] ys p q = q
AreLawful-append r (x ∷ xs) ys p q = (p.0, AreLawful-append (run_after r x) xs ys p.1 q)

pub AreDrawn-append : (s : State) (xs ys : List Entry) → AreDrawn s xs → AreDrawn (after_all s xs) ys → AreDrawn s (xs ++ ys)
AreDrawn-append s [] ys p q = q
AreDrawn-append s (x ∷ xs) ys p q = (p.0, AreDrawn-append (after s x) xs ys p.1 q)

pub IsTied-append : {A O : Type 0} → (p : Steps A O) (s : State) (u v w : Value A O) (xs ys : List Entry) → IsTied p s u xs v → IsTied p (after_all s xs) v ys w → IsTied p s u (xs ++ ys) w
IsTied-append p s u v w [] ys h k = rw h at k
IsTied-append p s u v w (x ∷ xs) ys h k = (h.0, h.1, IsTied-append p (after s x) h.0 v w xs ys h.2 k)

pub AreDigested-append : (digest : List ℕ) (xs ys : List Entry) → AreDigested digest xs → AreDigested (digest_from digest xs) ys → AreDigested digest (xs ++ ys)
AreDigested-append digest [] ys p q = q
AreDigested-append digest (x ∷ xs) ys p q = (p.0, AreDigested-append (digest_after digest x) xs ys p.1 q)

pub digest_from-append : (digest : List ℕ) (xs ys : List Entry) → digest_from digest (xs ++ ys) ≡ digest_from (digest_from digest xs) ys
digest_from-append digest [] ys = refl
digest_from-append digest (x ∷ xs) ys = digest_from-append (digest_after digest x) xs ys
