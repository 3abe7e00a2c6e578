-- What a number has, changed.
use Rattle.std.proofs.Common.{◌≡◌, ℕ, List, [], ◌∷◌, refl, true, false, arith, Option, Some, None}
use Rattle.rt_model.specs.declared.result.Outcome.{Outcome}
use Rattle.rt_model.specs.declared.result.Outcome.TheVariants.{Open, There, Exited, Closed}
use Rattle.rt_model.specs.Slots.{settled, aborted}
use Rattle.rt_model.specs.declared.result.TaskResult.{TaskResult}
use Rattle.rt_model.specs.Lists.{find, replaced}
use Rattle.rt_model.specs.Results.{with_outcome}

pub replaced-as : {V : Type 0} (change : V → V) (k : ℕ) (xs : List (ℕ × V)) (old new : V) → find k xs ≡ Some old → change old ≡ new → replaced (λ x. new) k xs ≡ replaced change k xs
replaced-as change k [] old new h e = refl
replaced-as change k (x ∷ xs) old new h e = grind (arith, replaced-as change k xs old new)

pub replaced-none : {V : Type 0} (change : V → V) (k : ℕ) (xs : List (ℕ × V)) → find k xs ≡ None → replaced change k xs ≡ xs
replaced-none change k [] h = refl
replaced-none change k (x ∷ xs) h = grind (arith, replaced-none change k xs)

pub outcome-some : (k : ℕ) (rs : List (ℕ × TaskResult)) (o : Outcome) (r : TaskResult) → find k rs ≡ Some r → replaced (λ x. record { outcome = o; aborted = r.aborted }) k rs ≡ with_outcome o k rs
outcome-some k rs o r h = replaced-as (λ x. record x { outcome = o }) k rs r (record r { outcome = o }) h refl

pub outcome-none : (k : ℕ) (rs : List (ℕ × TaskResult)) (o : Outcome) → find k rs ≡ None → with_outcome o k rs ≡ rs
outcome-none k rs o h = replaced-none (λ x. record x { outcome = o }) k rs h

-- a change that changes nothing where it is
pub replaced-same : {V : Type 0} (change : V → V) (k : ℕ) (xs : List (ℕ × V)) (v : V) → find k xs ≡ Some v → change v ≡ v → replaced change k xs ≡ xs
replaced-same change k [] v h e = refl
replaced-same change k (x ∷ xs) v h e = grind (arith, replaced-same change k xs v)

pub settled-open : (k : ℕ) (rs : List (ℕ × TaskResult)) (o : Outcome) (r : TaskResult) (waits : Option ℕ) → find k rs ≡ Some r → r.outcome ≡ Open waits → replaced (λ x. record { outcome = o; aborted = r.aborted }) k rs ≡ replaced (settled o) k rs
settled-open k rs o r waits h e = replaced-as (settled o) k rs r (record r { outcome = o }) h (rw e refl)

pub settled-none : (k : ℕ) (rs : List (ℕ × TaskResult)) (o : Outcome) → find k rs ≡ None → replaced (settled o) k rs ≡ rs
settled-none k rs o h = replaced-none (settled o) k rs h

-- what is not open stays
pub settled-there : (k : ℕ) (rs : List (ℕ × TaskResult)) (o : Outcome) (r : TaskResult) → find k rs ≡ Some r → r.outcome ≡ There → replaced (settled o) k rs ≡ rs
settled-there k rs o r h e = replaced-same (settled o) k rs r h (rw e refl)

pub settled-exited : (k : ℕ) (rs : List (ℕ × TaskResult)) (o : Outcome) (r : TaskResult) → find k rs ≡ Some r → r.outcome ≡ Exited → replaced (settled o) k rs ≡ rs
settled-exited k rs o r h e = replaced-same (settled o) k rs r h (rw e refl)

pub settled-closed : (k : ℕ) (rs : List (ℕ × TaskResult)) (o : Outcome) (r : TaskResult) → find k rs ≡ Some r → r.outcome ≡ Closed → replaced (settled o) k rs ≡ rs
settled-closed k rs o r h e = replaced-same (settled o) k rs r h (rw e refl)

pub wait-some : (k : ℕ) (rs : List (ℕ × TaskResult)) (r : TaskResult) → find k rs ≡ Some r → replaced (λ x. record { outcome = Closed; aborted = true }) k rs ≡ replaced aborted k rs
wait-some k rs r h = replaced-as aborted k rs r (aborted r) h refl

pub ruleset change_laws = (settled-open, settled-none, settled-there, settled-exited, settled-closed, wait-some, outcome-some, outcome-none)
