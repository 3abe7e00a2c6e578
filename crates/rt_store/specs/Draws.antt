-- Faults by rate: a call draws a number where its rate is above 0, in parts per million.
use Rattle.std.specs.Prelude.{◌≡◌, ℕ, zero, suc, ◌%◌, ◌<◌, ◌≤◌, List, [], ◌∷◌, Option, None, Some, Result, Ok, Err}
use Rattle.rt_base.specs.declared.error.Error.{Error}
use Rattle.rt_base.specs.declared.error.Error.TheVariants.{Io, NoMemory}
use Rattle.rt_base.specs.declared.io_kind.IoKind.TheVariants.{InjectedStorageFault}
use Rattle.rt_base.specs.Noted.{Noted, Drawn}

-- the call goes on: it drew nothing at a rate of 0, and else a number from the rate on
abbrev pub Passes : ℕ → List Noted → Type 0
Passes zero x = x ≡ []
Passes (suc rate) x = (d : ℕ) × (x ≡ Drawn d ∷ []) × (suc rate ≤ d % 1000000)

-- a fault is injected: the number that it drew is below the rate
abbrev pub Fails : ℕ → List Noted → Type 0
Fails rate x = (d : ℕ) × (x ≡ Drawn d ∷ []) × (d % 1000000 < rate)

-- What a call returns that is refused for this cause, if any, and else may meet a fault. Without memory it notes
-- nothing.
abbrev pub Refused : Option Error → ℕ → Error → List Noted → Type 0
Refused refusal rate NoMemory x = x ≡ []
Refused refusal rate (Io kind) x = (kind ≡ InjectedStorageFault) × (refusal ≡ None) × Fails rate x
Refused refusal rate e x = (refusal ≡ Some e) × (x ≡ [])

abbrev pub Answers : {A : Type 0} → Option Error → ℕ → (A → Type 0) → Result A Error → List Noted → Type 0
Answers refusal rate P (Ok a) x = (refusal ≡ None) × Passes rate x × P a
Answers refusal rate P (Err e) x = Refused refusal rate e x

-- the value after a call that was answered Ok, and else the value before it
abbrev pub if_ok : {A S : Type 0} → Result A Error → S → S → S
if_ok (Ok a) after before = after
if_ok (Err e) after before = before
