-- What is true of each alarm that is set stays true of each.
use Rattle.rt_laws.proofs.Prelude.{inl, inr, ℕ, List, [], ◌∷◌, map, drop, Option, ◌==◌, AllByRecursion, cases_Bool, Alarm, is_before, with_alarm, waking}

-- a fact about due times and numbers, of each alarm
abbrev pub Each : (ℕ → ℕ → Type 0) → List Alarm → Type 0
Each P alarms = AllByRecursion (λ (a : Alarm). P a.due a.number) alarms

pub each-with : (P : ℕ → ℕ → Type 0) (a : Alarm) (alarms : List Alarm) → P a.due a.number → Each P alarms → Each P (with_alarm a alarms)
each-with P a [] h k = (h, tt)
each-with P a (b ∷ alarms) h k = elim (cases_Bool (is_before a b)) [
  | inl e ↦ rw e (h, k)
  | inr e ↦ rw e (k.0, each-with P a alarms h k.1)
]

pub each-waking : (P : ℕ → ℕ → Type 0) (number : ℕ) (task : Option ℕ) (alarms : List Alarm) → Each P alarms → Each P (map (waking number task) alarms)
each-waking P number task [] k = tt
each-waking P number task (a ∷ alarms) k = elim (cases_Bool (a.number == number)) [
  | inl e ↦ rw e (k.0, each-waking P number task alarms k.1)
  | inr e ↦ rw e (k.0, each-waking P number task alarms k.1)
]

pub each-drop : (P : ℕ → ℕ → Type 0) (alarms : List Alarm) → Each P alarms → Each P (drop 1 alarms)
each-drop P [] k = k
each-drop P (a ∷ alarms) k = k.1
