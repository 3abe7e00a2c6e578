-- Alarms stay in order of their due times.
use Rattle.rt_laws.proofs.Prelude.{◌≡◌, ◌≤◌, ◌<◌, ◌==◌, inl, inr, ℕ, sym, List, [], ◌∷◌, ◌++◌, map, drop, Option, Some, refl, arith, All, cases_Bool, All-from_recursion, Call, SleepPoll, CallReply, PendingAt, Entry, CallEntry, Fire, Cleanup, Skip, Alarm, AlarmList, with_alarm, waking, Begin, State, begun, slept, skip_to, ahead, after, after_all, alarms_called, IsLawful, IsEarliest}
use Rattle.rt_laws.proofs.Clock.{lawful-tail}
use Rattle.rt_laws.proofs.Each.{Each, each-with, each-waking}

-- none of them is due before this time
abbrev pub NoneBefore : ℕ → List Alarm → Type 0
NoneBefore due alarms = Each (λ at number. due ≤ at) alarms

pub none-before : (due : ℕ) (alarms : List Alarm) → NoneBefore due alarms → All (λ (b : Alarm). due ≤ b.due) alarms
none-before due alarms h = All-from_recursion (λ (b : Alarm). due ≤ b.due) alarms h

abbrev pub AreOrdered : List Alarm → Type 0
AreOrdered [] = Unit {0}
AreOrdered (a ∷ rest) = NoneBefore a.due rest × AreOrdered rest

pub none-sooner : (m n : ℕ) (xs : List Alarm) → m ≤ n → NoneBefore n xs → NoneBefore m xs
none-sooner m n [] h k = tt
none-sooner m n (x ∷ xs) h k = let a = k.0 in (omega arith, none-sooner m n xs h k.1)

order-with : (a : Alarm) (xs : List Alarm) → AreOrdered xs → AreOrdered (with_alarm a xs)
order-with a [] h = (tt, tt)
order-with a (x ∷ xs) h = grind (arith, order-with a xs h.1, each-with (λ at number. x.due ≤ at) a xs, none-sooner a.due x.due xs)

order-waking : (number : ℕ) (task : Option ℕ) (xs : List Alarm) → AreOrdered xs → AreOrdered (map (waking number task) xs)
order-waking number task [] h = tt
order-waking number task (x ∷ xs) h =
    let all = each-waking (λ at told. x.due ≤ at) number task xs h.0 in
    elim (cases_Bool (x.number == number)) [
      | inl e ↦ rw e (all, order-waking number task xs h.1)
      | inr e ↦ rw e (all, order-waking number task xs h.1)
    ]

order-slept : (a : AlarmList) (by : Option ℕ) (due number : ℕ) → AreOrdered a.alarms → AreOrdered (slept a by due number).alarms
order-slept a by due number h = grind (arith, order-with (record { due = due; number = a.count; task = by }) a.alarms h, order-waking number by a.alarms h)

order-called : (a : AlarmList) (by : Option ℕ) (call : Call) (reply : CallReply) → AreOrdered a.alarms → AreOrdered (alarms_called a by call reply).alarms
order-called a by (SleepPoll due) (PendingAt number) h = order-slept a by due number h
order-called a by _ _ h = h

order-drop : (xs : List Alarm) → AreOrdered xs → AreOrdered (drop 1 xs)
order-drop [] h = tt
order-drop (x ∷ xs) h = h.1

pub order-after : (s : State) (e : Entry) → AreOrdered s.stood.alarms.alarms → AreOrdered (after s e).stood.alarms.alarms
unfolding after
order-after s (CallEntry by call reply) h = order-called s.stood.alarms by call reply h
order-after s (Fire number) h = order-drop s.stood.alarms.alarms h
order-after s Cleanup h = tt
order-after s _ h = h

order-all : (s : State) (es : List Entry) → AreOrdered s.stood.alarms.alarms → AreOrdered (after_all s es).stood.alarms.alarms
order-all s [] h = h
order-all s (e ∷ es) h = order-all (after s e) es (order-after s e h)

-- the alarms of a run are in order
pub run_order : (b : Begin) (xs : List Entry) → AreOrdered (after_all (begun b) xs).stood.alarms.alarms
unfolding begun
run_order b xs = order-all (begun b) xs tt

ahead-earliest : (alarms : List Alarm) (time now : ℕ) → AreOrdered alarms → ahead alarms time ≡ Some now → IsEarliest alarms now × (time < now)
ahead-earliest [] time now o h = cc
ahead-earliest (a ∷ alarms) time now o h =
    let p : (a.due ≡ now) × (time < now) = grind arith in
    let all = none-before a.due (a ∷ alarms) (omega arith, o.0) in
    (((a, (0, omega arith, refl), p.0), rw (sym p.0) all), p.1)

skip-earliest : (ready : List ℕ) (alarms : List Alarm) (time now : ℕ) → AreOrdered alarms → skip_to ready alarms time ≡ Some now → (ready ≡ []) × (IsEarliest alarms now × (time < now))
skip-earliest [] alarms time now o h = (refl, ahead-earliest alarms time now o h)
skip-earliest (k ∷ ready) alarms time now o h = cc

-- a skip that may come in a run goes to the earliest of its alarms
pub run_skip : (b : Begin) (x y : List Entry) (now : ℕ) → IsLawful (begun b) (x ++ Skip now ∷ y) → ((after_all (begun b) x).ready ≡ []) × IsEarliest (after_all (begun b) x).stood.alarms.alarms now × ((after_all (begun b) x).clock.time < now)
run_skip b x y now l =
    let s = after_all (begun b) x in
    let h = skip-earliest s.ready s.stood.alarms.alarms s.clock.time now (run_order b x) (lawful-tail (begun b) x (Skip now ∷ y) l).0.1.1 in
    (h.0, h.1.0, h.1.1)
