-- The numbers of alarms: no two alarms have the same, and none is given twice.
use Rattle.rt_laws.proofs.Prelude.{inl, inr, ◌≡◌, ◌≢◌, ◌<◌, ◌+◌, ◌==◌, ℕ, zero, suc, List, [], ◌∷◌, ◌++◌, map, drop, Option, Some, eqb, refl, sym, ap, ◌∙◌, arith, All, Contains, AllByRecursion, All-from_recursion, cases_Bool, Call, SleepPoll, CallReply, PendingAt, Entry, CallEntry, Wake, Fire, Cleanup, Alarm, AlarmList, with_alarm, waking, Begin, State, begun, slept, fires, woken_by, after, after_all, stood_after, alarms_called, May, IsLawful}
use Rattle.rt_laws.proofs.Clock.{lawful-tail}
use Rattle.rt_laws.proofs.Each.{Each, each-with, each-waking, each-drop}

-- none of these alarms has this number
abbrev LacksNumber : ℕ → List Alarm → Type 0
LacksNumber k alarms = Each (λ due number. number ≢ k) alarms

abbrev AreBelow : ℕ → List Alarm → Type 0
AreBelow n alarms = Each (λ due number. number < n) alarms

abbrev AreDistinct : List Alarm → Type 0
AreDistinct [] = Unit {0}
AreDistinct (a ∷ alarms) = LacksNumber a.number alarms × AreDistinct alarms

below-lacks : (n : ℕ) (alarms : List Alarm) → AreBelow n alarms → LacksNumber n alarms
below-lacks n [] b = tt
below-lacks n (a ∷ alarms) b = let l = b.0 in ((λ e. absurd (omega arith)), below-lacks n alarms b.1)

below-more : (n : ℕ) (alarms : List Alarm) → AreBelow n alarms → AreBelow (n + 1) alarms
below-more n [] b = tt
below-more n (a ∷ alarms) b = let l = b.0 in (omega arith, below-more n alarms b.1)

distinct-with : (a : Alarm) (alarms : List Alarm) → LacksNumber a.number alarms → AreDistinct alarms → AreDistinct (with_alarm a alarms)
distinct-with a [] l d = (tt, tt)
distinct-with a (x ∷ alarms) l d = grind (arith, distinct-with a alarms l.1 d.1, each-with (λ due number. number ≢ x.number) a alarms (λ e. l.0 (sym e)) d.0)

distinct-waking : (number : ℕ) (task : Option ℕ) (alarms : List Alarm) → AreDistinct alarms → AreDistinct (map (waking number task) alarms)
distinct-waking number task [] d = tt
distinct-waking number task (x ∷ alarms) d =
    let lacks = each-waking (λ due told. told ≢ x.number) number task alarms d.0 in
    elim (cases_Bool (x.number == number)) [
      | inl e ↦ rw e (lacks, distinct-waking number task alarms d.1)
      | inr e ↦ rw e (lacks, distinct-waking number task alarms d.1)
    ]

-- the numbers of the alarms that are alarms are below the count, and distinct
abbrev AreNumbered : AlarmList → Type 0
AreNumbered a = AreBelow a.count a.alarms × AreDistinct a.alarms

-- this number was given, and no alarm that is alarms has it
abbrev IsSpent : ℕ → AlarmList → Type 0
IsSpent k a = (k < a.count) × LacksNumber k a.alarms

numbered-slept : (a : AlarmList) (by : Option ℕ) (due number : ℕ) → AreNumbered a → AreNumbered (slept a by due number)
numbered-slept a by due number h = elim (cases_Bool (eqb number a.count)) [
  | inl e ↦ (
      let new : Alarm = record { due = due; number = a.count; task = by } in
      rw e (each-with (λ at told. told < a.count + 1) new a.alarms (omega arith) (below-more a.count a.alarms h.0), distinct-with new a.alarms (below-lacks a.count a.alarms h.0) h.1))
  | inr e ↦ rw e (each-waking (λ at told. told < a.count) number by a.alarms h.0, distinct-waking number by a.alarms h.1)
]

spent-slept : (k : ℕ) (a : AlarmList) (by : Option ℕ) (due number : ℕ) → IsSpent k a → IsSpent k (slept a by due number)
spent-slept k a by due number h = elim (cases_Bool (eqb number a.count)) [
  | inl e ↦ (
      let l = h.0 in
      let new : Alarm = record { due = due; number = a.count; task = by } in
      rw e (omega arith, each-with (λ at told. told ≢ k) new a.alarms (λ z. absurd (omega arith)) h.1))
  | inr e ↦ rw e (h.0, each-waking (λ at told. told ≢ k) number by a.alarms h.1)
]

numbered-called : (a : AlarmList) (by : Option ℕ) (call : Call) (reply : CallReply) → AreNumbered a → AreNumbered (alarms_called a by call reply)
numbered-called a by (SleepPoll due) (PendingAt number) h = numbered-slept a by due number h
numbered-called a by _ _ h = h

spent-called : (k : ℕ) (a : AlarmList) (by : Option ℕ) (call : Call) (reply : CallReply) → IsSpent k a → IsSpent k (alarms_called a by call reply)
spent-called k a by (SleepPoll due) (PendingAt number) h = spent-slept k a by due number h
spent-called k a by _ _ h = h

numbered-drop : (n : ℕ) (alarms : List Alarm) → AreBelow n alarms × AreDistinct alarms → AreBelow n (drop 1 alarms) × AreDistinct (drop 1 alarms)
numbered-drop n [] h = h
numbered-drop n (a ∷ alarms) h = (h.0.1, h.1.1)

numbered-entry : (s : State) (e : Entry) → AreNumbered s.stood.alarms → AreNumbered (stood_after s e).alarms
numbered-entry s (CallEntry by call reply) h = numbered-called s.stood.alarms by call reply h
numbered-entry s (Fire number) h = numbered-drop s.stood.alarms.count s.stood.alarms.alarms h
numbered-entry s Cleanup h = (tt, tt)
numbered-entry s _ h = h

numbered-all : (s : State) (x : List Entry) → AreNumbered s.stood.alarms → AreNumbered (after_all s x).stood.alarms
unfolding after
numbered-all s [] h = h
numbered-all s (e ∷ x) h = numbered-all (after s e) x (numbered-entry s e h)

run_numbered : (b : Begin) (x : List Entry) → AreNumbered (after_all (begun b) x).stood.alarms
unfolding begun
run_numbered b x = numbered-all (begun b) x (tt, tt)

spent-entry : (k : ℕ) (s : State) (e : Entry) → IsSpent k s.stood.alarms → IsSpent k (stood_after s e).alarms
spent-entry k s (CallEntry by call reply) h = spent-called k s.stood.alarms by call reply h
spent-entry k s (Fire number) h = (h.0, each-drop (λ due told. told ≢ k) s.stood.alarms.alarms h.1)
spent-entry k s Cleanup h = (h.0, tt)
spent-entry k s _ h = h

fires-not : (k number time : ℕ) (alarms : List Alarm) → LacksNumber k alarms → fires alarms time ≡ Some number → number ≢ k
fires-not k number time [] l f = absurd (cc)
fires-not k number time (a ∷ alarms) l f = let n = l.0 in grind arith

fire-number : (a b : ℕ) → Fire a ≡ Fire b → a ≡ b
fire-number a b h = cc

spent-fires : (k : ℕ) (s : State) (e : Entry) → May s e → IsSpent k s.stood.alarms → e ≢ Fire k
spent-fires k s (Fire number) m h = λ z. fires-not k number s.clock.time s.stood.alarms.alarms h.1 m.1.2 (fire-number number k z)
spent-fires k s _ m h = λ z. cc

spent-all : (k : ℕ) (s : State) (x : List Entry) → IsLawful s x → IsSpent k s.stood.alarms → AllByRecursion (λ (e : Entry). e ≢ Fire k) x
unfolding after
spent-all k s [] l h = tt
spent-all k s (e ∷ x) l h = (spent-fires k s e l.0 h, spent-all k (after s e) x l.1 (spent-entry k s e h))

fired-set : (k time n : ℕ) (alarms : List Alarm) → AreBelow n alarms × AreDistinct alarms → fires alarms time ≡ Some k → (k < n) × LacksNumber k (drop 1 alarms)
fired-set k time n [] h f = absurd (cc)
fired-set k time n (a ∷ alarms) h f =
    let e : a.number ≡ k = grind arith in
    let l = h.0.0 in
    (omega arith, rw (← e) h.1.0)

spent-fired : (k time : ℕ) (a : AlarmList) → AreNumbered a → fires a.alarms time ≡ Some k → (k < a.count) × LacksNumber k (drop 1 a.alarms)
spent-fired k time a h f = fired-set k time a.count a.alarms h f

-- behind an alarm that goes off, none of its number does
pub run_once : (b : Begin) (x y : List Entry) (alarm : ℕ) → IsLawful (begun b) (x ++ Fire alarm ∷ y) → All (λ (e : Entry). e ≢ Fire alarm) y
unfolding after
run_once b x y alarm l =
    let s = after_all (begun b) x in
    let t = lawful-tail (begun b) x (Fire alarm ∷ y) l in
    let spent = spent-fired alarm s.clock.time s.stood.alarms (run_numbered b x) t.0.1.2 in
    All-from_recursion (λ (e : Entry). e ≢ Fire alarm) y (spent-all alarm (after s (Fire alarm)) y t.1 spent)

-- the alarm of this number is the one that goes off
lacks-contains : (k : ℕ) (alarms : List Alarm) (a : Alarm) → LacksNumber k alarms → Contains alarms a → a.number ≢ k
lacks-contains k [] a n (i, l, e) = absurd (omega arith)
lacks-contains k (b ∷ alarms) a n (zero, l, e) = λ z. n.0 (ap (λ (c : Alarm). c.number) e ∙ z)
lacks-contains k (b ∷ alarms) a n (suc i, l, e) = lacks-contains k alarms a n.1 (i, omega arith, e)

same-head : (b : Alarm) (alarms : List Alarm) (a : Alarm) → LacksNumber b.number alarms → Contains (b ∷ alarms) a → a.number ≡ b.number → b ≡ a
same-head b alarms a n (zero, l, e) h = e
same-head b alarms a n (suc i, l, e) h = absurd (lacks-contains b.number alarms a n (i, omega arith, e) h)

distinct-same : (alarms : List Alarm) (a b : Alarm) → AreDistinct alarms → Contains alarms a → Contains alarms b → a.number ≡ b.number → a ≡ b
distinct-same [] a b d (i, l, e) c h = absurd (omega arith)
distinct-same (x ∷ alarms) a b d (zero, l, e) c h = sym e ∙ same-head x alarms b d.0 c (sym h ∙ ap (λ (c : Alarm). c.number) (sym e))
distinct-same (x ∷ alarms) a b d (suc i, l, e) (zero, k, f) h = sym (same-head x alarms a d.0 (suc i, l, e) (h ∙ ap (λ (c : Alarm). c.number) (sym f))) ∙ f
distinct-same (x ∷ alarms) a b d (suc i, l, e) (suc j, k, f) h = distinct-same alarms a b d.1 (i, omega arith, e) (j, omega arith, f) h

pub run_distinct : (b : Begin) (x : List Entry) (a c : Alarm) → Contains (after_all (begun b) x).stood.alarms.alarms a → Contains (after_all (begun b) x).stood.alarms.alarms c → a.number ≡ c.number → a ≡ c
run_distinct b x a c h k e = distinct-same (after_all (begun b) x).stood.alarms.alarms a c (run_numbered b x).1 h k e

wakes-head : (alarms : List Alarm) (time : ℕ) (a : Alarm) (task : ℕ) → AreDistinct alarms → fires alarms time ≡ Some a.number → Contains alarms a → a.task ≡ Some task → woken_by alarms ≡ task ∷ []
wakes-head [] time a task d f c t = absurd (cc)
wakes-head (b ∷ alarms) time a task d f c t =
    let n : a.number ≡ b.number = grind arith in
    let e = same-head b alarms a d.0 c n in
    rw (e, t) refl

next-wakes : (s : State) (e : Entry) (task : ℕ) → s.owed ≡ task ∷ [] → May s e → e ≡ Wake task
next-wakes s (Wake other) task o m = let h : other ≡ task = cc in ap (λ (k : ℕ). Wake k) h
next-wakes s _ task o m = absurd (cc)

pub run_wakes : (b : Begin) (x y : List Entry) (e : Entry) (a : Alarm) (task : ℕ) → IsLawful (begun b) (x ++ Fire a.number ∷ e ∷ y) → Contains (after_all (begun b) x).stood.alarms.alarms a → a.task ≡ Some task → e ≡ Wake task
unfolding after
run_wakes b x y e a task l c t =
    let s = after_all (begun b) x in
    let m = lawful-tail (begun b) x (Fire a.number ∷ e ∷ y) l in
    let owed = wakes-head s.stood.alarms.alarms s.clock.time a task (run_numbered b x).1 m.0.1.2 c t in
    next-wakes (after s (Fire a.number)) e task owed m.1.0
