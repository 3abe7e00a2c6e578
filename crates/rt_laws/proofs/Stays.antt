-- An alarm stays set until it goes off, or a cleanup begins.
use Rattle.rt_laws.proofs.Prelude.{◌≡◌, ◌≢◌, ◌≤◌, ◌+◌, ◌⊎◌, inl, inr, ℕ, zero, suc, List, [], ◌∷◌, ◌++◌, map, drop, Option, Some, Bool, true, false, eqb, ◌&&◌, ◌||◌, refl, ap, arith, Contains, cases_Bool, Contains-append_right, Call, SleepPoll, CallReply, PendingAt, Entry, CallEntry, Fire, Cleanup, Alarm, AlarmList, is_before, with_alarm, waking, Begin, State, Turning, begun, slept, fires, is_set, after, after_all, alarms_called, May, IsLawful, after_all-append}
use Rattle.rt_laws.proofs.Clock.{lawful-tail}
use Rattle.rt_laws.proofs.Order.{NoneBefore}
use Rattle.rt_laws.proofs.Timely.{run_timely, outside}

here : {X : Type 0} → (x z : X) (xs : List X) → x ≡ z → Contains (x ∷ xs) z
here x z xs h = (0, omega arith, h)

-- an alarm with this due time and number is set
abbrev pub has_alarm : List Alarm → ℕ → ℕ → Bool
has_alarm [] due number = false
has_alarm (a ∷ alarms) due number = (eqb a.due due && eqb a.number number) || has_alarm alarms due number

has-of : (alarms : List Alarm) (a : Alarm) → Contains alarms a → has_alarm alarms a.due a.number ≡ true
has-of [] a (k, l, e) = absurd (omega arith)
has-of (b ∷ alarms) a (zero, l, e) = grind arith
has-of (b ∷ alarms) a (suc k, l, e) = grind (arith, has-of alarms a (k, omega arith, e))

has-with : (a : Alarm) (alarms : List Alarm) (due number : ℕ) → has_alarm alarms due number ≡ true → has_alarm (with_alarm a alarms) due number ≡ true
has-with a [] due number h = absurd (cc)
has-with a (b ∷ alarms) due number h = grind (arith, has-with a alarms due number)

with-new : (a : Alarm) (alarms : List Alarm) → Contains (with_alarm a alarms) a
with-new a [] = here a a [] refl
with-new a (b ∷ alarms) = elim (cases_Bool (is_before a b)) [
  | inl h ↦ rw h (here a a (b ∷ alarms) refl)
  | inr h ↦ rw h (Contains-append_right (b ∷ []) (with_alarm a alarms) a (with-new a alarms))
]

waking-is : (due number : ℕ) (task : Option ℕ) (b : Alarm) (alarms : List Alarm) → eqb b.number number ≡ true → is_set (b ∷ alarms) due number ≡ true → waking number task b ≡ record { due = due; number = number; task = task }
waking-is due number task b alarms e h =
    let same : b.number ≡ number = grind arith in
    let at : eqb b.due due ≡ true = rw e at h in
    let moment : b.due ≡ due = grind arith in
    rw (e, moment, same) refl

waking-new : (due number : ℕ) (task : Option ℕ) (alarms : List Alarm) → is_set alarms due number ≡ true → Contains (map (waking number task) alarms) (record { due = due; number = number; task = task })
waking-new due number task [] h = absurd (cc)
waking-new due number task (b ∷ alarms) h =
    let a : Alarm = record { due = due; number = number; task = task } in
    elim (cases_Bool (eqb b.number number)) [
      | inl e ↦ here (waking number task b) a (map (waking number task) alarms) (waking-is due number task b alarms e h)
      | inr e ↦ Contains-append_right (waking number task b ∷ []) (map (waking number task) alarms) a (waking-new due number task alarms (rw e at h))
    ]

has-waking : (told : ℕ) (task : Option ℕ) (alarms : List Alarm) (due number : ℕ) → has_alarm alarms due number ≡ true → has_alarm (map (waking told task) alarms) due number ≡ true
has-waking told task [] due number h = absurd (cc)
has-waking told task (b ∷ alarms) due number h = grind (arith, has-waking told task alarms due number)

has-slept : (a : AlarmList) (by : Option ℕ) (at told due number : ℕ) → has_alarm a.alarms due number ≡ true → has_alarm (slept a by at told).alarms due number ≡ true
has-slept a by at told due number h = grind (arith, has-with (record { due = at; number = a.count; task = by }) a.alarms due number h, has-waking told by a.alarms due number h)

slept-new : (a : AlarmList) (by : Option ℕ) (due number : ℕ) → (number ≡ a.count) ⊎ (is_set a.alarms due number ≡ true) → Contains (slept a by due number).alarms (record { due = due; number = number; task = by })
slept-new a by due number h = elim (cases_Bool (eqb number a.count)) [
  | inl e ↦ (let same : number ≡ a.count = grind arith in rw (e, same) (with-new (record { due = due; number = a.count; task = by }) a.alarms))
  | inr e ↦ rw e (waking-new due number by a.alarms (elim h [ inl n ↦ absurd (grind arith) | inr n ↦ n ]))
]

has-called : (a : AlarmList) (by : Option ℕ) (call : Call) (reply : CallReply) (due number : ℕ) → has_alarm a.alarms due number ≡ true → has_alarm (alarms_called a by call reply).alarms due number ≡ true
has-called a by (SleepPoll at) (PendingAt told) due number h = has-slept a by at told due number h
has-called a by _ _ due number h = h

has-fired : (alarms : List Alarm) (time fired due number : ℕ) → fires alarms time ≡ Some fired → has_alarm alarms due number ≡ true → (fired ≡ number) ⊎ (has_alarm (drop 1 alarms) due number ≡ true)
has-fired [] time fired due number f h = absurd (cc)
has-fired (a ∷ alarms) time fired due number f h = grind arith

abbrev pub Stays : State → Entry → ℕ → ℕ → Type 0
Stays s e due number = (e ≡ Fire number) ⊎ ((e ≡ Cleanup) ⊎ (has_alarm (after s e).stood.alarms.alarms due number ≡ true))

stays-entry : (s : State) (e : Entry) (due number : ℕ) → May s e → has_alarm s.stood.alarms.alarms due number ≡ true → Stays s e due number
unfolding after
stays-entry s (CallEntry by call reply) due number m h = inr (inr (has-called s.stood.alarms by call reply due number h))
stays-entry s (Fire fired) due number m h = elim (has-fired s.stood.alarms.alarms s.clock.time fired due number m.1.2 h) [
  | inl e ↦ inl (ap (λ (k : ℕ). Fire k) e)
  | inr k ↦ inr (inr k)
]
stays-entry s Cleanup due number m h = inr (inl refl)
stays-entry s _ due number m h = inr (inr h)

stays-all : (s : State) (y : List Entry) (due number : ℕ) → IsLawful s y → has_alarm s.stood.alarms.alarms due number ≡ true → Contains y (Fire number) ⊎ (Contains y Cleanup ⊎ (has_alarm (after_all s y).stood.alarms.alarms due number ≡ true))
stays-all s [] due number l h = inr (inr h)
stays-all s (e ∷ y) due number l h = elim (stays-entry s e due number l.0 h) [
  | inl k ↦ inl (here e (Fire number) y k)
  | inr k ↦ elim k [
    | inl k ↦ inr (inl (here e Cleanup y k))
    | inr k ↦ elim (stays-all (after s e) y due number l.1 k) [
      | inl z ↦ inl (Contains-append_right (e ∷ []) y (Fire number) z)
      | inr z ↦ elim z [ inl z ↦ inr (inl (Contains-append_right (e ∷ []) y Cleanup z)) | inr z ↦ inr (inr z) ]
    ]
  ]
]

has-none : (m : ℕ) (alarms : List Alarm) (due number : ℕ) → NoneBefore m alarms → has_alarm alarms due number ≡ true → m ≤ due
has-none m [] due number k h = absurd (cc)
has-none m (a ∷ alarms) due number k h = grind (arith, has-none m alarms due number k.1)

-- an alarm whose time has come has gone off, once the clock step is over
pub run_gone : (b : Begin) (x y : List Entry) (a : Alarm) → IsLawful (begun b) (x ++ y) → Contains (after_all (begun b) x).stood.alarms.alarms a → (after_all (begun b) (x ++ y)).phase ≢ Turning → a.due ≤ (after_all (begun b) (x ++ y)).clock.time → Contains y (Fire a.number) ⊎ Contains y Cleanup
run_gone b x y a l c p d =
    let s = after_all (begun b) x in
    let t = after_all (begun b) (x ++ y) in
    let h = has-of s.stood.alarms.alarms a c in
    elim (stays-all s y a.due a.number (lawful-tail (begun b) x y l) h) [
      | inl z ↦ inl z
      | inr z ↦ elim z [
        | inl z ↦ inr z
        | inr z ↦ (
            let alarms : has_alarm t.stood.alarms.alarms a.due a.number ≡ true = rw (after_all-append (begun b) x y) z in
            let late = has-none (t.clock.time + 1) t.stood.alarms.alarms a.due a.number (outside t.phase t p (run_timely b (x ++ y) l)) alarms in
            absurd (omega arith))
      ]
    ]

-- a sleep that waits has its alarm
pub run_pending : (b : Begin) (x y : List Entry) (by : Option ℕ) (due number : ℕ) → IsLawful (begun b) (x ++ CallEntry by (SleepPoll due) (PendingAt number) ∷ y) → Contains (after_all (begun b) (x ++ CallEntry by (SleepPoll due) (PendingAt number) ∷ [])).stood.alarms.alarms (record { due = due; number = number; task = by })
unfolding after
run_pending b x y by due number l =
    let s = after_all (begun b) x in
    let e = CallEntry by (SleepPoll due) (PendingAt number) in
    let m = (lawful-tail (begun b) x (e ∷ y) l).0.1.1 in
    rw (after_all-append (begun b) x (e ∷ [])) (slept-new s.stood.alarms by due number m.2)
