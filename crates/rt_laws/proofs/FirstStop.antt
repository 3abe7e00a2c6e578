-- The shutdown of a run stays one, and its signals show the value of the first stop.
use Rattle.rt_laws.proofs.Prelude.{◌≡◌, ◌≢◌, ◌⊎◌, inl, inr, ℕ, ℤ, List, [], ◌∷◌, ◌++◌, Option, Some, None, Result, Ok, true, refl, ◌∙◌, arith, All, AllByRecursion, IsSome, recursion_from_All, Error, Poll, SignalRecord, StopRecord, IsShutdown, ShowShutdown, new_group, signal_group, stop_after, stop_shown, stopped_answer, with_stop, others_there, clone_keeps, signal_keeps, closing_keeps, close_keeps, poll_keeps, polled_keeps, shows, first_is, stopped_keeps, Call, Signaler, CloneSignal, Signal, SignalPoll, SignalClose, SignalerClose, CompletionPoll, CompletionClose, Stop, CallReply, Done, SignalAt, CompletionAt, ClosedWith, StillPending, Entry, CallEntry, Begin, has_signaler, shown_reply, stopped_reply, State, begun, after, after_all, signals_called, stop_called, Answers, May, ShownAs, IsLawful, after_all-append}
use Rattle.rt_base.specs.declared.poll.Poll.TheVariants.{Ready}
use Rattle.rt_audit.specs.declared.call.Call.TheVariants.{Stopped}
use Rattle.rt_audit.specs.declared.reply.CallReply.TheVariants.{Value}
use Rattle.rt_laws.proofs.Clock.{lawful-tail, lawful-front}

abbrev IsOne : State → Type 0
IsOne s = IsShutdown s.stood.signals s.stood.stop

pub by-value : (o : Option ℤ) → (o ≡ None) ⊎ ((v : ℤ) × (o ≡ Some v))
by-value None = inl refl
by-value (Some v) = inr (v, refl)

-- no call spends a signaler of the shutdown
none-own : (s : State) (signaler : ℕ) → has_signaler s.stood.signals s.stood.stop signaler ≡ true → s.stood.stop.group ≡ signaler → IsSome s.stood.stop.value
none-own s signaler there same = absurd (grind (arith, there, same))

stop-one : (r : SignalRecord) (s : StopRecord) (value : ℤ) → IsShutdown r s → IsShutdown (stop_after r s value) (with_stop s value)
stop-one r s value is = elim (by-value s.value) [
  | inl e ↦ rw e (first_is r s.group value (rw e at is))
  | inr e ↦ rw e.1 (rw e.1 at is)
]

one-called : (s : State) (by : Option ℕ) (call : Call) (reply : CallReply) → Answers s call reply → IsOne s → IsShutdown (signals_called s.stood.signals s.stood.stop by call reply) (stop_called s.stood.stop call reply)
one-called s by Signaler (SignalAt number) a is = others_there s.stood.signals.count s.stood.stop.group new_group _ s.stood.signals.groups is
one-called s by (CloneSignal signal) (SignalAt number) a is = clone_keeps s.stood.signals signal s.stood.stop is
one-called s by (Signal signaler value) Done a is = signal_keeps s.stood.signals signaler value s.stood.stop (none-own s signaler a) is
one-called s by (SignalPoll signal) StillPending a is = poll_keeps s.stood.signals signal by s.stood.stop is
one-called s by (SignalClose signal) Done a is = close_keeps s.stood.signals signal s.stood.stop is
one-called s by (SignalerClose signaler) Done a is = closing_keeps s.stood.signals signaler s.stood.stop (none-own s signaler a) is
one-called s by (CompletionPoll completion) StillPending a is = polled_keeps s.stood.signals completion by s.stood.stop is
one-called s by (CompletionClose completion) Done a is = is
one-called s by (Stop value) (CompletionAt number) a is = stop-one s.stood.signals s.stood.stop value is
one-called s by Stopped (SignalAt number) a is = stopped_keeps s.stood.signals s.stood.stop s.stood.stop is
one-called s by _ _ a is = is

one-after : (s : State) (e : Entry) → May s e → IsOne s → IsOne (after s e)
unfolding after
one-after s (CallEntry by call reply) m is = one-called s by call reply m.1.1 is
one-after s _ m is = is

one-all : (s : State) (x : List Entry) → IsOne s → IsLawful s x → IsOne (after_all s x)
one-all s [] is l = is
one-all s (e ∷ x) is l = one-all (after s e) x (one-after s e l.0 is) l.1

one-begun : (b : Begin) → IsOne (begun b)
unfolding begun
one-begun b = refl

module _ (b : Begin) (x : List Entry) where
  abbrev behind : State
  behind = after_all (begun b) x

  pub shown : IsLawful (begun b) x → ShowShutdown behind.stood.signals behind.stood.stop
  shown l = shows behind.stood.signals behind.stood.stop (one-all (begun b) x (one-begun b) l)

-- the value stays
stays-called : (s : StopRecord) (call : Call) (reply : CallReply) (v : ℤ) → s.value ≡ Some v → (stop_called s call reply).value ≡ Some v
stays-called s (Stop value) (CompletionAt number) v is = rw is refl
stays-called s _ _ v is = is

stays-after : (s : State) (e : Entry) (v : ℤ) → s.stood.stop.value ≡ Some v → (after s e).stood.stop.value ≡ Some v
unfolding after
stays-after s (CallEntry by call reply) v is = stays-called s.stood.stop call reply v is
stays-after s _ v is = is

stays-all : (s : State) (x : List Entry) (v : ℤ) → s.stood.stop.value ≡ Some v → (after_all s x).stood.stop.value ≡ Some v
stays-all s [] v is = is
stays-all s (e ∷ x) v is = stays-all (after s e) x v (stays-after s e v is)

pub stays : (b : Begin) (x y : List Entry) (v : ℤ) → (after_all (begun b) x).stood.stop.value ≡ Some v → (after_all (begun b) (x ++ y)).stood.stop.value ≡ Some v
stays b x y v is = rw (after_all-append (begun b) x y) (stays-all (after_all (begun b) x) y v is)

-- and nothing but a stop gives it
abbrev IsNoStop : Entry → Type 0
IsNoStop e = (by : Option ℕ) (value : ℤ) (reply : CallReply) → e ≢ CallEntry by (Stop value) reply

none-called : (s : StopRecord) (by : Option ℕ) (call : Call) (reply : CallReply) → IsNoStop (CallEntry by call reply) → s.value ≡ None → (stop_called s call reply).value ≡ None
none-called s by (Stop value) (CompletionAt number) lacks none = absurd (lacks by value (CompletionAt number) refl)
none-called s by _ _ lacks none = none

none-after : (s : State) (e : Entry) → IsNoStop e → s.stood.stop.value ≡ None → (after s e).stood.stop.value ≡ None
unfolding after
none-after s (CallEntry by call reply) lacks none = none-called s.stood.stop by call reply lacks none
none-after s _ lacks none = none

none-all : (s : State) (x : List Entry) → AllByRecursion IsNoStop x → s.stood.stop.value ≡ None → (after_all s x).stood.stop.value ≡ None
none-all s [] lacks none = none
none-all s (e ∷ x) lacks none = none-all (after s e) x lacks.1 (none-after s e lacks.0 none)

pub unstopped : (b : Begin) (x : List Entry) → All IsNoStop x → (after_all (begun b) x).stood.stop.value ≡ None
unfolding begun
unstopped b x lacks = none-all (begun b) x (recursion_from_All IsNoStop x lacks) refl

-- what is told behind a stop
told-behind : (r : SignalRecord) (s : StopRecord) (v : ℤ) → s.value ≡ Some v → stopped_reply (stopped_answer r s) ≡ ClosedWith v
told-behind r s v some = rw some refl

-- and before the first
told-before : (r : SignalRecord) (s : StopRecord) → s.value ≡ None → stopped_reply (stopped_answer r s) ≡ SignalAt r.count
told-before r s none = rw none refl

shown-behind : (s : StopRecord) (v : ℤ) → s.value ≡ Some v → stop_shown s ≡ Ok (Ready v)
shown-behind s v some = rw some refl

value-told : (answer : Result (Poll ℤ) Error) (reply : CallReply) (v : ℤ) → ShownAs shown_reply answer reply → answer ≡ Ok (Ready v) → reply ≡ Value v
value-told answer reply v told is = rw is at told

module _ (b : Begin) (x y : List Entry) (by : Option ℕ) where
  abbrev before : State
  before = after_all (begun b) x

  first-at : (s : State) (value : ℤ) (reply : CallReply) → Answers s (Stop value) reply → s.stood.stop.value ≡ None → (stop_called s.stood.stop (Stop value) reply).value ≡ Some value
  first-at s value (CompletionAt number) a none = rw none refl
  first-at s value _ a none = absurd a

  pub first : (value : ℤ) (reply : CallReply) → IsLawful (begun b) (x ++ CallEntry by (Stop value) reply ∷ y) → before.stood.stop.value ≡ None → (after_all (begun b) (x ++ CallEntry by (Stop value) reply ∷ y)).stood.stop.value ≡ Some value
  unfolding after
  first value reply l none =
      let m = (lawful-tail (begun b) x (CallEntry by (Stop value) reply ∷ y) l).0 in
      rw (after_all-append (begun b) x (CallEntry by (Stop value) reply ∷ y))
      (stays-all (after before (CallEntry by (Stop value) reply)) y value (first-at before value reply m.1.1 none))

  pub later : (v : ℤ) (reply : CallReply) → IsLawful (begun b) (x ++ CallEntry by Stopped reply ∷ y) → before.stood.stop.value ≡ Some v → reply ≡ ClosedWith v
  later v reply l some =
      let m = (lawful-tail (begun b) x (CallEntry by Stopped reply ∷ y) l).0 in
      let told : reply ≡ stopped_reply (stopped_answer before.stood.signals before.stood.stop) = m.1.1 in
      told ∙ told-behind before.stood.signals before.stood.stop v some

  pub still_open : (reply : CallReply) → IsLawful (begun b) (x ++ CallEntry by Stopped reply ∷ y) → before.stood.stop.value ≡ None → reply ≡ SignalAt before.stood.signals.count
  still_open reply l none =
      let m = (lawful-tail (begun b) x (CallEntry by Stopped reply ∷ y) l).0 in
      let told : reply ≡ stopped_reply (stopped_answer before.stood.signals before.stood.stop) = m.1.1 in
      told ∙ told-before before.stood.signals before.stood.stop none

  pub polled : (signal : ℕ) (v : ℤ) (reply : CallReply) → IsLawful (begun b) (x ++ CallEntry by (SignalPoll signal) reply ∷ y) → signal_group before.stood.signals signal ≡ Some before.stood.stop.group → before.stood.stop.value ≡ Some v → reply ≡ Value v
  polled signal v reply l of some =
      let m = (lawful-tail (begun b) x (CallEntry by (SignalPoll signal) reply ∷ y) l).0 in
      let show = shown b x (lawful-front (begun b) x (CallEntry by (SignalPoll signal) reply ∷ y) l) signal of in
      value-told _ reply v m.1.1 (show ∙ shown-behind before.stood.stop v some)
