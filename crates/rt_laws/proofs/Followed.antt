-- That entries follow the steps of a task type, and which values they leave, found out by computing: a tie for an example, or none, which
-- says nothing.
use Rattle.rt_laws.proofs.Prelude.{◌≡◌, inl, inr, ℕ, ℤ, List, [], ◌∷◌, Option, Some, None, Result, Ok, Err, option_map, Bool, true, false, refl, subst, option_zip, Error, Call, Child, CloseNode, Spawn, Abort, AbortTask, WakeCall, Join, GiveUp, SleepPoll, Signaler, CloneSignal, Signal, SignalPoll, SignalClose, SignalerClose, CompletionPoll, CompletionClose, Stop, StoppedCall, NextU32, NextU64, FillBytes, Auditor, Slots, Slot, SlotSend, SlotClose, SlotPoll, SlotGiveUp, AbortWait, CallReply, Done, PendingAt, IsOver, Refused, AnswerKind, IsPending, IsPanicked, IsStopped, LacksMemory, IsEnded, Entry, Start, CallEntry, Event, Wake, Draw, Root, Round, Visit, AnswerEntry, NodeEnd, Advance, Skip, Fire, Cleanup, Crash, Finish, find, State, Phase, Between, Visiting, Turning, Over, Turn, Stood, alarm_of, after, counted, Held, Ask, Plainly, Sleeping, Sending, Spawning, IsOwn, IsAnswerOf, IsPlainly, Fits, Asks, call_of, heard_of, moved, has_place, put, Step, Does, Spends, Counts, Gives, Gave, Goes, Walks, Steps, Value, Polls, PollBreaks, given, kept_text, taken, MovesCleanup, MovesCrash, Moves, IsTied}
use Rattle.rt_audit.specs.declared.answer.AnswerKind.TheVariants.{Ready as IsReady}
use Rattle.rt_model.specs.declared.answer.Answer.{Answer}
use Rattle.rt_model.specs.declared.answer.Answer.TheVariants.{Pending, Ready, Panicked}
use Rattle.rt_laws.proofs.Decided.{is_true, is_false, same, same_list, same_error, same_value_of, none_left}

-- what follows from what was found
abbrev found : {P Q : Type 0} → Option P → (P → Option Q) → Option Q
found None more = None
found (Some p) more = more p

-- calls

pub numbered : (f : ℕ → Call) (x y : ℕ) → x ≡ y → f x ≡ f y
numbered f x y e = rw e refl

abbrev same_number : (f : ℕ → Call) (x y : ℕ) → Option (f x ≡ f y)
same_number f x y = found (same x y) (λ e. Some (numbered f x y e))

pub same_child : (n m : ℕ) (k l : List ℕ) → n ≡ m → k ≡ l → Child n k ≡ Child m l
same_child n m k l e f = rw (e, f) refl

pub same_signal : (n m : ℕ) (v w : ℤ) → n ≡ m → v ≡ w → Signal n v ≡ Signal m w
same_signal n m v w e f = rw (e, f) refl

pub same_stop : (v w : ℤ) → v ≡ w → Stop v ≡ Stop w
same_stop v w e = rw e refl

abbrev same_call : (x y : Call) → Option (x ≡ y)
same_call (Child n k) (Child m l) = found (same n m) (λ e. found (same_list same k l) (λ f. Some (same_child n m k l e f)))
same_call (CloseNode n) (CloseNode m) = same_number (λ n. CloseNode n) n m
same_call (Spawn n) (Spawn m) = same_number (λ n. Spawn n) n m
same_call (Abort n) (Abort m) = same_number (λ n. Abort n) n m
same_call (AbortTask n) (AbortTask m) = same_number (λ n. AbortTask n) n m
same_call (WakeCall n) (WakeCall m) = same_number (λ n. WakeCall n) n m
same_call (Join n) (Join m) = same_number (λ n. Join n) n m
same_call (GiveUp n) (GiveUp m) = same_number (λ n. GiveUp n) n m
same_call (SleepPoll n) (SleepPoll m) = same_number (λ n. SleepPoll n) n m
same_call (Slots Slot) (Slots Slot) = Some refl
same_call (Slots (SlotSend n)) (Slots (SlotSend m)) = same_number (λ n. Slots (SlotSend n)) n m
same_call (Slots (SlotClose n)) (Slots (SlotClose m)) = same_number (λ n. Slots (SlotClose n)) n m
same_call (Slots (SlotPoll n)) (Slots (SlotPoll m)) = same_number (λ n. Slots (SlotPoll n)) n m
same_call (Slots (SlotGiveUp n)) (Slots (SlotGiveUp m)) = same_number (λ n. Slots (SlotGiveUp n)) n m
same_call (Slots (AbortWait n)) (Slots (AbortWait m)) = same_number (λ n. Slots (AbortWait n)) n m
same_call Signaler Signaler = Some refl
same_call (CloneSignal n) (CloneSignal m) = same_number (λ n. CloneSignal n) n m
same_call (Signal n v) (Signal m w) = found (same n m) (λ e. found (same_value_of v w) (λ f. Some (same_signal n m v w e f)))
same_call (SignalPoll n) (SignalPoll m) = same_number (λ n. SignalPoll n) n m
same_call (SignalClose n) (SignalClose m) = same_number (λ n. SignalClose n) n m
same_call (SignalerClose n) (SignalerClose m) = same_number (λ n. SignalerClose n) n m
same_call (CompletionPoll n) (CompletionPoll m) = same_number (λ n. CompletionPoll n) n m
same_call (CompletionClose n) (CompletionClose m) = same_number (λ n. CompletionClose n) n m
same_call (Stop v) (Stop w) = found (same_value_of v w) (λ e. Some (same_stop v w e))
same_call StoppedCall StoppedCall = Some refl
same_call NextU32 NextU32 = Some refl
same_call NextU64 NextU64 = Some refl
same_call (FillBytes n) (FillBytes m) = same_number (λ n. FillBytes n) n m
same_call Auditor Auditor = Some refl
same_call _ _ = None

abbrev is_done : (reply : CallReply) → Option (reply ≡ Done)
is_done Done = Some refl
is_done _ = None

abbrev own : (s : Stood) (due : ℕ) (alarm : Option ℕ) (reply : CallReply) → Option (IsOwn s.alarms due alarm reply)
own s due alarm (PendingAt number) = same number (alarm_of s.alarms due alarm)
own s due alarm IsOver = Some tt
own s due alarm _ = None

pub refused_for : (x y : Error) → x ≡ y → Refused x ≡ Refused y
refused_for x y e = rw e refl

abbrev answer : {O : Type 0} (sent : Option (Result O Error)) (reply : CallReply) → Option (IsAnswerOf sent reply)
answer None reply = Some tt
answer (Some (Ok value)) IsOver = Some refl
answer (Some (Err error)) (Refused other) = found (same_error other error) (λ e. Some (refused_for other error e))
answer _ _ = None

module _ {A O : Type 0} where
  abbrev plainly : (held : Held A O) (stood : Stood) (call : Call) (reply : CallReply) → Option (IsPlainly held stood call reply)
  plainly held stood (Spawn node) reply = None
  plainly held stood (SleepPoll due) reply = None
  plainly held stood (Slots (SlotSend slot)) reply = None
  plainly held stood (Slots (SlotPoll slot)) reply = answer (find slot held.sent) reply
  plainly held stood _ reply = Some tt

  abbrev fits : (held : Held A O) (ask : Ask A O) (t : Turn) → Option (Fits held ask t)
  fits held (Plainly call) t = plainly held t.stood call t.reply
  fits held (Sleeping due alarm) t = own t.stood due alarm t.reply
  fits held (Sending slot sent) t = Some tt
  fits held (Spawning node execution made) t = Some tt

  abbrev asks : (held : Held A O) (ask : Ask A O) (t : Turn) → Option (Asks held ask t)
  asks held ask t = option_zip (same_call t.call (call_of ask)) (fits held ask t)

-- walks

pub there_is : (b : Bool) → b ≡ true → b ≡ false → ⊥
there_is b e f = cc

module _ {A L O R : Type 0} where
  abbrev gave : (stood : Stood) (held : Held A O) (step : Step A L O R) → Option ((answer : R) × (left : L) × (end : Held A O) × Gave stood held step answer left end)
  gave stood held (Does ask on) = None
  gave stood held (Spends ask next) =
      found (is_false (has_place stood (call_of ask))) (λ gone. found (gave stood held next) (λ g. Some (g.0, g.1, g.2, (gone, g.3))))
  gave stood held (Counts change next) = gave stood (counted change held) next
  gave stood held (Gives answer left) = Some (answer, left, held, (refl, refl, refl))

  module _ (P : R → L → Held A O → Held A O → Step A L O R → Type 0) (t : Turn) (rest : (held : Held A O) (step : Step A L O R) → Option ((answer : R) × (left : L) × (end : Held A O) × P answer left end held step)) where
    abbrev goes : (held : Held A O) (step : Step A L O R) → Option ((answer : R) × (left : L) × (end : Held A O) × Goes (P answer left end) held step t)
    goes held (Does ask on) =
        found (asks held ask t) (λ a. found (rest (moved held ask t) (on (heard_of held t))) (λ g. Some (g.0, g.1, g.2, (a, g.3))))
    goes held (Spends ask next) = spends held ask next (has_place t.stood (call_of ask)) refl (goes held next)
      where
        spends : (held : Held A O) (ask : Ask A O) (next : Step A L O R) (b : Bool) → has_place t.stood (call_of ask) ≡ b → Option ((answer : R) × (left : L) × (end : Held A O) × Goes (P answer left end) held next t) → Option ((answer : R) × (left : L) × (end : Held A O) × Goes (P answer left end) held (Spends ask next) t)
        spends held ask next true e later =
            found (option_zip (same_call t.call (call_of ask)) (is_done t.reply)) (λ c. found (rest (moved held ask t) next) (λ g. Some (g.0, g.1, g.2, (λ there. (c.0, c.1, g.3), λ gone. absurd (there_is _ e gone)))))
        spends held ask next false e later = found later (λ g. Some (g.0, g.1, g.2, (λ there. absurd (there_is _ there e), λ gone. g.3)))
    goes held (Counts change next) = goes (counted change held) next
    goes held (Gives answer left) = None

  abbrev walk : (turns : List Turn) (stood : Stood) (held : Held A O) (step : Step A L O R) → Option ((answer : R) × (left : L) × (end : Held A O) × Walks step held turns stood answer left end)
  walk [] stood held step = gave stood held step
  walk (t ∷ turns) stood held step = goes (λ answer left end held step. Walks step held turns stood answer left end) t (walk turns stood) held step

-- entries

abbrev there : {X : Type 0} (o : Option X) → Option ((x : X) × (o ≡ Some x))
there None = None
there (Some x) = Some (x, refl)

module _ {A O : Type 0} (p : Steps A O) (s : State) (v : Value A O) where
  abbrev Moved : Entry → Type 0
  Moved e = (w : Value A O) × Moves p s v e w

  -- the poll of a task, with its answer
  abbrev Polled : ℕ → Type 0
  Polled task = (answer : Answer O) × (end : Held A O) × Polls p s task v.held answer end

  abbrev polled : (task : ℕ) → Option (Polled task)
  polled task =
      found (there (find task v.held.tasks)) (λ a. found (walk s.turns s.stood (taken task v.held) (p.task.next a.0 s.clock.time task)) (λ g. Some (g.0, put task g.1 g.2, record { before = a.0; left = g.1; moved = g.2; there = a.1; walks = g.3; is = refl })))

  abbrev pended : (task : ℕ) → Polled task → Option (Moved (AnswerEntry task IsPending))
  pended task (Pending, end, k) = Some (record v { held = end }, (end, k, refl))
  pended task _ = None

  abbrev readied : (task : ℕ) → Polled task → Option (Moved (AnswerEntry task IsReady))
  readied task (Ready o, end, k) = Some (given s task o end v, (o, end, k, refl))
  readied task _ = None

  abbrev panicked : (task : ℕ) → Polled task → Option (Moved (AnswerEntry task IsPanicked))
  panicked task (Panicked text, end, k) = Some (record v { held = end; panic = kept_text s task text v.panic }, (text, end, k, refl))
  panicked task _ = None

  -- a poll that lacked memory before its first call
  pub broken_at_once : (task : ℕ) (a : A) → find task v.held.tasks ≡ Some a → s.turns ≡ [] → PollBreaks p s task v (record v { held = put task a (taken task v.held); whole = false })
  broken_at_once task a e f =
      record { before = a; left = a; there = e; moved = taken task v.held; breaks = inr (rw f ((taken task v.held).counts, refl)); is = refl }

  abbrev answers : (task : ℕ) (kind : AnswerKind) → Option (Moved (AnswerEntry task kind))
  answers task IsPending = found (polled task) (pended task)
  answers task IsReady = found (polled task) (readied task)
  answers task IsPanicked = found (polled task) (panicked task)
  answers task IsStopped = Some (v, refl)
  answers task LacksMemory =
      found (there (find task v.held.tasks)) (λ a. found (none_left s.turns) (λ f. Some (record v { held = put task a.0 (taken task v.held); whole = false }, broken_at_once task a.0 a.1 f)))
  answers task IsEnded =
      found (there (find task v.held.tasks)) (λ a. found (walk s.turns s.stood (taken task v.held) (p.task.last a.0 s.clock.time task)) (λ g. Some (record v { held = g.2 }, (a.0, a.1, inl (g.3, refl)))))

  abbrev cleans : (q : Phase) → Option ((w : Value A O) × MovesCleanup p s v q w)
  cleans Between = Some (v, refl)
  cleans (Visiting left) = Some (v, refl)
  cleans Turning = Some (v, refl)
  cleans (Over cause) = Some (v, refl)
  cleans _ = None

  abbrev crashes : (unmade : Option A) → Option ((w : Value A O) × MovesCrash p s v unmade w)
  crashes None = found (none_left s.turns) (λ f. Some (v, (refl, f)))
  crashes (Some a) = None

  abbrev moves : (e : Entry) → Option (Moved e)
  moves (Start next now deadline cycle) = Some (v, refl)
  moves (CallEntry by call reply) = Some (v, refl)
  moves (Event label fields) = Some (v, refl)
  moves (Wake task) = Some (v, refl)
  moves (Draw value) = Some (v, refl)
  moves (Root task) =
      found (walk s.turns s.stood v.held (p.first s.clock.time)) (λ g. Some (record v { held = put task g.1 g.2 }, (g.1, g.2, g.3, refl)))
  moves (Round order) = found (is_true v.whole) (λ e. Some (v, (refl, e)))
  moves (Visit task) = found (is_true v.whole) (λ e. Some (v, (refl, e)))
  moves (AnswerEntry task kind) = answers task kind
  moves (NodeEnd node) = Some (v, refl)
  moves (Advance now) = found (is_true v.whole) (λ e. Some (v, (refl, e)))
  moves (Skip now) = found (is_true v.whole) (λ e. Some (v, (refl, e)))
  moves (Fire alarm) = found (is_true v.whole) (λ e. Some (v, (refl, e)))
  moves Cleanup = cleans s.phase
  moves (Crash choices) = crashes v.unmade
  moves (Finish cause) = Some (v, refl)

module _ {A O : Type 0} (p : Steps A O) where
  abbrev pub moves_all : (s : State) (v : Value A O) (x : List Entry) → Option ((w : Value A O) × IsTied p s v x w)
  moves_all s v [] = Some (v, refl)
  moves_all s v (e ∷ x) = found (moves p s v e) (λ m. found (moves_all (after s e) m.0 x) (λ t. Some (t.0, (m.0, m.1, t.1))))

  -- a journal that is tied, as computing it tells, with the values that it leaves
  pub tied : (s : State) (v w : Value A O) (x : List Entry) → option_map (λ t. t.0) (moves_all s v x) ≡ Some w → IsTied p s v x w
  tied s v w x e = by (moves_all s v x) e
    where
      by : (o : Option ((w : Value A O) × IsTied p s v x w)) → option_map (λ t. t.0) o ≡ Some w → IsTied p s v x w
      by None e = absurd (cc)
      by (Some t) e = let same : t.0 ≡ w = cc in subst (λ w. IsTied p s v x w) same t.1
