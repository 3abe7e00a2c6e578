-- Calls on signals move no value.
use Rattle.rt_world.proofs.Prelude.{◌≡◌, ◌∙◌, ap, inl, inr, ℕ, ℤ, List, refl, Bool, true, false, Option, Result, Ok, Err, IfOk, IfErr, OnErr, Stream, Error, NoMemory, OutOfMemory, Poll, Call, Signaler, CloneSignal, Signal, SignalPoll, SignalClose, SignalerClose, CompletionPoll, CompletionClose, Stop, Stopped, NextU32, NextU64, FillBytes, Auditor, CallReply, Done, SignalAt, CompletionAt, Refused, StopAnswer, met_reply, shown_reply, stopped_reply, State, Held, Heard, Plainly, Plain, has_place, drawn_called, numbers_called, results_called, running_called, slots_called, IsRefused, Noted, Spent, lacking, Seen, Roomed, AreSeated, AreSlotted, World, Kept, Made, WorldRefused, world_lacking, Called, Goes, tells, clone_told, met_told, shown_told, signaler_told, stop_told, stopped_told}
use Rattle.rt_world.proofs.Walked.{called-lacking, called-made, called-refused, tells-lacking, tells-made, tells-refused, stays-same, stays-marked, grows-same, lasts-kept, calling-kept}
use Rattle.rt_world.proofs.Lasting.{lasts-of}
use Rattle.rt_world.proofs.Drawn.{drew-same}
use Rattle.rt_world.proofs.Calling.{seated-quiet}
use Rattle.rt_world.proofs.Slotted.{slotted-noted}

-- the call moves no task, no result and no slot
abbrev pub is_apart : Call → Bool
is_apart Signaler = true
is_apart (CloneSignal signal) = true
is_apart (Signal signaler value) = true
is_apart (SignalPoll signal) = true
is_apart (SignalClose signal) = true
is_apart (SignalerClose signaler) = true
is_apart (CompletionPoll completion) = true
is_apart (CompletionClose completion) = true
is_apart (Stop value) = true
is_apart Stopped = true
is_apart NextU32 = true
is_apart NextU64 = true
is_apart (FillBytes len) = true
is_apart Auditor = true
is_apart _ = false

pub record Quiet (s : State) (by : Option ℕ) (call : Call) (reply : CallReply) : Type 0 where
  pub running : running_called s.running call reply ≡ s.running
  pub numbers : numbers_called s.numbers call reply ≡ s.numbers
  pub results : results_called s.stood.results by call reply ≡ s.stood.results
  pub slots : slots_called s.stood.slots by call reply ≡ s.stood.slots

pub quiet : (s : State) (by : Option ℕ) (call : Call) (reply : CallReply) → is_apart call ≡ true → Quiet s by call reply
quiet s by Signaler reply h = record { running = refl; numbers = refl; results = refl; slots = refl }
quiet s by (CloneSignal signal) reply h = record { running = refl; numbers = refl; results = refl; slots = refl }
quiet s by (Signal signaler value) reply h = record { running = refl; numbers = refl; results = refl; slots = refl }
quiet s by (SignalPoll signal) reply h = record { running = refl; numbers = refl; results = refl; slots = refl }
quiet s by (SignalClose signal) reply h = record { running = refl; numbers = refl; results = refl; slots = refl }
quiet s by (SignalerClose signaler) reply h = record { running = refl; numbers = refl; results = refl; slots = refl }
quiet s by (CompletionPoll completion) reply h = record { running = refl; numbers = refl; results = refl; slots = refl }
quiet s by (CompletionClose completion) reply h = record { running = refl; numbers = refl; results = refl; slots = refl }
quiet s by (Stop value) reply h = record { running = refl; numbers = refl; results = refl; slots = refl }
quiet s by Stopped reply h = record { running = refl; numbers = refl; results = refl; slots = refl }
quiet s by NextU32 reply h = record { running = refl; numbers = refl; results = refl; slots = refl }
quiet s by NextU64 reply h = record { running = refl; numbers = refl; results = refl; slots = refl }
quiet s by (FillBytes len) reply h = record { running = refl; numbers = refl; results = refl; slots = refl }
quiet s by Auditor reply h = record { running = refl; numbers = refl; results = refl; slots = refl }
quiet s by _ reply h = absurd (cc)

module _ {A O V : Type 0} (tasks : Roomed (ℕ × A)) (outputs : Roomed (ℕ × O)) (sent : Roomed (ℕ × V)) (out by : Option ℕ) (old new : Seen) (i : AreSeated tasks outputs out old.told.state × AreSlotted sent old.told.state.stood.slots) where
  abbrev pub Stand : Type 0
  Stand = AreSeated tasks outputs out new.told.state × AreSlotted sent new.told.state.stood.slots

  pub noted : (call : Call) (reply : CallReply) → is_apart call ≡ true → Noted by old new call reply → Stand
  noted call reply h n =
      let q = quiet old.told.state by call reply h in
      (seated-quiet tasks outputs out by old new i.0 call reply n q.running q.numbers q.results, slotted-noted sent by old new i.1 call reply n q.slots)

  pub lacked : new ≡ lacking old → Stand
  lacked e = rw e i

  refused : (call : Call) (e : Error) → is_apart call ≡ true → IsRefused by old new call e → Stand
  refused call e h (inl lack) = lacked lack.1
  refused call e h (inr n) = noted call (Refused e) h n

  pub signaler-stands : (result : Result ℕ OutOfMemory) → IfOk result (λ signal. Noted by old new Signaler (SignalAt signal)) → OnErr result (new ≡ lacking old) → Stand
  signaler-stands (Ok signal) n e = noted Signaler (SignalAt signal) refl n
  signaler-stands (Err lack) n e = lacked e

  pub stop-stands : (value : ℤ) (result : Result ℕ OutOfMemory) → IfOk result (λ completion. Noted by old new (Stop value) (CompletionAt completion)) → OnErr result (new ≡ lacking old) → Stand
  stop-stands value (Ok completion) n e = noted (Stop value) (CompletionAt completion) refl n
  stop-stands value (Err lack) n e = lacked e

  pub stopped-stands : (result : Result StopAnswer OutOfMemory) → IfOk result (λ stopped. Noted by old new Stopped (stopped_reply stopped)) → OnErr result (new ≡ lacking old) → Stand
  stopped-stands (Ok stopped) n e = noted Stopped (stopped_reply stopped) refl n
  stopped-stands (Err lack) n e = lacked e

  pub clone-stands : (signal : ℕ) (result : Result ℕ Error) → IfOk result (λ further. Noted by old new (CloneSignal signal) (SignalAt further)) → IfErr result (λ e. IsRefused by old new (CloneSignal signal) e) → Stand
  clone-stands signal (Ok further) n r = noted (CloneSignal signal) (SignalAt further) refl n
  clone-stands signal (Err e) n r = refused (CloneSignal signal) e refl r

  pub shown-stands : (signal : ℕ) (result : Result (Poll ℤ) Error) → IfOk result (λ shown. Noted by old new (SignalPoll signal) (shown_reply shown)) → IfErr result (λ e. IsRefused by old new (SignalPoll signal) e) → Stand
  shown-stands signal (Ok shown) n r = noted (SignalPoll signal) (shown_reply shown) refl n
  shown-stands signal (Err e) n r = refused (SignalPoll signal) e refl r

  pub met-stands : (completion : ℕ) (result : Result (Poll (Unit {0})) Error) → IfOk result (λ met. Noted by old new (CompletionPoll completion) (met_reply met)) → IfErr result (λ e. IsRefused by old new (CompletionPoll completion) e) → Stand
  met-stands completion (Ok met) n r = noted (CompletionPoll completion) (met_reply met) refl n
  met-stands completion (Err e) n r = refused (CompletionPoll completion) e refl r

  spent : (call : Call) → is_apart call ≡ true → Spent by old new call → Stand
  spent call h s = with (has_place old.told.state.stood call) refl
    where
      with : (b : Bool) → has_place old.told.state.stood call ≡ b → Stand
      with true e = noted call Done h (s.there e)
      with false e = rw (s.gone e) i

  pub signal-stands : (signaler : ℕ) (value : ℤ) → Spent by old new (Signal signaler value) → Stand
  signal-stands signaler value s = spent (Signal signaler value) refl s

  pub close-stands : (signal : ℕ) → Spent by old new (SignalClose signal) → Stand
  close-stands signal s = spent (SignalClose signal) refl s

  pub signaler-close-stands : (signaler : ℕ) → Spent by old new (SignalerClose signaler) → Stand
  signaler-close-stands signaler s = spent (SignalerClose signaler) refl s

  pub completion-close-stands : (completion : ℕ) → Spent by old new (CompletionClose completion) → Stand
  completion-close-stands completion s = spent (CompletionClose completion) refl s

module _ {A O G : Type 0} (old new : World A O G) where
  pub signaler-called : (result : Result ℕ OutOfMemory) → IfOk result (λ signal. Made old new (Plainly Signaler) (SignalAt signal)) → OnErr result (new ≡ world_lacking old) → Called (Plainly Signaler) old new (signaler_told result)
  signaler-called (Ok signal) made lack = called-made old new (Plainly Signaler) (SignalAt signal) (Plain (SignalAt signal)) made (refl, tt) refl
  signaler-called (Err e) made lack = called-lacking old new (Plainly Signaler) (Plain (Refused NoMemory)) lack

  pub stop-called : (value : ℤ) (result : Result ℕ OutOfMemory) → IfOk result (λ completion. Made old new (Plainly (Stop value)) (CompletionAt completion)) → OnErr result (new ≡ world_lacking old) → Called (Plainly (Stop value)) old new (stop_told result)
  stop-called value (Ok completion) made lack = called-made old new (Plainly (Stop value)) (CompletionAt completion) (Plain (CompletionAt completion)) made (refl, tt) refl
  stop-called value (Err e) made lack = called-lacking old new (Plainly (Stop value)) (Plain (Refused NoMemory)) lack

  pub stopped-called : (result : Result StopAnswer OutOfMemory) → IfOk result (λ stopped. Made old new (Plainly Stopped) (stopped_reply stopped)) → OnErr result (new ≡ world_lacking old) → Called (Plainly Stopped) old new (stopped_told result)
  stopped-called (Ok stopped) made lack = called-made old new (Plainly Stopped) (stopped_reply stopped) (Plain (stopped_reply stopped)) made (refl, tt) refl
  stopped-called (Err e) made lack = called-lacking old new (Plainly Stopped) (Plain (Refused NoMemory)) lack

  pub clone-called : (signal : ℕ) (result : Result ℕ Error) → IfOk result (λ further. Made old new (Plainly (CloneSignal signal)) (SignalAt further)) → IfErr result (λ e. WorldRefused old new (Plainly (CloneSignal signal)) e) → Called (Plainly (CloneSignal signal)) old new (clone_told result)
  clone-called signal (Ok further) made r = called-made old new (Plainly (CloneSignal signal)) (SignalAt further) (Plain (SignalAt further)) made (refl, tt) refl
  clone-called signal (Err e) made r = called-refused old new (Plainly (CloneSignal signal)) e (λ reply. (refl, tt)) refl r

  pub shown-called : (signal : ℕ) (result : Result (Poll ℤ) Error) → IfOk result (λ shown. Made old new (Plainly (SignalPoll signal)) (shown_reply shown)) → IfErr result (λ e. WorldRefused old new (Plainly (SignalPoll signal)) e) → Called (Plainly (SignalPoll signal)) old new (shown_told result)
  shown-called signal (Ok shown) made r = called-made old new (Plainly (SignalPoll signal)) (shown_reply shown) (Plain (shown_reply shown)) made (refl, tt) refl
  shown-called signal (Err e) made r = called-refused old new (Plainly (SignalPoll signal)) e (λ reply. (refl, tt)) refl r

  pub met-called : (completion : ℕ) (result : Result (Poll (Unit {0})) Error) → IfOk result (λ met. Made old new (Plainly (CompletionPoll completion)) (met_reply met)) → IfErr result (λ e. WorldRefused old new (Plainly (CompletionPoll completion)) e) → Called (Plainly (CompletionPoll completion)) old new (met_told result)
  met-called completion (Ok met) made r = called-made old new (Plainly (CompletionPoll completion)) (met_reply met) (Plain (met_reply met)) made (refl, tt) refl
  met-called completion (Err e) made r = called-refused old new (Plainly (CompletionPoll completion)) e (λ reply. (refl, tt)) refl r

-- a token that is spent keeps all that a call keeps
module _ {A O G : Type 0} (stream : G → Stream) (held : Held A O) (panic : Option (List ℕ)) (out : Option ℕ) (rng : G) (by : Option ℕ) (old new : Seen) where
  abbrev Keeps : Type 0
  Keeps = Kept stream (record { told = old.told; lacked = old.lacked; held = held; panic = panic; out = out; rng = rng }) (record { told = new.told; lacked = new.lacked; held = held; panic = panic; out = out; rng = rng })

  spent-keeps : (call : Call) → is_apart call ≡ true → drawn_called old.told.state.drawn call Done ≡ old.told.state.drawn → Spent by old new call → Keeps
  spent-keeps call h undrawn s = with (has_place old.told.state.stood call) refl
    where
      with : (b : Bool) → has_place old.told.state.stood call ≡ b → Keeps
      with true e =
          let n = s.there e in
          let q = quiet old.told.state by call Done h in
          record { begin = n.begin; given = n.given; past = n.past; phase = n.phase; clock = n.clock; root = n.root; panic = refl; out = refl; lasts = lasts-of stream _ _ (grows-same old.told.state.phase old.told.state.running new.told.state.running (n.running ∙ q.running)) (stays-same old.lacked new.lacked n.lacked) (drew-same stream _ _ refl (n.drawn ∙ undrawn)) }
      with false e =
          let same = s.gone e in
          record { begin = ap (λ (x : Seen). x.told.begin) same; given = ap (λ (x : Seen). x.told.given) same; past = ap (λ (x : Seen). x.told.past) same; phase = ap (λ (x : Seen). x.told.state.phase) same; clock = ap (λ (x : Seen). x.told.state.clock) same; root = ap (λ (x : Seen). x.told.state.root) same; panic = refl; out = refl; lasts = lasts-of stream _ _ (grows-same old.told.state.phase old.told.state.running new.told.state.running (ap (λ (x : Seen). x.told.state.running) same)) (stays-same old.lacked new.lacked (ap (λ (x : Seen). x.lacked) same)) (drew-same stream _ _ refl (ap (λ (x : Seen). x.told.state.drawn) same)) }

  pub signal-keeps : (signaler : ℕ) (value : ℤ) → Spent by old new (Signal signaler value) → Keeps
  signal-keeps signaler value s = spent-keeps (Signal signaler value) refl refl s

  pub signaler-close-keeps : (signaler : ℕ) → Spent by old new (SignalerClose signaler) → Keeps
  signaler-close-keeps signaler s = spent-keeps (SignalerClose signaler) refl refl s

-- and what is read of them
module _ {A O G V : Type 0} (old new : World A O G) (read : Heard O → V) (value : V) where
  pub signaler-tells : (result : Result ℕ OutOfMemory) → IfOk result (λ signal. Made old new (Plainly Signaler) (SignalAt signal)) → OnErr result (new ≡ world_lacking old) → read (signaler_told result) ≡ value → Goes (tells (Plainly Signaler) read) old new value tt
  signaler-tells (Ok signal) made lack e = tells-made old new read value (Plainly Signaler) (SignalAt signal) (Plain (SignalAt signal)) made (refl, tt) refl e
  signaler-tells (Err error) made lack e = tells-lacking old new read value (Plainly Signaler) lack

  pub stop-tells : (stop : ℤ) (result : Result ℕ OutOfMemory) → IfOk result (λ completion. Made old new (Plainly (Stop stop)) (CompletionAt completion)) → OnErr result (new ≡ world_lacking old) → read (stop_told result) ≡ value → Goes (tells (Plainly (Stop stop)) read) old new value tt
  stop-tells stop (Ok completion) made lack e = tells-made old new read value (Plainly (Stop stop)) (CompletionAt completion) (Plain (CompletionAt completion)) made (refl, tt) refl e
  stop-tells stop (Err error) made lack e = tells-lacking old new read value (Plainly (Stop stop)) lack

  pub stopped-tells : (result : Result StopAnswer OutOfMemory) → IfOk result (λ stopped. Made old new (Plainly Stopped) (stopped_reply stopped)) → OnErr result (new ≡ world_lacking old) → read (stopped_told result) ≡ value → Goes (tells (Plainly Stopped) read) old new value tt
  stopped-tells (Ok stopped) made lack e = tells-made old new read value (Plainly Stopped) (stopped_reply stopped) (Plain (stopped_reply stopped)) made (refl, tt) refl e
  stopped-tells (Err error) made lack e = tells-lacking old new read value (Plainly Stopped) lack

  pub clone-tells : (signal : ℕ) (result : Result ℕ Error) → IfOk result (λ further. Made old new (Plainly (CloneSignal signal)) (SignalAt further)) → IfErr result (λ e. WorldRefused old new (Plainly (CloneSignal signal)) e) → read (clone_told result) ≡ value → Goes (tells (Plainly (CloneSignal signal)) read) old new value tt
  clone-tells signal (Ok further) made r e = tells-made old new read value (Plainly (CloneSignal signal)) (SignalAt further) (Plain (SignalAt further)) made (refl, tt) refl e
  clone-tells signal (Err error) made r e = tells-refused old new read value (Plainly (CloneSignal signal)) error (refl, tt) refl r e

pub ruleset signal_tell_laws = (signaler-tells, stop-tells, stopped-tells, clone-tells, lasts-of, stays-same, stays-marked, grows-same, drew-same, lasts-kept, calling-kept)

pub ruleset signal_laws = (signal-keeps, signaler-close-keeps, signaler-stands, stop-stands, stopped-stands, clone-stands, shown-stands, met-stands, signal-stands, close-stands, signaler-close-stands, completion-close-stands, signaler-called, stop-called, stopped-called, clone-called, shown-called, met-called)
