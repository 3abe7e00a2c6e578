-- The groups of signals and the shutdown, as a walker keeps them.
use Rattle.std.specs.Prelude.{ℕ, Bool, false, List, [], ◌∷◌, Option}
use Rattle.rt_audit.specs.declared.call.Call.{Call}
use Rattle.rt_audit.specs.declared.call.Call.TheVariants.{Abort, AbortTask, Wake as WakeCall, Signal, SignalClose, SignalerClose, Stop, Slots}
use Rattle.rt_audit.specs.declared.reply.CallReply.{CallReply}
use Rattle.rt_audit.specs.declared.reply.CallReply.TheVariants.{Done, CompletionAt}
use Rattle.rt_super.specs.Signals.{SignalRecord, StopRecord, woken_by_value, woken_by_last, woken_by_closing, woken_by_stop}
use Rattle.rt_model.specs.Signals.{shutdown_alone, no_stop}
use Rattle.rt_model.specs.Effects.{signals_called, stop_called}
use Rattle.rt_model.specs.Marks.{due_of}
use Rattle.rt_model.specs.Slots.{Slotted, slots_wake}
use Rattle.rt_model.specs.declared.mark.Mark.{Mark}

pub record Signaled : Type 0 where
  pub signals : SignalRecord
  pub stop : StopRecord

abbrev pub nobody_signaled : Signaled
nobody_signaled = record { signals = shutdown_alone; stop = no_stop }

abbrev pub signaled_called : Signaled → Option ℕ → Call → CallReply → Signaled
signaled_called s by call reply = record { signals = signals_called s.signals s.stop by call reply; stop = stop_called s.stop call reply }

-- whom the call wakes by them
abbrev pub woken_by : Signaled → Call → CallReply → List ℕ
woken_by s (Signal signaler value) Done = woken_by_value s.signals signaler
woken_by s (SignalClose signal) Done = woken_by_last s.signals signal
woken_by s (SignalerClose signaler) Done = woken_by_closing s.signals signaler
woken_by s (Stop value) (CompletionAt number) = woken_by_stop s.signals s.stop value
woken_by s _ _ = []

-- and whom by what else there is
abbrev pub due_beside : Bool → List (ℕ × Mark) → Slotted → Call → CallReply → List ℕ
due_beside false ms ss (WakeCall task) Done = task ∷ []
due_beside false ms ss (Abort task) Done = due_of task ms
due_beside false ms ss (AbortTask task) Done = due_of task ms
due_beside false ms ss (Slots call) reply = slots_wake ss call reply
due_beside _ ms ss _ _ = []
