-- Signals and the shutdown of a run, over the record of the groups of signals.
use Rattle.std.specs.Prelude.{◌≡◌, ℕ, ℤ, List, [], ◌∷◌, ◌==◌, ◌&&◌, Bool, not, None, Result, Ok, Err}
use Rattle.rt_base.specs.declared.poll.Poll.{Poll}
use Rattle.rt_base.specs.declared.poll.Poll.TheVariants.{Ready, Pending}
use Rattle.rt_base.specs.declared.error.Error.{Error}
use Rattle.rt_audit.specs.declared.reply.CallReply.{CallReply}
use Rattle.rt_audit.specs.declared.reply.CallReply.TheVariants.{Done, SignalAt, Value, ClosedWith, Pending as StillPending}
use Rattle.rt_super.specs.Signals.{SignalRecord, StopRecord, new_group, is_alive}
use Rattle.rt_super.specs.declared.stopper.Stopped.{Stopped}
use Rattle.rt_super.specs.declared.stopper.Stopped.TheVariants.{Waiting, Resolved}

-- before the first call: the group of the shutdown alone. It has no signals and completions but those that `stopped` and `stop` hand out
abbrev pub shutdown_alone : SignalRecord
shutdown_alone = record { groups = (0, new_group) ∷ []; signals = []; completions = []; count = 1 }

-- nobody stopped the run
abbrev pub no_stop : StopRecord
no_stop = record { group = 0; value = None }

-- a signaler has this number that gave no value and wasn't given up. The shutdown's group has none
abbrev pub has_signaler : SignalRecord → StopRecord → ℕ → Bool
has_signaler r s group = not (group == s.group) && is_alive r group

-- the reply to a poll of a signal
abbrev pub shown_reply : Poll ℤ → CallReply
shown_reply (Ready value) = Value value
shown_reply Pending = StillPending

-- and of a completion
abbrev pub met_reply : Poll Unit → CallReply
met_reply (Ready u) = Done
met_reply Pending = StillPending

-- a signal of the shutdown, or the value of the stop that came before
abbrev pub stopped_reply : Stopped → CallReply
stopped_reply (Waiting signal) = SignalAt signal
stopped_reply (Resolved value) = ClosedWith value
