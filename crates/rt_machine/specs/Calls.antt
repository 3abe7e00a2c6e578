-- What a call leaves of what a machine shows.
use Rattle.std.specs.Prelude.{◌≡◌, ◌⊎◌, ℕ, [], ◌∷◌, ◌++◌, true, false, List, Bool, Option, Some, None, leb, if◌then◌else◌}
use Rattle.rt_base.specs.declared.error.Error.{Error}
use Rattle.rt_base.specs.declared.error.Error.TheVariants.{NoMemory}
use Rattle.rt_audit.specs.declared.call.Call.{Call}
use Rattle.rt_audit.specs.declared.call.Call.TheVariants.{Slots}
use Rattle.rt_audit.specs.declared.slot_call.SlotCall.TheVariants.{Poll}
use Rattle.rt_audit.specs.declared.reply.CallReply.{CallReply}
use Rattle.rt_audit.specs.declared.reply.CallReply.TheVariants.{Done, TaskAt, Closed, Pending, PendingAt, Ready, Refused}
use Rattle.rt_super.specs.Alarms.{AlarmList}
use Rattle.rt_model.specs.State.{State, Turn}
use Rattle.rt_model.specs.Alarms.{alarm_of}
use Rattle.rt_model.specs.Lists.{or_else}
use Rattle.rt_model.specs.Rules.{Answers}
use Rattle.rt_model.specs.Turns.{has_place}
use Rattle.rt_model.specs.Effects.{stood_called, running_called, numbers_called, drawn_called}
use Rattle.rt_machine.specs.Places.{Seen}

-- a call with its reply, who made it, and what was there when it was made
abbrev pub turn_in : State → Option ℕ → Call → CallReply → Turn
turn_in s by call reply = record { by = by; call = call; reply = reply; stood = s.stood }

-- the call was noted with this reply, which it may have, and nothing that decides what comes next has changed
pub record Noted (by : Option ℕ) (old new : Seen) (call : Call) (reply : CallReply) : Type 0 where
  pub answers : Answers old.told.state call reply
  pub turns : new.told.state.turns ≡ old.told.state.turns ++ turn_in old.told.state by call reply ∷ []
  pub begin : new.told.begin ≡ old.told.begin
  pub given : new.told.given ≡ old.told.given
  pub past : new.told.past ≡ old.told.past
  pub phase : new.told.state.phase ≡ old.told.state.phase
  pub clock : new.told.state.clock ≡ old.told.state.clock
  pub root : new.told.state.root ≡ old.told.state.root
  pub numbers : new.told.state.numbers ≡ numbers_called old.told.state.numbers call reply
  pub running : new.told.state.running ≡ running_called old.told.state.running call reply
  pub stood : new.told.state.stood ≡ stood_called old.told.state.stood by call reply
  pub drawn : new.told.state.drawn ≡ drawn_called old.told.state.drawn call reply
  pub lacked : new.lacked ≡ old.lacked

-- the first call that ran out of memory came after these turns
abbrev pub marked : Option (List Turn) → List Turn → Option (List Turn)
marked lacked turns = or_else lacked (Some turns)

-- the call ran out of memory
abbrev pub lacking : Seen → Seen
lacking s = record { told = s.told; lacked = marked s.lacked s.told.state.turns }

-- the call was refused: it ran out of memory, or it was noted with this error
abbrev pub IsRefused : Option ℕ → Seen → Seen → Call → Error → Type 0
IsRefused by old new call error = ((error ≡ NoMemory) × (new ≡ lacking old)) ⊎ Noted by old new call (Refused error)

-- a poll of a slot was refused with the error that was sent, or it ran out of memory
abbrev pub Shown : Option ℕ → Seen → Seen → ℕ → Error → Error → Type 0
Shown by old new slot sent answer =
    ((answer ≡ NoMemory) × (new ≡ lacking old)) ⊎ ((answer ≡ sent) × Noted by old new (Slots (Poll slot)) (Refused sent))

-- the call spends a token: where that isn't there it does nothing
pub record Spent (by : Option ℕ) (old new : Seen) (call : Call) : Type 0 where
  pub there : has_place old.told.state.stood call ≡ true → Noted by old new call Done
  pub gone : has_place old.told.state.stood call ≡ false → new ≡ old

-- the reply to a poll of a sleep
abbrev pub sleep_reply : Option ℕ → CallReply
sleep_reply None = Ready
sleep_reply (Some alarm) = PendingAt alarm

-- the number that a sleep receives: none where it is over
abbrev pub slept_number : ℕ → AlarmList → ℕ → Option ℕ → Option ℕ
slept_number time alarms due alarm = if leb due time then None else Some (alarm_of alarms due alarm)

-- the reply to a spawn: the task and the node of its own context, or that the node had ended
abbrev pub spawn_reply : Option (ℕ × ℕ) → CallReply
spawn_reply None = Closed
spawn_reply (Some at) = TaskAt at.0 at.1

-- the reply to a poll of a result: whether it is there
abbrev pub join_reply : Bool → CallReply
join_reply true = Ready
join_reply false = Pending
