-- Small roots, and what a run of each writes. The definitions are tried on them.
use Rattle.std.specs.Prelude.{ℕ, pos, ◌+◌, ◌-◌, ◌^◌, List, [], ◌∷◌, ◌++◌, Option, Some, None, false}
use Rattle.rt_base.specs.declared.time.TheConstants.{MAX_TIME}
use Rattle.rt_audit.specs.declared.call.Call.{Call as CallOf}
use Rattle.rt_audit.specs.declared.call.Call.TheVariants.{CloseNode, SleepPoll, Wake as WakeCall}
use Rattle.rt_audit.specs.declared.reply.CallReply.{CallReply}
use Rattle.rt_audit.specs.declared.reply.CallReply.TheVariants.{Done, PendingAt, Ready as IsReady}
use Rattle.rt_audit.specs.declared.answer.AnswerKind.TheVariants.{Pending as AnswersPending, Ready as AnswersReady, NoMemory as LacksMemory, Ended}
use Rattle.rt_audit.specs.declared.finish.FinishCause.{FinishCause}
use Rattle.rt_audit.specs.declared.finish.FinishCause.TheVariants.{Completed, Timeout, Stalled, TimeOverflow, TooManyTasks, NoMemory}
use Rattle.rt_audit.specs.declared.entry.Entry.{Entry}
use Rattle.rt_audit.specs.declared.entry.Entry.TheVariants.{Start, Call, Event, Wake, Draw, Root, Round, Visit, Answer as Answered, NodeEnd, Advance, Skip, Fire, Cleanup, Crash, Finish}
use Rattle.rt_model.specs.declared.answer.Answer.{Answer}
use Rattle.rt_model.specs.declared.answer.Answer.TheVariants.{Pending, Ready}
use Rattle.rt_model.specs.declared.begin.Begin.{Begin}
use Rattle.rt_model.specs.Events.{process_task, task_fields}
use Rattle.rt_model.specs.Turns.{Plainly, Sleeping, Heard, Plain}
use Rattle.rt_model.specs.Walk.{Step, Does, Spends, Counts, Gives, Last}
use Rattle.rt_model.specs.Tied.{Steps, Value, with_first, nothing}

-- from time 0 and number 0, by cycles of a millisecond, without a deadline
abbrev pub small_begin : Begin
small_begin = record { start = 0; cycle = 1000000; deadline = None; first = 0; catch = false }

-- the same with this cycle, this deadline, and task numbers from this one on
abbrev pub begin_by : ℕ → Option ℕ → ℕ → Begin
begin_by cycle deadline first = record { start = 0; cycle = cycle; deadline = deadline; first = first; catch = false }

-- an end that closes the root's node
abbrev pub closes_node : {A O : Type 0} → Last A O
closes_node = Spends (Plainly (CloseNode 0)) (Gives tt tt)

-- a root that is ready with this number at its first poll
abbrev pub ready_root : ℕ → Steps (Unit {0}) ℕ
ready_root number =
    with_first (record { next = λ state now task. Gives (Ready number) state; last = λ state now task. closes_node }) (λ now. Gives tt tt)

-- a root that counts one more of a metric, and then is ready
abbrev pub counting : ℕ → Step (Unit {0}) (Unit {0}) ℕ (Answer ℕ)
counting number = Counts (record { metric = 0; by = pos 1 }) (Gives (Ready number) tt)

abbrev pub counting_root : ℕ → Steps (Unit {0}) ℕ
counting_root number =
    with_first (record { next = λ state now task. counting number; last = λ state now task. closes_node }) (λ now. Gives tt tt)

-- a root that is never ready
abbrev pub pending_root : Steps (Unit {0}) ℕ
pending_root = with_first (record { next = λ state now task. Gives Pending state; last = λ state now task. closes_node }) (λ now. Gives tt tt)

-- until when a root sleeps, and the number of its alarm, once it was told one
pub record Sleeper : Type 0 where
  pub due : ℕ
  pub alarm : Option ℕ

-- it remembers its alarm, or the sleep is over
abbrev pub sleeper_heard : Sleeper → Heard ℕ → Step Sleeper Sleeper ℕ (Answer ℕ)
sleeper_heard sleeper (Plain (PendingAt alarm)) = Gives Pending (record sleeper { alarm = Some alarm })
sleeper_heard sleeper _ = Gives (Ready 0) sleeper

-- a root that sleeps for so long, and gives 0 then
abbrev pub sleeping_root : ℕ → Steps Sleeper ℕ
sleeping_root nanos =
    with_first
    (record {
      next = λ sleeper now task. Does (Sleeping sleeper.due sleeper.alarm) (sleeper_heard sleeper);
      last = λ sleeper now task. closes_node;
    })
    (λ now. Gives tt (record { due = now + nanos; alarm = None }))

-- a root that polls two sleeps, waits, and wakes itself in its end
abbrev pub busy_root : Steps (Unit {0}) ℕ
busy_root =
    with_first
    (record {
      next = λ state now task. Does (Sleeping 5 None) (λ first. Does (Sleeping 7 None) (λ second. Gives Pending state));
      last = λ state now task. Does (Plainly (WakeCall 0)) (λ heard. closes_node);
    })
    (λ now. Gives tt tt)

-- a root whose maker polls a sleep first
abbrev pub asking_maker : Steps (Unit {0}) ℕ
asking_maker =
    with_first
    (record { next = λ state now task. Gives (Ready 0) state; last = λ state now task. closes_node })
    (λ now. Does (Sleeping 5 None) (λ heard. Gives tt tt))

-- the values behind a run that gave this output
abbrev pub gave : {A : Type 0} → ℕ → Value A ℕ
gave number = record nothing { output = Some number }

-- what their runs write, in parts

-- up to the first round
abbrev pub opening : List Entry
opening = Start 0 0 None 1000000 ∷ Root 0 ∷ Round (0 ∷ []) ∷ []

-- a visit of the root begins
abbrev pub visiting_root : List Entry
visiting_root = Visit 0 ∷ Event process_task (task_fields 0 []) ∷ []

-- it polls its sleep
abbrev pub still_asleep : ℕ → List Entry
still_asleep due = Call (Some 0) (SleepPoll due) (PendingAt 0) ∷ Answered 0 AnswersPending ∷ []

abbrev pub awake : ℕ → List Entry
awake due = Call (Some 0) (SleepPoll due) IsReady ∷ Answered 0 AnswersReady ∷ []

-- its alarm goes off, and the next round begins
abbrev pub alarm_fires : List Entry
alarm_fires = Fire 0 ∷ Wake 0 ∷ Round (0 ∷ []) ∷ []

-- its end, up to the crash
abbrev pub root_ends : List Entry
root_ends = Cleanup ∷ NodeEnd 0 ∷ Call (Some 0) (CloseNode 0) Done ∷ Answered 0 Ended ∷ []

abbrev pub finishing : FinishCause → List Entry
finishing cause = Crash [] ∷ Finish cause ∷ []

-- what the run of a root writes that is ready at once
abbrev pub ready_journal : List Entry
ready_journal = opening ++ visiting_root ++ (Answered 0 AnswersReady ∷ []) ++ root_ends ++ finishing Completed

-- of one that sleeps until a moment that the clock skips to
abbrev pub skipped_journal : ℕ → List Entry
skipped_journal due =
    opening ++ visiting_root ++ still_asleep due ++ (Advance 1000000 ∷ Skip due ∷ []) ++ alarm_fires ++ visiting_root ++ awake due ++ root_ends ++ finishing Completed

-- and of one that sleeps for less than a cycle
abbrev pub short_journal : ℕ → List Entry
short_journal due =
    opening ++ visiting_root ++ still_asleep due ++ (Advance 1000000 ∷ []) ++ alarm_fires ++ visiting_root ++ awake due ++ root_ends ++ finishing Completed

-- a poll of the root that lacked memory, and the run that was cut off there
abbrev pub cut_journal : List Entry
cut_journal = opening ++ visiting_root ++ (Answered 0 LacksMemory ∷ []) ++ root_ends ++ finishing NoMemory

-- a poll of the busy root that lacked memory at its second sleep, and an end that lacked it at once. What comes between the lack
-- and the answer is free
abbrev pub lacking_journal : CallOf → CallReply → List Entry
lacking_journal call reply =
    opening ++ visiting_root ++ (Call (Some 0) (SleepPoll 5) (PendingAt 0) ∷ Call (Some 0) call reply ∷ Answered 0 LacksMemory ∷ []) ++ (Cleanup ∷ NodeEnd 0 ∷ Answered 0 Ended ∷ []) ++ finishing NoMemory

-- a maker that lacked memory at once, and made no root
abbrev pub maker_lacks : List Entry
maker_lacks = Start 0 0 None 1000000 ∷ Cleanup ∷ NodeEnd 0 ∷ finishing NoMemory

-- a maker that makes this call, lacks memory and makes no root
abbrev pub called_by_maker : CallOf → CallReply → List Entry
called_by_maker call reply = Start 0 0 None 1000000 ∷ Call None call reply ∷ Cleanup ∷ NodeEnd 0 ∷ finishing NoMemory

-- what the run of a root writes that is never ready, by the cause for which it ends

-- no alarm is set
abbrev pub stalled_journal : List Entry
stalled_journal = opening ++ visiting_root ++ (Answered 0 AnswersPending ∷ Advance 1000000 ∷ []) ++ root_ends ++ finishing Stalled

-- its deadline is at the end of the first cycle, or at once
abbrev pub late_journal : List Entry
late_journal =
    (Start 0 0 (Some 1000000) 1000000 ∷ Root 0 ∷ Round (0 ∷ []) ∷ []) ++ visiting_root ++ (Answered 0 AnswersPending ∷ Advance 1000000 ∷ []) ++ root_ends ++ finishing Timeout

abbrev pub at_once_late_journal : List Entry
at_once_late_journal = (Start 0 0 (Some 0) 1000000 ∷ Root 0 ∷ []) ++ root_ends ++ finishing Timeout

-- its cycle passes the last moment
abbrev pub overflow_journal : List Entry
overflow_journal =
    (Start 0 0 None (MAX_TIME + 1) ∷ Root 0 ∷ Round (0 ∷ []) ∷ []) ++ visiting_root ++ (Answered 0 AnswersPending ∷ []) ++ root_ends ++ finishing TimeOverflow

-- there is no number for it, and nobody makes the calls of its end
abbrev pub no_number_journal : List Entry
no_number_journal = (Start (2 ^ 64 - 1) 0 None 1000000 ∷ Cleanup ∷ NodeEnd 0 ∷ Call None (CloseNode 0) Done ∷ []) ++ finishing TooManyTasks

-- near misses: no run writes these

-- the node of the root stays open
abbrev pub open_node : List Entry
open_node = opening ++ visiting_root ++ (Answered 0 AnswersReady ∷ Cleanup ∷ NodeEnd 0 ∷ Answered 0 Ended ∷ []) ++ finishing Completed

-- the first round has this order
abbrev pub ordered : List ℕ → List Entry
ordered order = (Start 0 0 None 1000000 ∷ Root 0 ∷ Round order ∷ []) ++ visiting_root ++ (Answered 0 AnswersReady ∷ []) ++ root_ends ++ finishing Completed

-- it finishes for this cause
abbrev pub finished_for : FinishCause → List Entry
finished_for cause = opening ++ visiting_root ++ (Answered 0 AnswersReady ∷ []) ++ root_ends ++ finishing cause

-- this was drawn for the first round
abbrev pub drawn : ℕ → List Entry
drawn value = (Start 0 0 None 1000000 ∷ Root 0 ∷ Draw value ∷ Round (0 ∷ []) ∷ []) ++ visiting_root ++ (Answered 0 AnswersReady ∷ []) ++ root_ends ++ finishing Completed

-- the root makes this call before it is ready
abbrev pub called : CallOf → CallReply → List Entry
called call reply = opening ++ visiting_root ++ (Call (Some 0) call reply ∷ Answered 0 AnswersReady ∷ []) ++ root_ends ++ finishing Completed

-- an alarm goes off, these wakes follow, and the run is cut off
abbrev pub fires_with : ℕ → List Entry → List Entry
fires_with due wakes =
    opening ++ visiting_root ++ still_asleep due ++ (Advance 1000000 ∷ Skip due ∷ Fire 0 ∷ []) ++ wakes ++ (Cleanup ∷ [])

-- it goes off behind the first cycle, whenever it is due
abbrev pub early_fire : ℕ → List Entry
early_fire due = opening ++ visiting_root ++ still_asleep due ++ (Advance 1000000 ∷ Fire 0 ∷ [])

-- the sleep is over at its first poll, whenever it is due
abbrev pub early_sleep : ℕ → List Entry
early_sleep due = opening ++ visiting_root ++ awake due ++ root_ends ++ finishing Completed

-- the root was ready, and its end makes no call
abbrev pub silent_end : List Entry
silent_end = opening ++ visiting_root ++ (Answered 0 AnswersReady ∷ Cleanup ∷ NodeEnd 0 ∷ Answered 0 Ended ∷ []) ++ finishing NoMemory

-- a call that no step of the root names, in a poll that lacked memory
abbrev pub invented_in_poll : CallOf → CallReply → List Entry
invented_in_poll call reply = opening ++ visiting_root ++ (Call (Some 0) call reply ∷ Answered 0 LacksMemory ∷ []) ++ root_ends ++ finishing NoMemory

-- and in an end
abbrev pub invented_in_end : List Entry
invented_in_end =
    opening ++ visiting_root ++ (Answered 0 AnswersReady ∷ []) ++ (Cleanup ∷ NodeEnd 0 ∷ Call (Some 0) (WakeCall 0) Done ∷ Answered 0 Ended ∷ []) ++ finishing NoMemory
