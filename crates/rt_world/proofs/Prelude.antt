-- What the proofs of this crate cite of others and of the definitions, under one name.
pub use Rattle.std.proofs.Common.{Bool, Err, IfErr, IfOk, List, None, Ok, OnErr, OnOk, Option, Result, Some, [], add-one, ap, append_assoc, arith, drop, drop-cons, eq-eqb, eqb, false, get_or, if◌then◌else◌, inl, inr, is_some, leb, length, map, not, option_map, refl, set, suc, sym, true, unwrap_or, zero, ℕ, ℤ, ◌&&◌, ◌++◌, ◌+◌, ◌-◌, ◌<◌, ◌^◌, ◌||◌, ◌∙◌, ◌∷◌, ◌≡◌, ◌≢◌, ◌≤◌, ◌⊎◌}
pub use Rattle.std.proofs.lemmas.Bool.{false≢true}
pub use Rattle.std.proofs.lemmas.Grind.{common_steps}
pub use Rattle.std.proofs.lemmas.List.{append-nil, length-append}
pub use Rattle.std.specs.Global.{Global}
pub use Rattle.std.specs.Option.{option_eq}
pub use Rattle.std.specs.Prelude.{Vec, slice_get}
pub use Rattle.rand_core.specs.Stream.{Stream, fill_bytes, next_u32, next_u64}
pub use Rattle.rt_audit.specs.declared.answer.AnswerKind.{AnswerKind}
pub use Rattle.rt_audit.specs.declared.answer.AnswerKind.TheVariants.{Ended, Ended as IsEnded, NoMemory as LacksMemory, Panicked, Panicked as IsPanicked, Pending as IsPending, Ready as IsReady, Stopped as IsStopped}
pub use Rattle.rt_audit.specs.declared.call.Call.{Call}
pub use Rattle.rt_audit.specs.declared.call.Call.TheVariants.{Abort, AbortTask, Auditor, Child, CloneSignal, CloseNode, CompletionClose, CompletionPoll, FillBytes, GiveUp, Join, NextU32, NextU64, Signal, SignalClose, SignalPoll, Signaler, SignalerClose, SleepPoll, Slots, Spawn, Stop, Stopped, Wake}
pub use Rattle.rt_audit.specs.declared.entry.Entry.{Entry}
pub use Rattle.rt_audit.specs.declared.entry.Entry.TheVariants.{Advance, Answer, Answer as AnswerEntry, Cleanup, Crash, Draw, Event, Finish, Fire, NodeEnd, Root, Round, Skip, Start, Visit}
pub use Rattle.rt_audit.specs.declared.finish.FinishCause.{FinishCause}
pub use Rattle.rt_audit.specs.declared.finish.FinishCause.TheVariants.{Completed, Stalled, TaskPanicked, TimeOverflow, Timeout}
pub use Rattle.rt_audit.specs.declared.reply.CallReply.{CallReply}
pub use Rattle.rt_audit.specs.declared.reply.CallReply.TheVariants.{Bytes, CompletionAt, Done, NodeAt, Number, Pending, PendingAt, Ready, Refused, SignalAt, SlotAt, TaskAt}
pub use Rattle.rt_audit.specs.declared.slot_call.SlotCall.TheVariants.{AbortWait, Close as SlotClose, GiveUp as SlotGiveUp, Make as Slot, Poll as SlotPoll, Send as SlotSend}
pub use Rattle.rt_base.specs.declared.error.Error.{Error}
pub use Rattle.rt_base.specs.declared.error.Error.TheVariants.{Aborted, NoMemory, NoMemory as OutOf, TooManyTasks, UnknownToken}
pub use Rattle.rt_base.specs.declared.execution.Execution.{Execution}
pub use Rattle.rt_base.specs.declared.no_memory.NoMemory.{NoMemory as OutOfMemory}
pub use Rattle.rt_base.specs.declared.poll.Poll.{Poll}
pub use Rattle.rt_base.specs.declared.time.TheConstants.{MAX_TIME}
pub use Rattle.rt_machine.proofs.Counts.{ends-none, ends-runs}
pub use Rattle.rt_machine.proofs.Ended.{closing-ended}
pub use Rattle.rt_machine.proofs.Replays.{cleaned}
pub use Rattle.rt_machine.proofs.Shuffled.{gave-gave}
pub use Rattle.rt_machine.proofs.Turning.{all-begin, all-given}
pub use Rattle.rt_machine.specs.Calls.{IsRefused, Noted, Shown, Spent, lacking, marked, sleep_reply, slept_number, spawn_reply, turn_in}
pub use Rattle.rt_machine.specs.Draws.{Drains, Draws, Gave}
pub use Rattle.rt_machine.specs.Ends.{AreCalm, Calmly, Visited, cleanup_by, cleanup_entries, is_calm, open_in}
pub use Rattle.rt_machine.specs.Places.{Seen, number_of, open_places}
pub use Rattle.rt_machine.specs.Steps.{StandsFor, StepStands, Turns}
pub use Rattle.rt_machine.specs.Told.{AreCalls, AreQuiet, Quietly, Told, fresh, is_quiet, own, pushed, pushed_all}
pub use Rattle.rt_model.proofs.Append.{IsTied-append, after_all-append}
pub use Rattle.rt_model.proofs.Walks.{IsSpending, frees-append, frees-counted, frees-moved, frees-spent, fronts-then, stops-first, stops-then, walks-then}
pub use Rattle.rt_model.specs.Alarms.{alarm_of}
pub use Rattle.rt_model.specs.Causes.{cause_at, ends_next, from_running, reached, turning_cause, where_true}
pub use Rattle.rt_model.specs.Draws.{Drawn, Filled, Long, Short}
pub use Rattle.rt_model.specs.Effects.{after_all, answered, cause_of, cleans, drawn_called, ended, ends_in_panic, entered, entered_by, finished, is_closing, is_panic, is_settled, leaves, left_of, left_pending, node_ended, numbers_called, results_answered, results_called, results_left, running_answered, running_called, slots_called}
unfoldable pub use Rattle.rt_model.specs.Effects.{after}
pub use Rattle.rt_model.specs.Events.{process_task}
pub use Rattle.rt_model.specs.Lists.{find, has_number, is_some_number, replaced, with_number, without, without_number}
pub use Rattle.rt_model.specs.Results.{may_abort, new_result, with_abort, with_outcome}
pub use Rattle.rt_model.specs.Rules.{Answers, CallsAt, IsLawful, JoinAnswers, May, MayAnswer, MayCall, MayClose, MayCrash, MayFinish, OutcomeAnswers, ReceiveAnswers, SlotAnswers, SpawnAnswers, Unless, is_free}
pub use Rattle.rt_model.specs.Signals.{met_reply, shown_reply, stopped_reply}
pub use Rattle.rt_model.specs.Slots.{Slotted, aborted, is_open, is_sent, is_there, no_slots, settled, with_polled, with_sent, with_slot, with_wait_aborted, without_slot}
pub use Rattle.rt_model.specs.State.{Between, Blank, Cleaning, Clock, Closing, Crashed, Ending, Entered, Finished, Halted, Leaving, Making, Over, Phase, Polling, State, Stood, Turn, Turning, Visiting}
unfoldable pub use Rattle.rt_model.specs.State.{begun}
pub use Rattle.rt_model.specs.Tied.{EndsState, First, IsTied, MakerBreaks, Moves, MovesAnswer, MovesCleanup, MovesCrash, Polls, Steps, Value, given, kept_text, no_number, nothing, taken, with_first}
pub use Rattle.rt_model.specs.Turns.{Ask, Asks, Change, Frees, FreesOne, Handed, Heard, Held, IsAnswerOf, IsCounted, IsOwn, Plain, Plainly, Sleeping, Spawning, call_of, counted, has_place, heard_of, moved, moved_by, put, unsent, with_task}
pub use Rattle.rt_model.specs.Walk.{Breaks, Counts, Does, Fronts, Gives, Lacks, Last, Spends, Step, Stops, Walks, stood_before, then}
unfoldable pub use Rattle.rt_model.specs.Walk.{followed_by}
pub use Rattle.rt_model.specs.declared.begin.Begin.{Begin}
pub use Rattle.rt_model.specs.declared.result.Outcome.{Outcome}
pub use Rattle.rt_model.specs.declared.result.Outcome.TheVariants.{Closed, Closed as IsClosed, Exited, Open, There}
pub use Rattle.rt_model.specs.declared.result.TaskResult.{TaskResult}
pub use Rattle.rt_super.specs.Alarms.{Alarm, AlarmList}
pub use Rattle.rt_super.specs.Ancestry.{is_ended}
pub use Rattle.rt_super.specs.declared.stopper.Stopped.{Stopped as StopAnswer}
pub use Rattle.rt_world.specs.Calls.{IsRefused as WorldRefused, IsUnreceived, IsUnsent, Joined, Kept, Made, Received, SpentBy, lacking as world_lacking}
unfoldable pub use Rattle.rt_world.specs.Calls.{Grows, Lasts, Stays}
pub use Rattle.rt_world.specs.Ends.{Ends, IsClosing, Seals}
pub use Rattle.rt_world.specs.Follows.{Agrees, AgreesWith, Follows, IsMade, MakingAgrees, still, unmade_of, value_of}
pub use Rattle.rt_world.specs.Receiving.{heard_result, polled}
unfoldable pub use Rattle.rt_world.specs.Receiving.{receiver_polls, receiver_spends}
pub use Rattle.rt_world.specs.Rounds.{Runs, StandsBetween}
pub use Rattle.rt_world.specs.Seats.{ArePassed, AreRising, AreSeated, AreSlotted, OutRuns, Roomed, numbers_of, seated, seats_from, with_top}
unfoldable pub use Rattle.rt_world.specs.Seats.{AreFull, AreOpen, AreSent, AreThere, AreWaited, IsComing, held_in}
pub use Rattle.rt_world.specs.Visits.{GoesOn, Passes}
pub use Rattle.rt_world.specs.Walked.{Broke, Called, Closes, Counted, EndsWith, Goes, Leads, Spends as MaySpend, Turned, answered_by, auditor_told, child_told, clone_told, filled_told, join_told, met_told, number_told, root_by, shown_told, signaler_told, sleep_told, slot_told, spawn_told, stop_told, stopped_told, wake_told}
unfoldable pub use Rattle.rt_world.specs.Walked.{Polled, Rooted, Walked, tells}
pub use Rattle.rt_world.specs.World.{World}
unfoldable pub use Rattle.rt_world.specs.World.{Drew, IsFront, Writes}
