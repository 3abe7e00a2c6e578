-- What the proofs of this crate cite of others and of the definitions, under one name.
pub use Rattle.std.proofs.Common.{All, Bool, Contains, Err, List, None, Ok, Option, Result, Some, [], ap, append_assoc, arith, codes, drop, eq-eqb, eq-zero-or-pos, eqb, false, filter, filter_map, get_or, if◌then◌else◌, inl, inr, is_some, leb, length, length-append, ltb, map, negsuc, not, option_and_then, option_map, pos, refl, rules, slice_index, subst, suc, sym, take, true, zero, ℕ, ℤ, ◌%◌, ◌&&◌, ◌++◌, ◌+◌, ◌-◌, ◌<◌, ◌==◌, ◌^◌, ◌||◌, ◌↔◌, ◌∙◌, ◌∷◌, ◌≡◌, ◌≢◌, ◌≤◌, ◌⊎◌}
pub use Rattle.std.proofs.lemmas.Bool.{cases_Bool, eqb-true, false≢true, leb-true, ltb-true}
pub use Rattle.std.proofs.lemmas.List.{append-nil, append_cancel_left, length-replicate, map-append}
pub use Rattle.std.proofs.lemmas.List.Elements.{All-from_recursion, All-weaker, Contains-append_right, recursion_from_All}
pub use Rattle.std.proofs.lemmas.List.Sorted.{Contains-permutation, IsPermutation-refl, IsPermutation-sym, length_permutation}
pub use Rattle.std.specs.Int.{cast_signed, from_be_bytes, w32}
pub use Rattle.std.specs.List.{AllByRecursion, list_any}
pub use Rattle.std.specs.List.Sorted.{IsPermutation}
pub use Rattle.std.specs.Option.{IsSome, option_map_or, option_or, option_zip}
pub use Rattle.std.specs.Prelude.{find as find_by}
pub use Rattle.rand_core.specs.Stream.{Stream, bytes_call, u32_call, u64_call}
unfoldable pub use Rattle.rand_core.specs.Stream.{fill_bytes, next_u32, next_u64}
unfoldable pub use Rattle.rt_audit.specs.Crc32c.{bit_step, bit_steps}
pub use Rattle.rt_audit.specs.Digest.{first_digest}
unfoldable pub use Rattle.rt_audit.specs.Digest.{fields_digest}
unfoldable pub use Rattle.rt_audit.specs.Framing.{framed_field}
pub use Rattle.rt_audit.specs.Journal.{digest_after, digest_from, last_time, last_time_from, time_after}
pub use Rattle.rt_audit.specs.declared.answer.AnswerKind.{AnswerKind}
pub use Rattle.rt_audit.specs.declared.answer.AnswerKind.TheVariants.{Ended, Ended as IsEnded, NoMemory, NoMemory as LacksMemory, Panicked, Panicked as IsPanicked, Pending, Pending as AnswersPending, Pending as IsPending, Ready, Ready as AnswersReady, Stopped, Stopped as IsStopped}
pub use Rattle.rt_audit.specs.declared.call.Call.{Call, Call as CallOf}
pub use Rattle.rt_audit.specs.declared.call.Call.TheVariants.{Abort, AbortTask, Auditor, Child, CloneSignal, CloseNode, CompletionClose, CompletionPoll, FillBytes, GiveUp, Join, NextU32, NextU64, Signal, SignalClose, SignalPoll, Signaler, SignalerClose, SleepPoll, Slots, Spawn, Stop, Stopped as StoppedCall, Wake as WakeCall}
pub use Rattle.rt_audit.specs.declared.entry.Entry.{Entry}
pub use Rattle.rt_audit.specs.declared.entry.Entry.TheVariants.{Advance, Answer, Answer as AnswerEntry, Answer as Answered, Call as CallEntry, Cleanup, Crash, Draw, Event, Finish, Fire, NodeEnd, Root, Round, Skip, Start, Visit, Wake}
pub use Rattle.rt_audit.specs.declared.finish.FinishCause.{FinishCause}
pub use Rattle.rt_audit.specs.declared.finish.FinishCause.TheVariants.{Completed, NoMemory as OutOfMemory, Stalled, TaskPanicked, TimeOverflow, Timeout}
pub use Rattle.rt_audit.specs.declared.reply.CallReply.{CallReply}
pub use Rattle.rt_audit.specs.declared.reply.CallReply.TheVariants.{Bytes, Closed, ClosedWith, CompletionAt, Done, NodeAt, Number, Pending as StillPending, PendingAt, Ready as IsOver, Ready as IsReady, Refused, SignalAt, SlotAt, TaskAt}
pub use Rattle.rt_audit.specs.declared.slot_call.SlotCall.TheVariants.{AbortWait, Close as SlotClose, GiveUp as SlotGiveUp, Make as Slot, Poll as SlotPoll, Send as SlotSend}
pub use Rattle.rt_base.specs.declared.error.Error.{Error}
pub use Rattle.rt_base.specs.declared.error.Error.TheVariants.{Aborted, Closed as ErrClosed, Exited as HasExited, Metric, TooManyTasks, UnknownToken}
pub use Rattle.rt_base.specs.declared.execution.Execution.{Execution}
pub use Rattle.rt_base.specs.declared.execution.Execution.TheVariants.{Dedicated, Shared}
pub use Rattle.rt_base.specs.declared.metric_error.MetricError.TheVariants.{BadLabel, Reserved}
pub use Rattle.rt_base.specs.declared.poll.Poll.{Poll}
pub use Rattle.rt_base.specs.declared.time.TheConstants.{MAX_TIME}
pub use Rattle.rt_laws.specs.Aborts.{IsAbortOf}
pub use Rattle.rt_laws.specs.Chained.{chain_journal, ready_from}
pub use Rattle.rt_laws.specs.Cleanup.{IsOfCleanup}
pub use Rattle.rt_laws.specs.Drawing.{Early, Late, asking_journal, asking_root, drawing_journal, drawing_root, draws_by, events_of, moody_journal, moody_root, number_of, visited_again}
pub use Rattle.rt_laws.specs.Earliest.{IsEarliest}
pub use Rattle.rt_laws.specs.Examples.{Sleeper, alarm_fires, asking_maker, at_once_late_journal, awake, begin_by, busy_root, called, called_by_maker, closes_node, counting_root, cut_journal, drawn, early_fire, early_sleep, finished_for, finishing, fires_with, gave, invented_in_end, invented_in_poll, lacking_journal, late_journal, maker_lacks, no_number_journal, open_node, opening, ordered, overflow_journal, pending_root, ready_journal, ready_root, root_ends, short_journal, silent_end, skipped_journal, sleeper_heard, sleeping_root, small_begin, stalled_journal, still_asleep, visiting_root}
pub use Rattle.rt_laws.specs.Giving.{Fills, asked_for, counting}
pub use Rattle.rt_laws.specs.Onward.{IsOnward}
pub use Rattle.rt_laws.specs.Panics.{answered_kept, begin_catching, caught_journal, failed_beside, kept_panic, panicking_journal, panicking_root, raising_root, reported_journal}
pub use Rattle.rt_laws.specs.Polls.{BeginsPoll, PollsNone}
pub use Rattle.rt_laws.specs.Refusals.{asked}
pub use Rattle.rt_laws.specs.Sends.{SpendsSender}
pub use Rattle.rt_laws.specs.Several.{GoesOn}
pub use Rattle.rt_laws.specs.Signaling.{signaling_journal, signaling_root}
pub use Rattle.rt_laws.specs.Slotting.{Mailer, Waiting, mailing_journal, mailing_root, send_lacks, sending_journal, sending_root, slot_ready, slot_received}
pub use Rattle.rt_laws.specs.Spawns.{Spawns}
pub use Rattle.rt_laws.specs.Stored.{IsStored}
pub use Rattle.rt_laws.specs.Supervised.{Aborter, Aborting, Joining, Parent, aborter_spawned, aborting_journal, aborting_next, aborting_root, beside_journal, gave_beside, handle, join_heard, joiner_ends, lacking_join, prompt_root, side, side_journal, stopping_journal, with_side, without_value}
pub use Rattle.rt_laws.specs.Twice.{drawn_for_two, ended_behind, passed_by, passed_in, twice_journal, twice_root}
pub use Rattle.rt_laws.specs.Visits.{IsInVisit}
pub use Rattle.rt_machine.proofs.Shuffled.{gave-gave, plain-drains}
pub use Rattle.rt_machine.specs.Draws.{Drains, Draws, Orders}
pub use Rattle.rt_machine.specs.Told.{Told, pushed, pushed_all}
pub use Rattle.rt_model.proofs.Append.{AreDigested-append, IsLawful-append, IsTied-append, after_all-append}
pub use Rattle.rt_model.proofs.Draws.{only-rounds, round-draws, shuffled-permutes}
pub use Rattle.rt_model.proofs.Time.{time-within}
pub use Rattle.rt_model.proofs.Walks.{gave-end}
pub use Rattle.rt_model.specs.Alarms.{ahead, alarm_of, fires, is_set, skip_to, slept, woken_by}
pub use Rattle.rt_model.specs.Causes.{cause_at, ends_next, from_running, is_late, overflows, reached, turning_cause, where_true}
pub use Rattle.rt_model.specs.Digests.{AreDigested}
pub use Rattle.rt_model.specs.Draws.{Drawn, Filled, Long, Short, shuffled}
pub use Rattle.rt_model.specs.Effects.{after_all, alarms_called, announces, answered, cause_of, cleans, drawn_after, drawn_called, due_answered, due_called, due_ended, due_node, due_panic, ended, ends_in_panic, entered, entered as entering, entered_by, finished, flagged_by, is_closing, is_settled, label_at, leaves, leaving, left_of, left_pending, marks_answered, marks_called, marks_ended, node_ended, nodes_answered, nodes_called, numbers_called, panics_answered, released, results_answered, results_called, results_ended, results_left, running_answered, running_called, signals_called, slots_called, stood_after, stop_called, task_label, unflagged, unmarked}
unfoldable pub use Rattle.rt_model.specs.Effects.{after}
pub use Rattle.rt_model.specs.Events.{IsOfCall, announced_by, process_task, task_fields}
pub use Rattle.rt_model.specs.Lists.{find, has_number, is_nil, is_some_number, or_else, replaced, those, with_number, without, without_number}
pub use Rattle.rt_model.specs.Marks.{flag, flag_all, flagged, is_flagged, leave, new_mark}
pub use Rattle.rt_model.specs.Results.{may_abort, new_result, with_abort, with_outcome}
pub use Rattle.rt_model.specs.Rules.{Answers, AreDrawn, CallsAt, ChildAnswers, IsEndedNext, IsLawful, IsRefusal, IsSent, JoinAnswers, May, MayAnswer, MayClose, MayCrash, MayEnd, MayEndNode, MayEvent, MayFinish, MayFree, MayRound, OutcomeAnswers, ReceiveAnswers, ShownAs, SlotAnswers, SpawnAnswers, Unless, WasGiven, is_free, label_refusal}
pub use Rattle.rt_model.specs.Run.{IsCutOff, IsRun, IsValidInput}
pub use Rattle.rt_model.specs.Runs.{AreLawful, next_begin, renewed, renews, run_after, runs_after}
pub use Rattle.rt_model.specs.Signals.{has_signaler, met_reply, shown_reply, stopped_reply}
pub use Rattle.rt_model.specs.Slots.{Slotted, aborted, is_open, settled, with_slot, without_slot}
pub use Rattle.rt_model.specs.State.{Announced, Between, Blank, Cleaning, Clock, Closing, Crashed, Ending, Entered, Finished, Halted, Leaving, Making, Numbers, Over, Phase, Polling, State, Stood, Turn, Turning, Visiting}
unfoldable pub use Rattle.rt_model.specs.State.{begun}
pub use Rattle.rt_model.specs.Tied.{EndsState, EndsTask, IsTied, MakerBreaks, Makes, Moves, MovesAnswer, MovesCleanup, MovesCrash, PollBreaks, Polls, Steps, Value, given, kept_text, no_number, nothing, taken, with_result}
pub use Rattle.rt_model.specs.Turns.{Ask, Asks, Fits, Frees, FreesOne, Handed, Heard, Held, IsAnswerOf, IsCounted, IsOwn, IsPlainly, Plain, Plainly, Sending, Sleeping, Spawning, call_of, counted, freed, freed_by, has_place, heard_of, moved, moved_by, put, with_sent, with_spawned}
pub use Rattle.rt_model.specs.Walk.{Breaks, Counts, Does, Fronts, Gave, Gives, Goes, Spends, Step, Stops, Walks, stood_before}
pub use Rattle.rt_model.specs.declared.begin.Begin.{Begin}
pub use Rattle.rt_model.specs.declared.mark.Mark.{Mark}
pub use Rattle.rt_model.specs.declared.result.Outcome.{Outcome}
pub use Rattle.rt_model.specs.declared.result.Outcome.TheVariants.{Closed as IsClosed, Exited, Open, There}
pub use Rattle.rt_model.specs.declared.result.TaskResult.{TaskResult}
pub use Rattle.rt_super.proofs.Below.{stands-append}
pub use Rattle.rt_super.proofs.Rows.{without-none}
pub use Rattle.rt_super.proofs.Shutdowns.{clone_keeps, close_keeps, closing_keeps, first_is, others_there, poll_keeps, polled_keeps, shows, signal_keeps, stopped_keeps}
pub use Rattle.rt_super.proofs.TokenLemmas.{find-owners, find-push, owners-push, owners-unwaited, owners-without}
pub use Rattle.rt_super.specs.Alarms.{Alarm, AlarmList, is_before, waking, with_alarm}
pub use Rattle.rt_super.specs.Ancestry.{NodeState, TreeRecord, changed, first_record, is_child, is_ended, is_known, is_live, links, new_node, newly_ended, node_at, nodes_below, stands_in, subtree, task_on, tasks_on, was_born_ended, with_child, with_end, with_new, with_release, with_task}
pub use Rattle.rt_super.specs.Signals.{IsShutdown, ShowShutdown, SignalRecord, StopRecord, completed, completes, completion_answer, completion_polled, group_for, is_alive, new_group, new_token, signal_answer, signal_closed, signal_group, signal_polled, signaled, signaler_closed, stop_after, stop_shown, stopped_after, stopped_answer, stopped_first, waiting_as, with_clone, with_completion, with_signal, with_stop, without_signal}
pub use Rattle.rt_super.specs.TokensInside.{owners}
pub use Rattle.rt_super.specs.declared.signal_token.SignalToken.{SignalToken}
