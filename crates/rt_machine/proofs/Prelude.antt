-- What the proofs of this crate cite of others and of the definitions, under one name.
pub use Rattle.std.proofs.Common.{Bool, Err, IfErr, IfSome, IsSome, List, None, Ok, OnOk, Option, Result, Some, [], ap, append-nil, append_assoc, arith, codes, drop, eq-eqb, eqb, false, get_or, if◌then◌else◌, inl, inr, is_err, is_none, is_some, length, length-append, map, nat_eq, not, refl, rules, slice_get, subst, suc, sym, take, true, unwrap_or, vec_capacity, vec_len, zero, ℕ, ℤ, ◌%◌, ◌&&◌, ◌++◌, ◌+◌, ◌-◌, ◌<◌, ◌==◌, ◌^◌, ◌||◌, ◌∙◌, ◌∷◌, ◌≡◌, ◌≤◌, ◌⊎◌}
pub use Rattle.std.proofs.Math.Facts.{to_z-of_z}
pub use Rattle.std.proofs.Math.Seq.{get_or-append_seam}
pub use Rattle.std.proofs.lemmas.List.{drop-append-le, drop_all, get_or_append_left, length-map, length-take-le, map-append, take-append-drop, take-append-le, take_all}
pub use Rattle.std.proofs.lemmas.List.Edits.{length-swap}
pub use Rattle.std.proofs.lemmas.List.Elements.{All-head, All-tail}
pub use Rattle.std.proofs.lemmas.List.Sorted.{length_permutation}
pub use Rattle.std.proofs.lemmas.Option.{slice_get-get_or, slice_get-map, slice_get_past}
pub use Rattle.std.specs.Int.{cast_unsigned, to_be_bytes, w32}
pub use Rattle.std.specs.List.{All, list_any, swap}
pub use Rattle.std.specs.Option.{option_map_or}
pub use Rattle.rand_core.specs.Stream.{Stream, fill_bytes, next_u32, next_u64}
pub use Rattle.rt_audit.specs.Digest.{first_digest}
pub use Rattle.rt_audit.specs.Journal.{digest_from, digest_of}
pub use Rattle.rt_audit.specs.declared.answer.AnswerKind.TheVariants.{Ended}
pub use Rattle.rt_audit.specs.declared.call.Call.{Call}
pub use Rattle.rt_audit.specs.declared.call.Call.TheVariants.{Abort, AbortTask, Auditor, Child, CloneSignal, CloseNode, CompletionClose, CompletionPoll, FillBytes, GiveUp, Join, NextU32, NextU64, Signal, SignalClose, SignalPoll, Signaler, SignalerClose, SleepPoll, Slots, Spawn, Stop, Stopped, Wake}
pub use Rattle.rt_audit.specs.declared.entry.Entry.{Entry}
pub use Rattle.rt_audit.specs.declared.entry.Entry.TheVariants.{Answer, Call as CallEntry, Draw, Event, NodeEnd, Round}
pub use Rattle.rt_audit.specs.declared.finish.FinishCause.{FinishCause}
pub use Rattle.rt_audit.specs.declared.finish.FinishCause.TheVariants.{Completed, NoMemory, Stalled, TaskPanicked, TimeOverflow, Timeout, TooManyTasks}
pub use Rattle.rt_audit.specs.declared.reply.CallReply.{CallReply}
pub use Rattle.rt_audit.specs.declared.reply.CallReply.TheVariants.{CompletionAt, Done, NodeAt, Refused}
pub use Rattle.rt_audit.specs.declared.slot_call.SlotCall.{SlotCall}
pub use Rattle.rt_base.specs.declared.error.Error.{Error}
pub use Rattle.rt_base.specs.declared.poll.Poll.TheVariants.{Pending}
pub use Rattle.rt_base.specs.declared.time.TheConstants.{MAX_TIME}
pub use Rattle.rt_machine.specs.Calls.{IsRefused, Spent, turn_in}
pub use Rattle.rt_machine.specs.Draws.{Drains, Gave, Shuffles}
pub use Rattle.rt_machine.specs.Ends.{AreCalm, Calmly, Gone, Left, Visited, cleanup_by, cleanup_entries, ended_results, ended_waiting, is_calm, open_in, panic_wakes}
pub use Rattle.rt_machine.specs.Groups.{Grouped, grouped}
pub use Rattle.rt_machine.specs.Labels.{IsThere, Labelled, label_in, labelled, numbered}
pub use Rattle.rt_machine.specs.News.{is_new}
pub use Rattle.rt_machine.specs.Places.{AreBelow, Seen, Stands, group_places, live_count, mark_places, ones, places, promised_by, result_places, signal_places, stopped_places, token_places, visit_places}
pub use Rattle.rt_machine.specs.Steps.{StandsFor, Turns}
pub use Rattle.rt_machine.specs.Told.{AreCalls, AreQuiet, IsKept, IsWithin, Journaled, Quietly, Told, is_call, is_quiet, lacked_at, noted, own, pushed, pushed_all, told_from}
pub use Rattle.rt_machine.specs.declared.labels.NodeLabel.{NodeLabel}
pub use Rattle.rt_machine.specs.declared.labels.NodeLabel.TheVariants.{Long, Short}
pub use Rattle.rt_model.proofs.Append.{AreDigested-append, AreDrawn-append, IsLawful-append, after_all-append, digest_from-append}
pub use Rattle.rt_model.proofs.Draws.{round-draws, shuffled-permutes}
pub use Rattle.rt_model.proofs.Time.{time-within}
pub use Rattle.rt_model.specs.Alarms.{ahead, fires, skip_to, slept}
pub use Rattle.rt_model.specs.Causes.{ends_next, reached}
pub use Rattle.rt_model.specs.Digests.{AreDigested, IsDigested}
pub use Rattle.rt_model.specs.Draws.{Drawn, Filled, shuffled, shuffled_from}
pub use Rattle.rt_model.specs.Effects.{after_all, announces, cause_of, due_called, due_ended, due_left, entered, flagged_by, is_closing, is_panic, label_at, leaves, left_of, marks_ended, released, results_ended, results_left, running_called, unflagged}
unfoldable pub use Rattle.rt_model.specs.Effects.{after}
pub use Rattle.rt_model.specs.Events.{IsOfCall, announced_by, drawing}
pub use Rattle.rt_model.specs.Lists.{find, has_number, is_nil, replaced, those, with_number, without, without_number}
pub use Rattle.rt_model.specs.Marks.{due_all, due_if, due_of, flag, flag_all, flagged, is_ended_at, is_left, leave, new_mark}
pub use Rattle.rt_model.specs.Results.{may_abort, new_result, with_abort, with_outcome}
pub use Rattle.rt_model.specs.Rows.{Rows, total}
pub use Rattle.rt_model.specs.Rules.{AreDrawn, CallsAt, IsDrawn, IsEndedNext, IsLawful, May, MayCall, MayClose, MayDraw, MayEvent, MayRound, RoundNeeds, is_free}
pub use Rattle.rt_model.specs.Signals.{has_signaler}
pub use Rattle.rt_model.specs.Slots.{Slotted, slots_by, slots_wake}
pub use Rattle.rt_model.specs.State.{Announced, Between, Blank, Cleaning, Clock, Closing, Crashed, Ending, Entered, Finished, Halted, Leaving, Making, Numbers, Over, Phase, Polling, State, Stood, Turning, Visiting, begun}
pub use Rattle.rt_model.specs.declared.begin.Begin.{Begin}
pub use Rattle.rt_model.specs.declared.mark.Mark.{Mark}
pub use Rattle.rt_model.specs.declared.result.Outcome.{Outcome}
pub use Rattle.rt_model.specs.declared.result.Outcome.TheVariants.{Closed, Closed as IsClosed}
pub use Rattle.rt_model.specs.declared.result.TaskResult.{TaskResult}
pub use Rattle.rt_parts.proofs.Changed.{replaced-as, replaced-none}
pub use Rattle.rt_parts.proofs.SlotLaws.{cost-spent}
pub use Rattle.rt_parts.proofs.Totals.{join-places, more-places, replaced-places, settle-places, waits-places, without-places}
pub use Rattle.rt_parts.specs.Slots.{is_spending, slot_cost, slots_owe, slotted}
pub use Rattle.rt_super.specs.Alarms.{Alarm, AlarmList, AreSet, alarm_rewoken, alarm_set, due_at, with_alarm}
pub use Rattle.rt_super.specs.Ancestry.{NodeState, TreeRecord, is_ended, is_known, is_live, live_task, node_at, with_child, with_end, with_flag_taken, with_release, with_task}
unfoldable pub use Rattle.rt_super.specs.Ancestry.{AreEnded}
pub use Rattle.rt_super.specs.Rows.{AreRising}
pub use Rattle.rt_super.specs.Signals.{SignalRecord, StopRecord, completed, completes, completion_answer, completion_closed, completion_polled, group_for, group_of, is_alive, is_open, is_waited, met_at, new_group, new_token, shown, signal_answer, signal_closed, signal_polled, signaled, signaler_closed, stop_after, stopped_after, stopped_answer, stopped_first, unwaited, waiting_as, waits_in, with_clone, with_completion, with_group, with_signal, with_stop, without_signal, woken_at, woken_by_closing, woken_by_last, woken_by_stop, woken_by_value}
pub use Rattle.rt_super.specs.declared.signal_group.SignalGroup.{SignalGroup}
pub use Rattle.rt_super.specs.declared.signal_token.SignalToken.{SignalToken}
pub use Rattle.rt_super.specs.declared.stopper.Stopped.TheVariants.{Resolved, Waiting}
