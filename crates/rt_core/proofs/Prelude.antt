-- What the proofs of this crate cite of others and of the definitions, under one name.
pub use Rattle.std.proofs.Common.{Bool, Err, IfErr, IfOk, IfSome, List, None, Ok, Option, Result, SFits, Some, [], add-one, ap, arith, drop, false, get_or, inl, inr, is_some, length, length-append, map, refl, rules, subst, suc, sym, take, true, vec_len, w32, zero, ℕ, ℤ, ◌++◌, ◌+◌, ◌-◌, ◌<◌, ◌∙◌, ◌∷◌, ◌≡◌, ◌≢◌, ◌≤◌, ◌⊎◌}
pub use Rattle.std.proofs.Math.ListN.{set}
pub use Rattle.std.proofs.Math.Seq.{drop-cons}
pub use Rattle.std.proofs.lemmas.Int.{to_z-of_z}
pub use Rattle.std.proofs.lemmas.List.{drop-append-le, drop-set-lt, drop_all, length-map, nil_from_length, set_split, take-append-drop, take-append-le, take_all, take_more_set}
pub use Rattle.std.specs.Vec.Iter.{into_iter_items, into_iter_len}
pub use Rattle.std.specs.VecDeque.{deque_capacity, deque_len}
pub use Rattle.either.specs.declared.Either.TheVariants.{Left, Right}
pub use Rattle.rand_core.specs.Stream.{Stream}
pub use Rattle.rt_audit.specs.Journal.{digest_of}
pub use Rattle.rt_audit.specs.declared.call.Call.TheVariants.{CompletionPoll, Join, SignalPoll, Stop as StopCall, Wake}
pub use Rattle.rt_audit.specs.declared.entry.Entry.{Entry}
pub use Rattle.rt_audit.specs.declared.entry.Entry.TheVariants.{Root}
pub use Rattle.rt_audit.specs.declared.finish.FinishCause.{FinishCause}
pub use Rattle.rt_audit.specs.declared.finish.FinishCause.TheVariants.{Completed, Stalled, TaskPanicked, TimeOverflow, TooManyTasks}
pub use Rattle.rt_audit.specs.declared.reply.CallReply.TheVariants.{CompletionAt, Done, Pending as StillPending, Refused, TaskAt}
pub use Rattle.rt_base.specs.declared.error.Error.{Error}
pub use Rattle.rt_base.specs.declared.error.Error.TheVariants.{Aborted as IsAborted, Closed, NoMemory}
pub use Rattle.rt_base.specs.declared.poll.Poll.{Poll}
pub use Rattle.rt_base.specs.declared.poll.Poll.TheVariants.{Pending, Ready}
pub use Rattle.rt_core.specs.Completions.{Polls, held_answer, stage_by}
unfoldable pub use Rattle.rt_core.specs.Completions.{completion_polls, completion_spends}
pub use Rattle.rt_core.specs.Contexts.{child_heard, context_on, handle_heard}
unfoldable pub use Rattle.rt_core.specs.Contexts.{childs, spawns}
unfoldable pub use Rattle.rt_core.specs.Drawing.{asks_auditor, asks_bytes, asks_u32, asks_u64}
pub use Rattle.rt_core.specs.Eithers.{FirstOf, both, neither, unless_lack}
unfoldable pub use Rattle.rt_core.specs.Eithers.{either_polls, either_spends, polls_second}
pub use Rattle.rt_core.specs.Failures.{finish_of, text_of}
pub use Rattle.rt_core.specs.Handles.{aborted, guard_spends}
unfoldable pub use Rattle.rt_core.specs.Handles.{handle_aborts, handle_polls, handle_spends, no_polls, no_spends}
pub use Rattle.rt_core.specs.Joins.{Joins, answered, is_lack, lacks, told, turned, unless_lacking, waits}
unfoldable pub use Rattle.rt_core.specs.Joins.{drains, fails, gives_up, join_all_polls, joins}
pub use Rattle.rt_core.specs.Outcome.{Completes, Ended, Facts, FailedFor, IsValid, Leaves}
pub use Rattle.rt_core.specs.Pauses.{pause_for}
unfoldable pub use Rattle.rt_core.specs.Pauses.{pause_polls, pause_spends}
pub use Rattle.rt_core.specs.Pollers.{begun_sleep, closes, reschedule_heard}
unfoldable pub use Rattle.rt_core.specs.Pollers.{reschedule_polls, reschedule_spends, sleep_polls, sleep_spends}
pub use Rattle.rt_core.specs.Select.{select_polls, undecided}
unfoldable pub use Rattle.rt_core.specs.Select.{each, lets_go, polls_rest}
pub use Rattle.rt_core.specs.Signals.{met_heard, shown_heard}
unfoldable pub use Rattle.rt_core.specs.Signals.{asks_stopped, clones, makes_group, signal_polls, signal_spends}
pub use Rattle.rt_core.specs.Sleeper.{Sleeper}
pub use Rattle.rt_core.specs.Starting.{Starting}
pub use Rattle.rt_core.specs.Stopping.{limit_for, stopping}
unfoldable pub use Rattle.rt_core.specs.Stopping.{begins, stage_spends, still, stop_polls, stop_spends}
pub use Rattle.rt_core.specs.Timeouts.{Polling, limit_of, over}
unfoldable pub use Rattle.rt_core.specs.Timeouts.{timeout_polls, timeout_spends}
pub use Rattle.rt_core.specs.declared.completion.Completion.{Completion}
pub use Rattle.rt_core.specs.declared.completion.Source.TheVariants.{Polled}
pub use Rattle.rt_core.specs.declared.completion.Stage.TheVariants.{Aborted, Answered, Open}
pub use Rattle.rt_core.specs.declared.either_of.EitherOf.{EitherOf}
pub use Rattle.rt_core.specs.declared.handle.Kind.{Kind}
pub use Rattle.rt_core.specs.declared.handle.Kind.TheVariants.{Received}
pub use Rattle.rt_core.specs.declared.pause.Pause.{Pause}
pub use Rattle.rt_core.specs.declared.run_error.RunError.{RunError}
pub use Rattle.rt_core.specs.declared.run_error.RunError.TheVariants.{NoMemory as IsNoMemory, Stalled as IsStalled, TaskPanicked as HasPanicked, TimeOverflow as IsTimeOverflow, Timeout as IsTimeout, TooManyTasks as AreTooManyTasks}
pub use Rattle.rt_core.specs.declared.stop.Stop.{Stop}
pub use Rattle.rt_core.specs.declared.stop.Stopping.{Stopping}
pub use Rattle.rt_core.specs.declared.stop.Stopping.TheVariants.{Begins, Limited, Waits}
pub use Rattle.rt_core.specs.declared.timeout.Timeout.{Timeout}
pub use Rattle.rt_core.specs.declared.yields.Reschedule.{Reschedule}
pub use Rattle.rt_machine.specs.Draws.{Gave}
pub use Rattle.rt_machine.specs.Told.{AreCalls, Told, own, pushed}
pub use Rattle.rt_model.specs.Causes.{reached}
pub use Rattle.rt_model.specs.Digests.{AreDigested}
pub use Rattle.rt_model.specs.Effects.{after_all}
unfoldable pub use Rattle.rt_model.specs.Effects.{after}
pub use Rattle.rt_model.specs.Rules.{AreDrawn, IsLawful, MayCall}
pub use Rattle.rt_model.specs.Run.{IsCutOff, IsRun, IsValidInput}
pub use Rattle.rt_model.specs.Signals.{met_reply, shown_reply}
pub use Rattle.rt_model.specs.State.{Clock, Finished, State, Turn}
unfoldable pub use Rattle.rt_model.specs.State.{begun}
pub use Rattle.rt_model.specs.Tied.{Steps, Value, with_first}
pub use Rattle.rt_model.specs.Turns.{Handed, Held, Plain, Plainly}
pub use Rattle.rt_model.specs.Walk.{Breaks, Does, Fronts, Gives, Last, Step, Walks, then}
pub use Rattle.rt_model.specs.declared.begin.Begin.{Begin}
pub use Rattle.rt_world.proofs.Drawing.{auditor-tells, filled-tells, long-tells, short-tells}
pub use Rattle.rt_world.proofs.Drawn.{drew-behind, drew-drew, drew-of}
pub use Rattle.rt_core.proofs.Joined.{goes-followed, goes-gives, goes-then, spends-then}
pub use Rattle.rt_world.proofs.Lasting.{drawn-of}
pub use Rattle.rt_world.proofs.Signaled.{clone-tells, signaler-tells, stopped-tells}
pub use Rattle.rt_world.proofs.Texts.{ends-with-text}
pub use Rattle.rt_world.proofs.Walked.{calling-kept, child-tells, goes-on, kept-kept, kept-same, long, rooted-broken, rooted-fresh, rooted-short, spawn-tells, spends-on, spent-nothing, spent-spend, tells-lacking, walked-followed, walked-gives, walked-join, walked-lacking, walked-made, walked-sleep, walked-then, walked-wake}
pub use Rattle.rt_world.specs.Calls.{IsPolling, IsRefused, Joined, Kept, Made, lacking}
pub use Rattle.rt_world.specs.Ends.{EndsFor, IsFinal, Seals}
pub use Rattle.rt_world.specs.Follows.{Agrees, Follows, IsMade, IsUnmade, unmade_of, value_of}
pub use Rattle.rt_world.specs.Receiving.{heard_result, polled}
pub use Rattle.rt_world.specs.Rounds.{EndAgrees, Runs}
pub use Rattle.rt_world.specs.Walked.{Goes, SaysLack, Spends, Spent, Walked}
pub use Rattle.rt_world.specs.World.{World}
unfoldable pub use Rattle.rt_world.specs.World.{Drew}
