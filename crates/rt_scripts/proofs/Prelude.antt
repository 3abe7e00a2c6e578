-- What the proofs of this crate cite of others and of the definitions, under one name.
pub use Rattle.std.proofs.Common.{All, Bool, Err, IfNone, IfSome, List, None, Ok, Ok as IsOk, OnErr, Option, Result, Some, [], add-one, ap, append_assoc, arith, codes, drop, eq-eqb, eqb, false, if◌then◌else◌, inl, inr, leb, length, length-append, ltb, map, max, not, pos, refl, rules, slice_get, slice_index_or, string_bytes, subst, suc, sym, take, true, vec_capacity, vec_len, zero, ℕ, ℤ, ◌++◌, ◌+◌, ◌-◌, ◌<◌, ◌∙◌, ◌∷◌, ◌≡◌, ◌≢◌, ◌≤◌, ◌⊎◌}
pub use Rattle.std.proofs.Math.Seq.{drop-append_seam, drop-cons, take-append_seam}
pub use Rattle.std.proofs.lemmas.Bool.{cases_Bool}
pub use Rattle.std.proofs.lemmas.Bool.Decides.{nat_tests}
pub use Rattle.std.proofs.lemmas.Int.{to_z-of_z}
pub use Rattle.std.proofs.lemmas.List.{append-nil, append_cancel_left, drop_all, length-take-le, nil_from_length, take-append-drop}
pub use Rattle.std.proofs.lemmas.List.Elements.{All-cons, All-nil, All-rest, All-tail, All-weaker}
pub use Rattle.std.proofs.lemmas.List.Sorted.{IsPermutation-refl}
pub use Rattle.std.proofs.lemmas.Option.{slice_get-get_or}
pub use Rattle.std.specs.Int.{cast_unsigned, to_be_bytes}
pub use Rattle.std.specs.Prelude.{nat_lt, negsuc, slice_range}
pub use Rattle.rand_chacha.specs.ChaCha.{ChaCha}
pub use Rattle.rand_core.specs.Stream.{Stream}
pub use Rattle.rt_audit.proofs.Times.{rounds-append}
pub use Rattle.rt_audit.specs.Journal.{digest_of, last_time, rounds_in}
pub use Rattle.rt_audit.specs.Lines.{line_of}
pub use Rattle.rt_audit.specs.declared.answer.AnswerKind.TheVariants.{Pending as AnswersPending, Ready as AnswersReady}
pub use Rattle.rt_audit.specs.declared.call.Call.TheVariants.{AbortTask, Child, CloseNode, CompletionClose, CompletionPoll, GiveUp, Join, SleepPoll, Stop}
pub use Rattle.rt_audit.specs.declared.entry.Entry.{Entry}
pub use Rattle.rt_audit.specs.declared.entry.Entry.TheVariants.{Advance, Answer as Answered, Call, Call as CallEntry, Event, Fire, Round, Skip, Visit, Wake}
pub use Rattle.rt_audit.specs.declared.finish.FinishCause.{FinishCause}
pub use Rattle.rt_audit.specs.declared.finish.FinishCause.TheVariants.{Completed, NoMemory as OutOfMemory}
pub use Rattle.rt_audit.specs.declared.journal.Journal.{Journal}
pub use Rattle.rt_audit.specs.declared.reply.CallReply.TheVariants.{CompletionAt, Done, NodeAt, Pending as StillPending, PendingAt, Ready as IsOver, Refused}
pub use Rattle.rt_base.proofs.Outsides.{appends_more}
pub use Rattle.rt_base.specs.Label.{is_label, is_reserved, prefixed}
pub use Rattle.rt_base.specs.Outside.{Appends}
pub use Rattle.rt_base.specs.declared.error.Error.{Error}
pub use Rattle.rt_base.specs.declared.error.Error.TheVariants.{Metric, NoMemory as LacksMemory, NoMemory as OutOf}
pub use Rattle.rt_base.specs.declared.execution.Execution.TheVariants.{Shared}
pub use Rattle.rt_base.specs.declared.metric_error.MetricError.{MetricError}
pub use Rattle.rt_base.specs.declared.metric_error.MetricError.TheVariants.{BadLabel, Reserved}
pub use Rattle.rt_base.specs.declared.poll.Poll.{Poll}
pub use Rattle.rt_base.specs.declared.poll.Poll.TheVariants.{Pending as IsPending, Ready as IsMet, Ready as IsReady}
pub use Rattle.rt_base.specs.declared.time.TheConstants.{MAX_TIME}
pub use Rattle.rt_core.specs.Contexts.{Context, child_heard, child_name, context_on, root_context}
unfoldable pub use Rattle.rt_core.specs.Contexts.{childs, spawns as spawns_on}
pub use Rattle.rt_core.specs.Failures.{finish_of}
pub use Rattle.rt_core.specs.Handles.{TaskHandle, task_handle, task_polls, task_spends}
unfoldable pub use Rattle.rt_core.specs.Handles.{handle_polls, handle_spends}
pub use Rattle.rt_core.specs.Outcome.{Completes, FailedFor, Fails}
pub use Rattle.rt_core.specs.Pollers.{closes, sleep_heard, until}
unfoldable pub use Rattle.rt_core.specs.Pollers.{sleep_for, sleep_polls}
unfoldable pub use Rattle.rt_core.specs.Signals.{asks_stopped, completion_polls, completion_spends}
pub use Rattle.rt_core.specs.Sleeper.{Sleeper}
pub use Rattle.rt_core.specs.Starting.{Kept, Starting, assert_of, chacha_stream, deadline_of, is_too_late, resumed}
pub use Rattle.rt_core.specs.Stopping.{limit_for}
unfoldable pub use Rattle.rt_core.specs.Stopping.{begins, stage_spends, still, stop_polls, stop_spends}
unfoldable pub use Rattle.rt_core.specs.Timeouts.{timeout_polls, timeout_spends}
pub use Rattle.rt_core.specs.declared.run_error.RunError.{RunError}
pub use Rattle.rt_core.specs.declared.run_error.RunError.TheVariants.{TaskPanicked}
pub use Rattle.rt_laws.proofs.Announcing.{polling_announces}
pub use Rattle.rt_laws.proofs.Chains.{rises-before}
pub use Rattle.rt_laws.proofs.Completing.{entered, fired, polling_does, polling_gives, polling_sleeps, polling_wakes, rounds, skips, visited, visiting, woken}
pub use Rattle.rt_laws.proofs.Given.{one_left}
pub use Rattle.rt_laws.proofs.OneTask.{alive, one_child}
pub use Rattle.rt_laws.proofs.Runs.{ends-tied, short_run, skipped_run}
pub use Rattle.rt_laws.proofs.Several.{join_runs, run_alone}
pub use Rattle.rt_laws.proofs.Supervising.{Calls, Replied, behind, child_told, never, polling_spends, told}
pub use Rattle.rt_laws.proofs.Valid.{asleep as asleep_at, first_poll, first_polled, only, with_state}
pub use Rattle.rt_laws.proofs.ValidAborting.{JoinsAborted, closed_valid, handed_valid, heard_behind}
pub use Rattle.rt_laws.proofs.ValidSide.{beside_valid}
pub use Rattle.rt_laws.specs.Examples.{alarm_fires, awake as awake_then, closes_node, finishing, opening, ready_journal, root_ends, short_journal, skipped_journal, small_begin, still_asleep, visiting_root}
pub use Rattle.rt_model.proofs.Append.{IsTied-append}
pub use Rattle.rt_model.specs.Causes.{ends_next}
pub use Rattle.rt_model.specs.Effects.{after_all}
unfoldable pub use Rattle.rt_model.specs.Effects.{after}
pub use Rattle.rt_model.specs.Events.{process_task, task_fields}
pub use Rattle.rt_model.specs.Lists.{find, without}
pub use Rattle.rt_model.specs.Rules.{IsLawful, label_refusal}
pub use Rattle.rt_model.specs.Run.{FailedBy, IsRun, IsValidInput}
pub use Rattle.rt_model.specs.Runs.{AreLawful, next_begin}
pub use Rattle.rt_model.specs.State.{Clock, Finished, State}
unfoldable pub use Rattle.rt_model.specs.State.{begun as from_begin}
pub use Rattle.rt_model.specs.Tied.{IsTied, Steps, Value, nothing, taken}
pub use Rattle.rt_model.specs.Turns.{Plain, Plainly, Spawning, put, with_task}
pub use Rattle.rt_model.specs.Walk.{Gives, Last, Step}
unfoldable pub use Rattle.rt_model.specs.Walk.{followed_by, then}
pub use Rattle.rt_model.specs.declared.answer.Answer.{Answer}
pub use Rattle.rt_model.specs.declared.answer.Answer.TheVariants.{NoMemory, Pending, Ready}
pub use Rattle.rt_model.specs.declared.begin.Begin.{Begin}
pub use Rattle.rt_scenario.specs.Scenario.{BrokenAt, CanRun, CanRunLine, Whole, scenario_of}
pub use Rattle.rt_scenario.specs.Texts.{no_text, text_at}
pub use Rattle.rt_scenario.specs.declared.line.Line.{Line}
pub use Rattle.rt_scenario.specs.declared.line.Line.TheVariants.{AbortSelf, End, EndLast, Join as JoinLine, Pend, Sleep, Spawn, Stop as StopLine, StopWithin}
pub use Rattle.rt_scenario.specs.declared.scenario.RunLine.{RunLine}
pub use Rattle.rt_scenario.specs.declared.scenario.ScriptText.{ScriptText}
pub use Rattle.rt_scenario.specs.declared.scenario.Settings.{Settings}
pub use Rattle.rt_scripts.specs.Asked.{Answers, Asked, Ends, EndsAs, IsAsked, Lacks, NoCommand, Reads, TooLong, asked_of, says_run}
pub use Rattle.rt_scripts.specs.Making.{Maker, Making, Prepares, begun, making, passed_over, placed_beside, spawned_beside}
unfoldable pub use Rattle.rt_scripts.specs.Making.{beside, besides}
pub use Rattle.rt_scripts.specs.Program.{choice_at, choices_in, line_at, name_at, some_choices}
pub use Rattle.rt_scripts.specs.Ran.{CameOf, Chain, Comes, Halts, HasScripts, IsReported, Makes, last_status, maker_of, report_of, root_steps, starting, status_of}
pub use Rattle.rt_scripts.specs.Report.{IsPart, IsWritten, StandsIn, entries_text, numbers_text, report_text, reports_text, result_text}
pub use Rattle.rt_scripts.specs.Script.{Choosing, Next, Script, Tries, aborted_at, aborts_of, as_handle, awaits_held, begun_stop, bound, choice_in, chosen, decides, ended, ended_behind, handle_at, held_spends, joins_held, leaves_choice, left_by, limit_in, limited, lines_from, loosed, passed, placed, polled, put_back, range_of, refused, releases, roomed, signal_at, signaled, sleep_in, slept, spawned, started, stops_by, stops_waiting, tried_by, unchosen, unheld, unless_ready, value_of, waiting}
unfoldable pub use Rattle.rt_scripts.specs.Script.{aborted_in, aborts_chosen, aborts_itself, asks, awaits, freed_of, goes_choosing, goes_on, joins, joins_within, limits, polls_choice, polls_chosen, polls_name, releases_all, releases_chosen, sleeps, spawns, stop_goes, stops, tried}
pub use Rattle.rt_scripts.specs.declared.held.Held.{Held}
pub use Rattle.rt_scripts.specs.declared.held.Held.TheVariants.{Handle, Signal}
pub use Rattle.rt_scripts.specs.declared.outcome.Outcome.{Outcome}
pub use Rattle.rt_scripts.specs.declared.outcome.RunReport.{RunReport}
pub use Rattle.rt_scripts.specs.declared.outcome.RunResult.{RunResult}
pub use Rattle.rt_scripts.specs.declared.outcome.RunResult.TheVariants.{Failed, Ok as Gave}
pub use Rattle.rt_scripts.specs.declared.script.Waits.TheVariants.{Limits, Nothing, Sleeps}
pub use Rattle.rt_scripts.specs.declared.simulate.Came.TheVariants.{Failed as HasFailed, Lacked}
pub use Rattle.rt_super.specs.Ancestry.{first_record, is_known, is_live}
pub use Rattle.rt_super.specs.Signals.{completion_answer}
pub use Rattle.rt_world.proofs.Walked.{goes-on, kept-kept, leads-same, polled-gives, polled-lacking, polled-lacks, rooted-gives, rooted-lacks, spends-on, spent-nothing, tells-lacking, walked-followed, walked-gives, walked-then}
pub use Rattle.rt_world.specs.Seats.{numbers_of}
pub use Rattle.rt_world.specs.Walked.{Advanced, Goes, Leads, Polled, Rooted, Spends, Spent}
unfoldable pub use Rattle.rt_world.specs.Walked.{tells}
pub use Rattle.rt_world.specs.World.{World}
pub use mir.Syntax.{w32, w64}
pub use mir.Val.{SFits}
