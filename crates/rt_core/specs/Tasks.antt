-- The words of a task's definitions and of its clauses, in one place.

-- what is done next, and what follows from it
pub use Rattle.rt_model.specs.Tied.{TaskSteps}
pub use Rattle.rt_model.specs.Walk.{Step, Last, Does, Spends, Gives}
unfoldable pub use Rattle.rt_model.specs.Walk.{then, followed_by}
-- calls, and what is heard of them
pub use Rattle.rt_model.specs.Turns.{Plainly, Sending, Heard, Plain, Handed}
pub use Rattle.rt_audit.specs.declared.call.Call.TheVariants.{Wake, AbortTask, CloseNode, Slots}
pub use Rattle.rt_audit.specs.declared.slot_call.SlotCall.TheVariants.{Make as Slot, Close as SlotClose}
pub use Rattle.rt_audit.specs.declared.reply.CallReply.{CallReply}
pub use Rattle.rt_audit.specs.declared.reply.CallReply.TheVariants.{Done as IsDone, SlotAt, Refused}
-- the answers of tasks and of pollers
pub use Rattle.rt_model.specs.declared.answer.Answer.{Answer}
pub use Rattle.rt_model.specs.declared.answer.Answer.TheVariants.{Pending, Ready, Panicked, NoMemory}
pub use Rattle.rt_base.specs.declared.error.Error.{Error}
pub use Rattle.rt_base.specs.declared.error.Error.TheVariants.{Timeout as TimedOut}
pub use Rattle.rt_base.specs.declared.poll.Poll.{Poll}
pub use Rattle.rt_base.specs.declared.poll.Poll.TheVariants.{Ready as IsReady, Pending as IsPending}
-- contexts, and what is asked by them
pub use Rattle.rt_core.specs.Contexts.{Context, root_context}
unfoldable pub use Rattle.rt_core.specs.Contexts.{childs, spawns, spawns_with, starts}
unfoldable pub use Rattle.rt_core.specs.Drawing.{asks_auditor, asks_bytes, asks_u32, asks_u64}
unfoldable pub use Rattle.rt_core.specs.Signals.{asks_stopped}
pub use Rattle.rt_core.specs.Pollers.{closes}
-- sleeps, pauses and turns of the others
pub use Rattle.rt_core.specs.Sleeper.{Sleeper}
pub use Rattle.rt_core.specs.Pollers.{until, unqueued}
unfoldable pub use Rattle.rt_core.specs.Pollers.{sleep_for, sleep_until, sleep_polls, sleep_spends, reschedule_polls, reschedule_spends}
pub use Rattle.rt_core.specs.Pauses.{pause_for}
unfoldable pub use Rattle.rt_core.specs.Pauses.{pause_polls, pause_spends}
-- handles
pub use Rattle.rt_core.specs.Handles.{TaskHandle, held_handle, received_handle, polled_handle, task_polls, task_spends, guard_spends, aborted}
unfoldable pub use Rattle.rt_core.specs.Handles.{handle_polls, handle_spends, handle_aborts, no_polls, no_spends}
-- the ends of slots
unfoldable pub use Rattle.rt_world.specs.Receiving.{receiver_polls, receiver_spends}
-- what is made of other pollers
unfoldable pub use Rattle.rt_core.specs.Timeouts.{timeout_polls, timeout_spends}
pub use Rattle.rt_core.specs.Select.{select_polls}
unfoldable pub use Rattle.rt_core.specs.Select.{each, lets_go}
pub use Rattle.rt_core.specs.Joins.{Joins, joining, join_all_spends}
unfoldable pub use Rattle.rt_core.specs.Joins.{join_all_polls}
pub use Rattle.either.specs.declared.Either.TheVariants.{Left, Right}
pub use Rattle.rt_core.specs.Eithers.{FirstOf, both, neither}
unfoldable pub use Rattle.rt_core.specs.Eithers.{either_polls, either_spends}
-- signals, and the end of the run
unfoldable pub use Rattle.rt_core.specs.Signals.{clones, completion_polls, completion_spends, makes_group, signal_polls, signal_spends}
unfoldable pub use Rattle.rt_core.specs.Stopping.{stop_polls, stop_spends}
-- what a helper requires and ensures
pub use Rattle.rt_model.specs.Rules.{MayCall}
pub use Rattle.rt_world.specs.Calls.{IsPolling, Kept}
pub use Rattle.rt_world.specs.Walked.{Goes, SaysLack}
unfoldable pub use Rattle.rt_world.specs.Walked.{Polled, Rooted, Spent}
