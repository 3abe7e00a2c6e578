-- Small runs with panics, and what comes near to one.
use Rattle.std.specs.Prelude.{ℕ, List, [], ◌∷◌, ◌++◌, Some, Bool, false}
use Rattle.rt_base.specs.declared.error.Error.TheVariants.{Exited}
use Rattle.rt_base.specs.declared.execution.Execution.TheVariants.{Shared}
use Rattle.rt_audit.specs.declared.call.Call.TheVariants.{Child, CloseNode, Join, GiveUp}
use Rattle.rt_audit.specs.declared.reply.CallReply.TheVariants.{Done, Refused}
use Rattle.rt_audit.specs.declared.answer.AnswerKind.{AnswerKind}
use Rattle.rt_audit.specs.declared.answer.AnswerKind.TheVariants.{Panicked as AnswersPanicked, Stopped, Ended}
use Rattle.rt_audit.specs.declared.finish.FinishCause.TheVariants.{TaskPanicked}
use Rattle.rt_audit.specs.declared.entry.Entry.{Entry}
use Rattle.rt_audit.specs.declared.entry.Entry.TheVariants.{Call, Event, Wake, Round, Visit, Answer as Answered, NodeEnd, Advance, Cleanup}
use Rattle.rt_model.specs.declared.answer.Answer.{Answer}
use Rattle.rt_model.specs.declared.answer.Answer.TheVariants.{Panicked}
use Rattle.rt_model.specs.declared.begin.Begin.{Begin}
use Rattle.rt_model.specs.Events.{process_task, task_fields}
use Rattle.rt_model.specs.Turns.{Plainly}
use Rattle.rt_model.specs.Walk.{Step, Does, Gives}
use Rattle.rt_model.specs.Tied.{Steps, Value, with_first, nothing}
use Rattle.rt_laws.specs.Examples.{small_begin, closes_node, opening, visiting_root, root_ends, finishing}
use Rattle.rt_laws.specs.Supervised.{Aborting, Parent, Joining, Aborter, handle, joins, parent_heard, aborting_last, aborter_joined, aborter_closes, parent_ends}

-- where panics are caught, or not
abbrev pub begin_catching : Bool → Begin
begin_catching catch = record small_begin { catch = catch }

-- a root that panics with this text at its first poll
abbrev pub panicking_root : List ℕ → Steps (Unit {0}) ℕ
panicking_root text =
    with_first (record { next = λ state now task. Gives (Panicked text) state; last = λ state now task. closes_node }) (λ now. Gives tt tt)

abbrev pub panicking_journal : List Entry
panicking_journal = opening ++ visiting_root ++ (Answered 0 AnswersPanicked ∷ []) ++ root_ends ++ finishing TaskPanicked

-- a root that spawns a task, which panics with this text at its first poll, and joins it
abbrev pub raising_next : List ℕ → Aborting → ℕ → ℕ → Step Aborting Aborting ℕ (Answer ℕ)
raising_next text Parent now task = Does (Plainly (Child 0 handle)) parent_heard
raising_next text (Joining other) now task = joins other
raising_next text (Aborter node) now task = Gives (Panicked text) (Aborter node)

abbrev pub raising_root : List ℕ → Steps Aborting ℕ
raising_root text = with_first (record { next = raising_next text; last = aborting_last }) (λ now. Gives tt Parent)

-- the values behind a run that failed with this text, where one task was spawned
abbrev pub failed_beside : {A : Type 0} → ℕ → List ℕ → Value A ℕ
failed_beside task text =
    record nothing { held = record { tasks = []; results = []; sent = []; executions = (task, Shared false) ∷ []; counts = [] }; panic = Some text }

-- the task panics, and ends
abbrev pub raises : List Entry
raises = Visit 1 ∷ Event process_task (task_fields 1 handle) ∷ Answered 1 AnswersPanicked ∷ aborter_closes

-- the root was left pending, so the panic that is kept wakes it, and then so does the result that it waits for
abbrev pub both_wakes : List Entry
both_wakes = Wake 0 ∷ Wake 0 ∷ []

-- behind the panic come these wakes, and the node of the task ends
abbrev pub wakes_behind : List Entry → List Entry
wakes_behind wakes = aborter_joined ++ raises ++ wakes ++ (NodeEnd 1 ∷ [])

-- and the next round in this order
abbrev pub woken_in : List Entry → List ℕ → List Entry
woken_in wakes order = wakes_behind wakes ++ (Advance 2000000 ∷ Round order ∷ [])

-- up to the root's visit behind a panic that is kept
abbrev pub kept_panic : List Entry
kept_panic = woken_in both_wakes (0 ∷ 0 ∷ []) ++ visiting_root

-- the root isn't polled any more, and the run fails
abbrev pub reported_journal : List Entry
reported_journal =
    kept_panic
    ++ (Answered 0 Stopped ∷ Cleanup ∷ NodeEnd 0 ∷ Call (Some 0) (GiveUp 1) Done ∷ Call (Some 0) (CloseNode 0) Done ∷ Answered 0 Ended ∷ [])
    ++ finishing TaskPanicked

-- up to the root's visit behind a panic that was caught, which wakes who waits for the result alone
abbrev pub caught_panic : List Entry
caught_panic = woken_in (Wake 0 ∷ []) (0 ∷ []) ++ visiting_root

-- there is no result
abbrev pub caught_journal : List Entry
caught_journal = caught_panic ++ (Call (Some 0) (Join 1) (Refused Exited) ∷ []) ++ parent_ends

-- a near miss is among these: the root's visit behind a panic that is kept is answered so
abbrev pub answered_kept : AnswerKind → List Entry
answered_kept kind = kept_panic ++ (Answered 0 kind ∷ [])
