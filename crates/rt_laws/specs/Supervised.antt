-- Small runs with spawned tasks.
use Rattle.std.specs.Prelude.{ℕ, List, [], ◌∷◌, ◌++◌, Some, None, codes, false}
use Rattle.rt_base.specs.declared.error.Error.TheVariants.{Closed}
use Rattle.rt_base.specs.declared.execution.Execution.TheVariants.{Shared}
use Rattle.rt_audit.specs.declared.call.Call.TheVariants.{Child, CloseNode, Spawn, AbortTask, Join, GiveUp}
use Rattle.rt_audit.specs.declared.reply.CallReply.TheVariants.{Done, NodeAt, TaskAt, Pending as StillPending, Ready as IsReady, Refused}
use Rattle.rt_audit.specs.declared.answer.AnswerKind.TheVariants.{Pending as AnswersPending, Ready as AnswersReady, NoMemory as LacksMemory, Ended}
use Rattle.rt_audit.specs.declared.finish.FinishCause.TheVariants.{Completed, NoMemory}
use Rattle.rt_audit.specs.declared.entry.Entry.{Entry}
use Rattle.rt_audit.specs.declared.entry.Entry.TheVariants.{Start, Call, Event, Wake, Root, Round, Visit, Answer as Answered, NodeEnd, Advance, Cleanup}
use Rattle.rt_model.specs.declared.answer.Answer.{Answer}
use Rattle.rt_model.specs.declared.answer.Answer.TheVariants.{Pending, Ready}
use Rattle.rt_model.specs.Events.{process_task, task_fields}
use Rattle.rt_model.specs.Turns.{Plainly, Spawning, Heard, Plain, Handed}
use Rattle.rt_model.specs.Walk.{Step, Does, Spends, Gives, Last}
use Rattle.rt_model.specs.Tied.{Steps, Value, with_first, nothing}
use Rattle.rt_laws.specs.Examples.{opening, visiting_root, finishing}

-- an end that closes this node
abbrev pub closes : {A : Type 0} → ℕ → Last A ℕ
closes node = Spends (Plainly (CloseNode node)) (Gives tt tt)

-- the values behind a run that gave this output, and where one task was spawned, on no thread of its own
abbrev pub gave_beside : {A : Type 0} → ℕ → ℕ → Value A ℕ
gave_beside task number =
    record nothing { held = record { tasks = []; results = []; sent = []; executions = (task, Shared false) ∷ []; counts = [] }; output = Some number }

-- a task of the maker

abbrev pub side : List ℕ
side = codes "side"

-- a task that is ready at its first poll, with this value, and whose end closes this node
pub record Prompt : Type 0 where
  pub node : ℕ
  pub value : ℕ

abbrev pub prompt_root : Prompt
prompt_root = record { node = 0; value = 1 }

-- the maker gives the handle of its task up, or closes the context that came back
abbrev pub spawn_heard : ℕ → Heard ℕ → Step Prompt Prompt ℕ (Unit {0})
spawn_heard node (Plain (TaskAt task number)) = Spends (Plainly (GiveUp task)) (Gives tt prompt_root)
spawn_heard node _ = Spends (Plainly (CloseNode node)) (Gives tt prompt_root)

abbrev pub child_heard : Heard ℕ → Step Prompt Prompt ℕ (Unit {0})
child_heard (Plain (NodeAt node ended)) = Does (Spawning node (Shared false) (λ number. record { node = number; value = 5 })) (spawn_heard node)
child_heard _ = Gives tt prompt_root

-- the maker spawns a task that gives 5, and makes a root that gives 1
abbrev pub with_side : Steps Prompt ℕ
with_side =
    with_first
    (record { next = λ prompt now task. Gives (Ready prompt.value) prompt; last = λ prompt now task. closes prompt.node })
    (λ now. Does (Plainly (Child 0 side)) child_heard)

-- the maker's calls, up to the first round
abbrev pub side_spawned : List Entry
side_spawned =
    Start 0 0 None 1000000
    ∷ Call None (Child 0 side) (NodeAt 1 false)
    ∷ Call None (Spawn 1) (TaskAt 0 2)
    ∷ Call None (GiveUp 0) Done
    ∷ Root 1
    ∷ Round (0 ∷ 1 ∷ [])
    ∷ []

-- the task is ready
abbrev pub side_ready : List Entry
side_ready = Visit 0 ∷ Event process_task (task_fields 0 side) ∷ Answered 0 AnswersReady ∷ []

-- it ends, with its node
abbrev pub side_ends : List Entry
side_ends = Call (Some 0) (CloseNode 2) Done ∷ Answered 0 Ended ∷ NodeEnd 1 ∷ []

-- the root is ready, and ends
abbrev pub second_ready : List Entry
second_ready = Visit 1 ∷ Event process_task (task_fields 1 []) ∷ Answered 1 AnswersReady ∷ []

abbrev pub second_ends : List Entry
second_ends = Cleanup ∷ NodeEnd 0 ∷ Call (Some 1) (CloseNode 0) Done ∷ Answered 1 Ended ∷ []

abbrev pub side_journal : List Entry
side_journal = side_spawned ++ side_ready ++ side_ends ++ second_ready ++ second_ends ++ finishing Completed

-- a task that aborts itself

abbrev pub handle : List ℕ
handle = codes "h"

pub data Aborting : Type 0 where
  -- the root, before it spawns its task and behind its join
  Parent : Aborting
  -- the root, in a join of this task
  Joining : (task : ℕ) → Aborting
  -- the task, on a context of this node
  Aborter : (node : ℕ) → Aborting

-- what a root gives for a value that won't come, since its join was refused
abbrev pub without_value : ℕ
without_value = 2

-- with the value the handle is given up, and so it is where the join is refused
abbrev pub join_heard : ℕ → Heard ℕ → Step Aborting Aborting ℕ (Answer ℕ)
join_heard task (Handed value) = Spends (Plainly (GiveUp task)) (Gives (Ready value) Parent)
join_heard task (Plain (Refused error)) = Spends (Plainly (GiveUp task)) (Gives (Ready without_value) Parent)
join_heard task _ = Gives Pending (Joining task)

abbrev pub joins : ℕ → Step Aborting Aborting ℕ (Answer ℕ)
joins task = Does (Plainly (Join task)) (join_heard task)

abbrev pub aborter_heard : Heard ℕ → Step Aborting Aborting ℕ (Answer ℕ)
aborter_heard (Plain (TaskAt task number)) = joins task
aborter_heard _ = Gives Pending Parent

abbrev pub parent_heard : Heard ℕ → Step Aborting Aborting ℕ (Answer ℕ)
parent_heard (Plain (NodeAt node ended)) = Does (Spawning node (Shared false) (λ number. Aborter number)) aborter_heard
parent_heard _ = Gives Pending Parent

-- the task gives 4 behind the abort, or is pending
abbrev pub aborting_next : Answer ℕ → Aborting → ℕ → ℕ → Step Aborting Aborting ℕ (Answer ℕ)
aborting_next answer Parent now task = Does (Plainly (Child 0 handle)) parent_heard
aborting_next answer (Joining other) now task = joins other
aborting_next answer (Aborter node) now task = Does (Plainly (AbortTask task)) (λ heard. Gives answer (Aborter node))

abbrev pub aborting_last : Aborting → ℕ → ℕ → Last Aborting ℕ
aborting_last Parent now task = closes 0
aborting_last (Joining other) now task = Spends (Plainly (GiveUp other)) (closes 0)
aborting_last (Aborter node) now task = closes node

-- a root that spawns a task, which aborts itself and answers so, and joins it: the root gives the task's value, or what stands for none
abbrev pub aborting_root : Answer ℕ → Steps Aborting ℕ
aborting_root answer = with_first (record { next = aborting_next answer; last = aborting_last }) (λ now. Gives tt Parent)

-- the root spawns its task, in the poll under way
abbrev pub aborter_spawned : List Entry
aborter_spawned = Call (Some 0) (Child 0 handle) (NodeAt 1 false) ∷ Call (Some 0) (Spawn 1) (TaskAt 1 2) ∷ []

-- up to its join, and the next round
abbrev pub aborter_joined : List Entry
aborter_joined = opening ++ visiting_root ++ aborter_spawned ++ (Call (Some 0) (Join 1) StillPending ∷ Answered 0 AnswersPending ∷ Advance 1000000 ∷ Round (1 ∷ []) ∷ [])

-- the task aborts itself
abbrev pub aborts_itself : List Entry
aborts_itself = Visit 1 ∷ Event process_task (task_fields 1 handle) ∷ Call (Some 1) (AbortTask 1) Done ∷ []

abbrev pub aborter_closes : List Entry
aborter_closes = Call (Some 1) (CloseNode 2) Done ∷ Answered 1 Ended ∷ []

-- it is ready, ends and wakes the root
abbrev pub aborter_ends : List Entry
aborter_ends = (Answered 1 AnswersReady ∷ []) ++ aborter_closes ++ (Wake 0 ∷ NodeEnd 1 ∷ Advance 2000000 ∷ Round (0 ∷ []) ∷ [])

-- the result is handed out
abbrev pub joined : List Entry
joined = Call (Some 0) (Join 1) IsReady ∷ []

abbrev pub parent_ends : List Entry
parent_ends = (Call (Some 0) (GiveUp 1) Done ∷ Answered 0 AnswersReady ∷ Cleanup ∷ NodeEnd 0 ∷ Call (Some 0) (CloseNode 0) Done ∷ Answered 0 Ended ∷ []) ++ finishing Completed

abbrev pub aborting_journal : List Entry
aborting_journal = aborter_joined ++ aborts_itself ++ aborter_ends ++ visiting_root ++ joined ++ parent_ends

-- it is left pending, and ends in the same visit without a result, and then its node
abbrev pub aborter_stops : List Entry
aborter_stops = (Answered 1 AnswersPending ∷ []) ++ aborter_closes ++ (NodeEnd 1 ∷ [])

-- the end of the node wakes the task that it flags, and then who joins it. The task is ended, and isn't visited any more
abbrev pub both_woken : List Entry
both_woken = Wake 1 ∷ Wake 0 ∷ Advance 2000000 ∷ Round (1 ∷ 0 ∷ []) ∷ []

-- there is no result
abbrev pub refused : List Entry
refused = Call (Some 0) (Join 1) (Refused Closed) ∷ []

abbrev pub stopping_journal : List Entry
stopping_journal = aborter_joined ++ aborts_itself ++ aborter_stops ++ both_woken ++ visiting_root ++ refused ++ parent_ends

-- the root ends while it waits for its task
abbrev pub joiner_ends : List Entry
joiner_ends = Call (Some 0) (GiveUp 1) Done ∷ Call (Some 0) (CloseNode 0) Done ∷ Answered 0 Ended ∷ []

-- the task's poll lacks memory while the root waits for it, and the ends of both make their own calls
abbrev pub beside_journal : List Entry
beside_journal =
    aborter_joined
    ++ (Visit 1 ∷ Event process_task (task_fields 1 handle) ∷ Answered 1 LacksMemory ∷ Cleanup ∷ NodeEnd 0 ∷ [])
    ++ aborter_closes
    ++ joiner_ends
    ++ finishing NoMemory

-- the root lacks memory in the poll that spawns its task, and the end of the task closes this node
abbrev pub lacking_join : ℕ → List Entry
lacking_join node =
    opening
    ++ visiting_root
    ++ aborter_spawned
    ++ (Answered 0 LacksMemory ∷ Cleanup ∷ NodeEnd 0 ∷ Call (Some 1) (CloseNode node) Done ∷ Answered 1 Ended ∷ [])
    ++ joiner_ends
    ++ finishing NoMemory
