-- A run in which a task is woken twice and ends at the first of its two visits.
use Rattle.std.specs.Prelude.{ℕ, List, [], ◌∷◌, ◌++◌, map, Some, false}
use Rattle.rt_base.specs.declared.execution.Execution.TheVariants.{Shared}
use Rattle.rt_audit.specs.declared.call.Call.TheVariants.{Child, Join, GiveUp, Wake as WakeCall}
use Rattle.rt_audit.specs.declared.reply.CallReply.TheVariants.{Done, NodeAt, TaskAt}
use Rattle.rt_audit.specs.declared.answer.AnswerKind.TheVariants.{Pending as AnswersPending, Ready as AnswersReady}
use Rattle.rt_audit.specs.declared.finish.FinishCause.TheVariants.{Completed}
use Rattle.rt_audit.specs.declared.entry.Entry.{Entry}
use Rattle.rt_audit.specs.declared.entry.Entry.TheVariants.{Call, Event, Wake, Draw, Round, Visit, Answer as Answered, NodeEnd, Advance}
use Rattle.rt_model.specs.declared.answer.Answer.{Answer}
use Rattle.rt_model.specs.declared.answer.Answer.TheVariants.{Pending, Ready}
use Rattle.rt_model.specs.Events.{process_task, task_fields}
use Rattle.rt_model.specs.Turns.{Plainly, Spawning, Heard, Plain, Handed}
use Rattle.rt_model.specs.Walk.{Step, Does, Spends, Gives, Last}
use Rattle.rt_model.specs.Tied.{Steps, with_first}
use Rattle.rt_laws.specs.Examples.{visiting_root, root_ends, finishing}
use Rattle.rt_laws.specs.Supervised.{closes, handle, aborter_joined, aborter_closes, joined}

pub data Twice : Type 0 where
  -- the root, before it spawns its task and once it has given its answer
  Parent : Twice
  -- the root, in a join of this task
  Joining : (task : ℕ) → Twice
  -- the root, once it was handed this value
  Holding : (value : ℕ) → Twice
  -- the task, on a context of this node, before its first poll and behind it
  Fresh : (node : ℕ) → Twice
  Woken : (node : ℕ) → Twice

-- with the value the handle is given up, and the root waits for one round more
abbrev pub join_heard : ℕ → ℕ → Heard ℕ → Step Twice Twice ℕ (Answer ℕ)
join_heard own task (Handed value) =
    Spends (Plainly (GiveUp task)) (Does (Plainly (WakeCall own)) (λ heard. Gives Pending (Holding value)))
join_heard own task _ = Gives Pending (Joining task)

abbrev pub joins : ℕ → ℕ → Step Twice Twice ℕ (Answer ℕ)
joins own task = Does (Plainly (Join task)) (join_heard own task)

abbrev pub spawn_heard : ℕ → Heard ℕ → Step Twice Twice ℕ (Answer ℕ)
spawn_heard own (Plain (TaskAt task number)) = joins own task
spawn_heard own _ = Gives Pending Parent

abbrev pub child_heard : ℕ → Heard ℕ → Step Twice Twice ℕ (Answer ℕ)
child_heard own (Plain (NodeAt node ended)) = Does (Spawning node (Shared false) (λ number. Fresh number)) (spawn_heard own)
child_heard own _ = Gives Pending Parent

-- the task wakes itself twice in its first poll, and gives 7 in its second
abbrev pub twice_next : Twice → ℕ → ℕ → Step Twice Twice ℕ (Answer ℕ)
twice_next Parent now own = Does (Plainly (Child 0 handle)) (child_heard own)
twice_next (Joining task) now own = joins own task
twice_next (Holding value) now own = Gives (Ready value) Parent
twice_next (Fresh node) now own = Does (Plainly (WakeCall own)) (λ first. Does (Plainly (WakeCall own)) (λ second. Gives Pending (Woken node)))
twice_next (Woken node) now own = Gives (Ready 7) (Woken node)

abbrev pub twice_last : Twice → ℕ → ℕ → Last Twice ℕ
twice_last Parent now own = closes 0
twice_last (Joining task) now own = Spends (Plainly (GiveUp task)) (closes 0)
twice_last (Holding value) now own = closes 0
twice_last (Fresh node) now own = closes node
twice_last (Woken node) now own = closes node

-- a root that spawns a task, which wakes itself twice, and joins it
abbrev pub twice_root : Steps Twice ℕ
twice_root = with_first (record { next = twice_next; last = twice_last }) (λ now. Gives tt Parent)

-- a visit of the task begins
abbrev pub visiting_task : List Entry
visiting_task = Visit 1 ∷ Event process_task (task_fields 1 handle) ∷ []

-- it wakes itself twice and is left pending
abbrev pub woken_twice : List Entry
woken_twice =
    aborter_joined
    ++ visiting_task
    ++ (Call (Some 1) (WakeCall 1) Done ∷ Wake 1 ∷ Call (Some 1) (WakeCall 1) Done ∷ Wake 1 ∷ Answered 1 AnswersPending ∷ Advance 2000000 ∷ [])

-- the first of its two visits in the next round begins, for which this is drawn
abbrev pub visited_once : List Entry
visited_once = woken_twice ++ (Draw 6 ∷ Round (1 ∷ 1 ∷ []) ∷ []) ++ visiting_task

-- it is ready, and ends with its node. It was left pending, so the end of the node queues it behind who waits for it
abbrev pub ended_behind : List Entry → List Entry
ended_behind rest = visited_once ++ (Answered 1 AnswersReady ∷ []) ++ aborter_closes ++ (Wake 0 ∷ NodeEnd 1 ∷ rest)

-- where its number stands in this round again it is passed over. These are drawn for the next round, and it has this order
abbrev pub passed_by : List ℕ → List ℕ → List Entry
passed_by draws order = ended_behind (Wake 1 ∷ Advance 3000000 ∷ map Draw draws ++ Round order ∷ [])

-- these are drawn for the next round, and it is still to come
abbrev pub drawn_for_two : List ℕ → List Entry
drawn_for_two draws = ended_behind (Wake 1 ∷ Advance 3000000 ∷ map Draw draws)

-- an odd draw leaves the last place as it is
abbrev pub passed_in : List ℕ → List Entry
passed_in order = passed_by (7 ∷ []) order

-- the root is handed the value, and waits for one round more
abbrev pub waits_on : List Entry
waits_on = visiting_root ++ joined ++ (Call (Some 0) (GiveUp 1) Done ∷ Call (Some 0) (WakeCall 0) Done ∷ Wake 0 ∷ Answered 0 AnswersPending ∷ [])

-- behind the root comes the number of the task that has ended, which is passed over
abbrev pub twice_journal : List Entry
twice_journal =
    passed_in (0 ∷ 1 ∷ [])
    ++ waits_on
    ++ (Advance 4000000 ∷ Round (0 ∷ []) ∷ [])
    ++ visiting_root
    ++ (Answered 0 AnswersReady ∷ [])
    ++ root_ends
    ++ finishing Completed
