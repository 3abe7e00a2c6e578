-- What contracts see of contexts and of the handles of tasks, and what is read of what was heard of their calls.
use Rattle.std.specs.Prelude.{◌≡◌, ◌⊎◌, ℕ, List, [], Bool, false, true, Option, Some, None, Result, Ok, Err}
use Rattle.rt_base.specs.Label.{is_label, prefixed}
use Rattle.rt_base.specs.declared.error.Error.{Error}
use Rattle.rt_base.specs.declared.error.Error.TheVariants.{NoMemory, Closed as IsClosed, Metric}
use Rattle.rt_base.specs.declared.execution.Execution.{Execution}
use Rattle.rt_base.specs.declared.execution.Execution.TheVariants.{Shared}
use Rattle.rt_base.specs.declared.metric_error.MetricError.TheVariants.{BadLabel}
use Rattle.rt_base.specs.declared.name.Name.{Name}
use Rattle.rt_base.specs.declared.refused.Refused.{Refused}
use Rattle.rt_audit.specs.declared.reply.CallReply.{CallReply}
use Rattle.rt_audit.specs.declared.reply.CallReply.TheVariants.{NodeAt, TaskAt, Closed, Refused as IsRefused}
use Rattle.rt_audit.specs.declared.call.Call.TheVariants.{Child, CloseNode}
use Rattle.rt_model.specs.Turns.{Ask, Spawning, Plainly, Heard, Plain, Handed}
use Rattle.rt_model.specs.Walk.{Step, Gives, Spends, then}
use Rattle.rt_world.specs.World.{World}
use Rattle.rt_world.specs.Calls.{Made, SpentBy, IsRefused as IsUnmade}
use Rattle.rt_world.specs.Walked.{tells}
use Rattle.rt_core.specs.Handles.{TaskHandle, task_handle, held_handle}

-- the node on which a context is, its name, and where a task spawned on it runs
pub record Context : Type 0 where
  pub node : ℕ
  pub name : Name
  pub execution : Execution

-- a context on this node, with this name
abbrev pub context_on : ℕ → Name → Context
context_on node name = record { node = node; name = name; execution = Shared false }

-- that of a run's root
abbrev pub root_context : Context
root_context = context_on 0 (record { label = []; attributes = [] })

-- a child has the label of its parent, a low line and its own, and the same attributes
abbrev pub child_name : Name → List ℕ → Name
child_name name label = record { label = prefixed name.label label; attributes = name.attributes }

-- a key was refused for this
abbrev pub IsRefusedKey : List ℕ → Error → Type 0
IsRefusedKey key error = ((error ≡ Metric BadLabel) × (is_label key ≡ false)) ⊎ ((error ≡ NoMemory) × (is_label key ≡ true))

-- a call that made a child was heard so
abbrev pub child_replied : Context → List ℕ → CallReply → Result Context Error
child_replied context label (NodeAt node ended) = Ok (context_on node (child_name context.name label))
child_replied context label (IsRefused error) = Err error
child_replied context label _ = Err NoMemory

abbrev pub child_heard : {O : Type 0} → Context → List ℕ → Heard O → Result Context Error
child_heard context label (Plain reply) = child_replied context label reply
child_heard context label (Handed value) = Err NoMemory

-- a context makes a child with this label
unfoldable pub childs : {A O : Type 0} → Context → List ℕ → Step A (Unit {0}) O (Result Context Error)
childs context label = tells (Plainly (Child context.node label)) (child_heard context label)

-- a call that spawned was heard so
abbrev pub handle_replied : {O : Type 0} → CallReply → Result (TaskHandle O) Error
handle_replied (TaskAt task number) = Ok (task_handle task)
handle_replied Closed = Ok (held_handle (Err IsClosed))
handle_replied (IsRefused error) = Err error
handle_replied _ = Err NoMemory

abbrev pub handle_heard : {O : Type 0} → Heard O → Result (TaskHandle O) Error
handle_heard (Plain reply) = handle_replied reply
handle_heard (Handed value) = Err NoMemory

abbrev pub spawn_told : {O : Type 0} → Result (TaskHandle O) (Refused Context) → Result (TaskHandle O) Error
spawn_told (Ok handle) = Ok handle
spawn_told (Err refused) = Err refused.error

-- the same where something was given along: on a node that had ended it comes back
abbrev pub given_replied : {C O : Type 0} → C → CallReply → Result (TaskHandle O × Option C) Error
given_replied given (TaskAt task number) = Ok (task_handle task, None)
given_replied given Closed = Ok (held_handle (Err IsClosed), Some given)
given_replied given (IsRefused error) = Err error
given_replied given _ = Err NoMemory

abbrev pub given_heard : {C O : Type 0} → C → Heard O → Result (TaskHandle O × Option C) Error
given_heard given (Plain reply) = given_replied given reply
given_heard given (Handed value) = Err NoMemory

abbrev pub spawn_with_told : {C O : Type 0} → Result (TaskHandle O × Option C) (Refused (Context × C)) → Result (TaskHandle O × Option C) Error
spawn_with_told (Ok spawned) = Ok spawned
spawn_with_told (Err refused) = Err refused.error

-- what is made of a context
abbrev pub IsMakerOf : {A : Type 0} → (Context → A → Type 0) → (Context → A) → Type 0
IsMakerOf {A = A} post makes = (context : Context) (state : A) → post context state → state ≡ makes context

-- the state of a task that is spawned on a context, by the number of the fresh node of its own
abbrev pub makes_on : {A : Type 0} → Context → (Context → A) → ℕ → A
makes_on context makes number = makes (context_on number context.name)

-- a context asks for a task that is made so
abbrev pub spawning : {A O : Type 0} → Context → (Context → A) → Ask A O
spawning context makes = Spawning context.node context.execution (makes_on context makes)

-- and spawns it
unfoldable pub spawns : {A O : Type 0} → Context → (Context → A) → Step A (Unit {0}) O (Result (TaskHandle O) Error)
spawns context makes = tells (spawning context makes) handle_heard

-- the same with what is given along
unfoldable pub spawns_with : {A C O : Type 0} → Context → C → (Context → A) → Step A (Unit {0}) O (Result (TaskHandle O × Option C) Error)
spawns_with context given makes = tells (spawning context makes) (given_heard given)

-- a task was spawned on this child, or refused, and then the child is closed
abbrev pub settled : {A O : Type 0} → Context → Result (TaskHandle O) Error → Step A (Unit {0}) O (Result (TaskHandle O) Error)
settled child (Ok handle) = Gives (Ok handle) tt
settled child (Err error) = Spends (Plainly (CloseNode child.node)) (Gives (Err error) tt)

-- a child was made, and the task is spawned on it
abbrev pub starts_on : {A O : Type 0} → (Context → A) → Result Context Error → Step A (Unit {0}) O (Result (TaskHandle O) Error)
starts_on makes (Ok child) = then (spawns child makes) (λ told u. settled child told)
starts_on makes (Err error) = Gives (Err error) tt

-- a context spawns a task on a child with this label
unfoldable pub starts : {A O : Type 0} → Context → List ℕ → (Context → A) → Step A (Unit {0}) O (Result (TaskHandle O) Error)
starts context label makes = then (childs context label) (λ child u. starts_on makes child)

-- the task was spawned, with this handle
abbrev pub IsSpawned : {A O G : Type 0} → Context → (Context → A) → World A O G → World A O G → TaskHandle O → Type 0
IsSpawned context makes old new handle =
    (reply : CallReply) × Made old new (spawning context makes) reply × (handle_replied reply ≡ Ok handle)

-- the same of whatever may be made of a context: on the node of the task's own this state was made, and every maker that gives it there
-- has asked for the task. On a node that had ended nothing was made, and every maker has
abbrev pub IsAskedBy : {A O G : Type 0} → (Context → A → Type 0) → Context → World A O G → World A O G → CallReply → Type 0
IsAskedBy {A = A} post context old new (TaskAt task number) =
    let own = context_on number context.name in
    (state : A) × post own state × ((makes : Context → A) → makes own ≡ state → Made old new (spawning context makes) (TaskAt task number))
IsAskedBy {A = A} post context old new reply = (makes : Context → A) → Made old new (spawning context makes) reply

abbrev pub IsSpawnedBy : {A O G : Type 0} → (Context → A → Type 0) → Context → World A O G → World A O G → TaskHandle O → Type 0
IsSpawnedBy post context old new handle =
    (reply : CallReply) × IsAskedBy post context old new reply × (handle_replied reply ≡ Ok handle)

-- the same of a task that got what was given along
abbrev pub IsSpawnedWith : {A C O G : Type 0} → Context → (Context → A) → C → World A O G → World A O G → TaskHandle O × Option C → Type 0
IsSpawnedWith context makes given old new spawned =
    (reply : CallReply) × Made old new (spawning context makes) reply × (given_replied given reply ≡ Ok spawned)

abbrev pub IsSpawnedWithBy : {A C O G : Type 0} → (Context → A → Type 0) → Context → C → World A O G → World A O G → TaskHandle O × Option C → Type 0
IsSpawnedWithBy post context given old new spawned =
    (reply : CallReply) × IsAskedBy post context old new reply × (given_replied given reply ≡ Ok spawned)

-- a child was made, and then a task was spawned on it, with this handle
abbrev pub IsStarted : {A O G : Type 0} → (Context → A → Type 0) → Context → List ℕ → World A O G → World A O G → TaskHandle O → Type 0
IsStarted {A = A} {O = O} {G = G} post context label old new handle =
    (mid : World A O G) × (node : ℕ) × (ended : Bool) × Made old mid (Plainly (Child context.node label)) (NodeAt node ended) × IsSpawnedBy post (context_on node (child_name context.name label)) mid new handle

-- the child was refused, or it was made, and then the task was refused and the child closed
abbrev pub IsUnstarted : {A O G : Type 0} → Context → List ℕ → World A O G → World A O G → Error → Type 0
IsUnstarted {A = A} {O = O} {G = G} context label old new error =
    IsUnmade old new (Plainly (Child context.node label)) error
    ⊎ ((mid : World A O G) × (last : World A O G) × (node : ℕ) × (ended : Bool) × Made old mid (Plainly (Child context.node label)) (NodeAt node ended) × ((makes : Context → A) → IsUnmade mid last (spawning (context_on node (child_name context.name label)) makes) error) × SpentBy last new (Plainly (CloseNode node)))
