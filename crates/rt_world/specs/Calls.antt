-- What a call on the world leaves.
use Rattle.std.specs.Prelude.{◌≡◌, ◌⊎◌, ℕ, List, [], ◌∷◌, ◌++◌, true, false, Option, Some, None, Ok, Err}
use Rattle.rand_core.specs.Stream.{Stream}
use Rattle.rt_base.specs.declared.error.Error.{Error}
use Rattle.rt_base.specs.declared.error.Error.TheVariants.{NoMemory}
use Rattle.rt_base.specs.declared.execution.Execution.{Execution}
use Rattle.rt_audit.specs.declared.call.Call.TheVariants.{Join, Slots}
use Rattle.rt_audit.specs.declared.slot_call.SlotCall.TheVariants.{Poll as SlotPoll}
use Rattle.rt_audit.specs.declared.reply.CallReply.{CallReply}
use Rattle.rt_audit.specs.declared.reply.CallReply.TheVariants.{Done, TaskAt, Closed, Pending, Ready, Refused}
use Rattle.rt_model.specs.Lists.{find, has_number}
use Rattle.rt_model.specs.Slots.{is_there}
use Rattle.rt_model.specs.State.{Phase, Turn}
use Rattle.rt_model.specs.Turns.{Ask, Plainly, Spawning, call_of, moved_by, has_place}
use Rattle.rt_model.specs.Effects.{stood_called, drawn_called, is_closing}
use Rattle.rt_model.specs.Rules.{Answers, MayCall}
use Rattle.rt_machine.specs.Calls.{turn_in, marked}
use Rattle.rt_world.specs.World.{World, Drew}
use Rattle.rt_world.specs.declared.spawning.Spawned.{Spawned}
use Rattle.rt_world.specs.declared.spawning.Spawned.TheVariants.{Runs, Closed as IsClosed}

-- the mark of a call that ran out of memory stays
unfoldable pub Stays : Option (List Turn) → Option (List Turn) → Type 0
Stays old new = (made : List Turn) → old ≡ Some made → new ≡ Some made

-- whoever runs goes on running. In a cleanup nobody is added
unfoldable pub Grows : Phase → List ℕ → List ℕ → Type 0
Grows phase old new = (is_closing phase ≡ true → new ≡ old) × ((task : ℕ) → has_number task old ≡ true → has_number task new ≡ true)

-- whoever runs goes on running, a mark stays, and the generator gave what was drawn
unfoldable pub Lasts : {A O G : Type 0} → (G → Stream) → World A O G → World A O G → Type 0
Lasts stream old new = Grows old.told.state.phase old.told.state.running new.told.state.running × Stays old.lacked new.lacked × Drew stream old new

-- what every call leaves as it is, and that its generator gave what it drew
pub record Kept {A O G : Type 0} (stream : G → Stream) (old new : World A O G) : Type 0 where
  pub begin : new.told.begin ≡ old.told.begin
  pub given : new.told.given ≡ old.told.given
  pub past : new.told.past ≡ old.told.past
  pub phase : new.told.state.phase ≡ old.told.state.phase
  pub clock : new.told.state.clock ≡ old.told.state.clock
  pub root : new.told.state.root ≡ old.told.state.root
  pub panic : new.panic ≡ old.panic
  pub out : new.out ≡ old.out
  pub lasts : Lasts stream old new

-- the world is in the poll of this task, which may call it
pub record IsPolling {A O G : Type 0} (w : World A O G) (task : ℕ) : Type 0 where
  pub out : w.out ≡ Some task
  pub going : is_closing w.told.state.phase ≡ false
  pub calling : MayCall w.told.state w.out

-- what was asked was called, with this reply, which it may have
pub record Made {A O G : Type 0} (old new : World A O G) (ask : Ask A O) (reply : CallReply) : Type 0 where
  pub answers : Answers old.told.state (call_of ask) reply
  pub turns : new.told.state.turns ≡ old.told.state.turns ++ turn_in old.told.state old.out (call_of ask) reply ∷ []
  pub held : new.held ≡ moved_by old.told.state.stood old.held ask (call_of ask) reply
  pub lacked : new.lacked ≡ old.lacked
  pub stood : new.told.state.stood ≡ stood_called old.told.state.stood old.out (call_of ask) reply
  pub drawn : new.told.state.drawn ≡ drawn_called old.told.state.drawn (call_of ask) reply

-- the call ran out of memory, and nothing else has changed
abbrev pub lacking : {A O G : Type 0} → World A O G → World A O G
lacking w = record w { lacked = marked w.lacked w.told.state.turns }

-- the call was refused: it ran out of memory, or it was made and refused with this error
abbrev pub IsRefused : {A O G : Type 0} → World A O G → World A O G → Ask A O → Error → Type 0
IsRefused old new ask error = ((error ≡ NoMemory) × (new ≡ lacking old)) ⊎ Made old new ask (Refused error)

-- the call spends a token: where that isn't there it does nothing, and writes no entry
pub record SpentBy {A O G : Type 0} (old new : World A O G) (ask : Ask A O) : Type 0 where
  pub there : has_place old.told.state.stood (call_of ask) ≡ true → Made old new ask Done
  pub gone : has_place old.told.state.stood (call_of ask) ≡ false → new ≡ old

-- a result was polled: it isn't there, or this value was handed out
abbrev pub Joined : {A O G : Type 0} → World A O G → World A O G → ℕ → Option O → Type 0
Joined old new task None = Made old new (Plainly (Join task)) Pending
Joined old new task (Some value) = (find task old.held.results ≡ Some value) × Made old new (Plainly (Join task)) Ready

-- nothing was sent into a slot that is left there
pub record IsUnsent {A O G : Type 0} (w : World A O G) (slot : ℕ) : Type 0 where
  pub held : find slot w.held.sent ≡ None
  pub there : is_there (find slot w.told.state.stood.slots.results) ≡ false

-- a slot was polled: nothing is there yet, or this value was handed out
abbrev pub Received : {A O G : Type 0} → World A O G → World A O G → ℕ → Option O → Type 0
Received old new slot None = IsUnsent old slot × Made old new (Plainly (Slots (SlotPoll slot))) Pending
Received old new slot (Some value) = (find slot old.held.sent ≡ Some (Ok value)) × Made old new (Plainly (Slots (SlotPoll slot))) Ready

-- the poll of a slot was refused: it ran out of memory, or with this error, which is the one that was sent, if one was
abbrev pub IsUnreceived : {A O G : Type 0} → World A O G → World A O G → ℕ → Error → Type 0
IsUnreceived old new slot error =
    ((error ≡ NoMemory) × (new ≡ lacking old))
    ⊎ ((IsUnsent old slot ⊎ (find slot old.held.sent ≡ Some (Err error))) × Made old new (Plainly (Slots (SlotPoll slot))) (Refused error))

-- what came of a call that spawns, as its reply
abbrev pub spawned_reply : {M : Type 0} → Spawned M → CallReply
spawned_reply (Runs task node) = TaskAt task node
spawned_reply (IsClosed back) = Closed

-- where nothing was made, this maker is handed back
abbrev pub HandsBack : {M : Type 0} → Spawned M → M → Type 0
HandsBack (Runs task node) maker = Unit {0}
HandsBack (IsClosed back) maker = back ≡ maker

-- this is what a maker makes for each number of a node
abbrev pub IsMadeBy : {A : Type 0} → (ℕ → A → Type 0) → (ℕ → A) → Type 0
IsMadeBy {A = A} makes made = (node : ℕ) (state : A) → makes node state → state ≡ made node

-- a task was taken in: for the number of its node this state was made, one of those that may be, and every function that gives it there
-- has asked so. On a node that had ended nothing was made, and every function has
abbrev pub IsTakenIn : {A M O G : Type 0} → (ℕ → A → Type 0) → World A O G → World A O G → ℕ → Execution → Spawned M → Type 0
IsTakenIn {A = A} makes old new node execution (IsClosed back) = (made : ℕ → A) → Made old new (Spawning node execution made) Closed
IsTakenIn {A = A} makes old new node execution (Runs task own) =
    (state : A) × makes own state × ((made : ℕ → A) → made own ≡ state → Made old new (Spawning node execution made) (TaskAt task own))
