-- What ties the calls and answers of a journal to the steps of the task type and of the maker.
use Rattle.std.specs.Prelude.{◌≡◌, ◌⊎◌, ◌-◌, ◌^◌, ℕ, List, [], ◌∷◌, ◌++◌, Option, Some, None, is_some, Bool, true, false, not, ◌&&◌, ◌||◌, if◌then◌else◌}
use Rattle.rt_audit.specs.declared.answer.AnswerKind.{AnswerKind}
use Rattle.rt_audit.specs.declared.answer.AnswerKind.TheVariants.{Pending as IsPending, Ready as IsReady, Panicked as IsPanicked, Stopped as IsStopped, NoMemory as LacksMemory, Ended as IsEnded}
use Rattle.rt_audit.specs.declared.entry.Entry.{Entry}
use Rattle.rt_audit.specs.declared.entry.Entry.TheVariants.{Root, Round, Visit, Answer as AnswerEntry, Advance, Skip, Fire, Cleanup, Crash}
use Rattle.rt_model.specs.declared.answer.Answer.{Answer}
use Rattle.rt_model.specs.declared.answer.Answer.TheVariants.{Pending, Ready, Panicked}
use Rattle.rt_model.specs.Lists.{find, without, is_some_number}
use Rattle.rt_model.specs.State.{State, Phase, Making}
use Rattle.rt_model.specs.Effects.{after}
use Rattle.rt_model.specs.Turns.{Held, with_task, put}
use Rattle.rt_model.specs.Walk.{Step, Last, Walks, Fronts, Breaks}

-- what a task type does, by the state of a task, the time and its number: in a poll, and in its end
pub record TaskSteps (A O : Type 0) : Type 0 where
  pub next : A → ℕ → ℕ → Step A A O (Answer O)
  pub last : A → ℕ → ℕ → Last A O

-- what a maker of the root does, by the time
abbrev pub First : (A O : Type 0) → Type 0
First A O = ℕ → Step A A O (Unit {0})

-- the steps of a task type, and of the maker
pub record Steps (A O : Type 0) : Type 0 where
  pub task : TaskSteps A O
  pub first : First A O

abbrev pub with_first : {A O : Type 0} → TaskSteps A O → First A O → Steps A O
with_first task first = record { task = task; first = first }

-- the values of a run: those that the world holds, the root's output, the text of a panic that is kept or that the root reported, a
-- root that was made and not taken in, and whether no part has run out of memory
pub record Value (A O : Type 0) : Type 0 where
  pub held : Held A O
  pub output : Option O
  pub panic : Option (List ℕ)
  pub unmade : Option A
  pub whole : Bool

-- no task, no output, and no part that ran out of memory
abbrev pub nothing : {A O : Type 0} → Value A O
nothing = record { held = record { tasks = []; results = []; sent = []; executions = []; counts = [] }; output = None; panic = None; unmade = None; whole = true }

-- with the state of this task taken out
abbrev pub taken : {A O : Type 0} → ℕ → Held A O → Held A O
taken k held = record held { tasks = without k held.tasks }

-- the number under which a root ends that was not taken in
abbrev pub no_number : ℕ
no_number = 2 ^ 64 - 1

-- a part that leaves these values in the world, and all else as it was
abbrev pub Leaves : {A O : Type 0} → Value A O → Held A O → Value A O → Type 0
Leaves v end w = w ≡ record v { held = end }

-- the calls since the visit began are those of the task's poll, which ends with this answer and leaves these values
pub record Polls {A O : Type 0} (p : Steps A O) (s : State) (task : ℕ) (held : Held A O) (answer : Answer O) (end : Held A O) : Type 0 where
  pub before : A
  pub left : A
  pub moved : Held A O
  pub there : find task held.tasks ≡ Some before
  pub walks : Walks (p.task.next before s.clock.time task) (taken task held) s.turns s.stood answer left moved
  pub is : end ≡ put task left moved

-- the poll of this task broke off: its own state is free, and the others are as its calls left them
pub record PollBreaks {A O : Type 0} (p : Steps A O) (s : State) (task : ℕ) (v w : Value A O) : Type 0 where
  pub before : A
  pub left : A
  pub moved : Held A O
  pub there : find task v.held.tasks ≡ Some before
  pub breaks : Breaks (p.task.next before s.clock.time task) (taken task v.held) s.turns s.stood moved ⊎ Fronts (p.task.next before s.clock.time task) (taken task v.held) s.turns moved
  pub is : w ≡ record v { held = put task left moved; whole = false }

-- the calls are those of the end of this state, or its end ran out of memory
abbrev pub EndsState : {A O : Type 0} → Steps A O → State → ℕ → A → Held A O → Value A O → Value A O → Type 0
EndsState p s number before held v w =
    (Walks (p.task.last before s.clock.time number) held s.turns s.stood tt tt w.held × (w ≡ record v { held = w.held }))
    ⊎ (Breaks (p.task.last before s.clock.time number) held s.turns s.stood w.held × (w ≡ record v { held = w.held; whole = false }))

-- the end of a running task
abbrev pub EndsTask : {A O : Type 0} → Steps A O → State → Value A O → ℕ → Value A O → Type 0
EndsTask {A = A} p s v task w = (a : A) × (find task v.held.tasks ≡ Some a) × EndsState p s task a (taken task v.held) v w

-- the calls are those of the maker, which makes this state
abbrev pub Makes : {A O : Type 0} → Steps A O → State → Held A O → A → Held A O → Type 0
Makes p s held made end = Walks (p.first s.clock.time) held s.turns s.stood tt made end

-- an output becomes the run's where it is the root's. Another task's is its result, if that wasn't given up
abbrev pub with_result : {A O : Type 0} → Bool → ℕ → O → Held A O → Held A O
with_result true k o held = record held { results = with_task k o (without k held.results) }
with_result false k o held = held

abbrev pub given : {A O : Type 0} → State → ℕ → O → Held A O → Value A O → Value A O
given s task o end v =
    if is_some_number task s.root then record v { held = end; output = Some o }
    else record v { held = with_result (is_some (find task s.stood.results)) task o end }

-- the text of the root's own panic is the run's. Another task's is kept, where none is caught and none is kept
abbrev pub kept_text : State → ℕ → List ℕ → Option (List ℕ) → Option (List ℕ)
kept_text s task text kept =
    if is_some_number task s.root || (not s.panicked && not s.clock.fixed.catch) then Some text else kept

abbrev pub MovesAnswer : {A O : Type 0} → Steps A O → State → Value A O → ℕ → AnswerKind → Value A O → Type 0
MovesAnswer {A = A} {O = O} p s v task IsPending w = (end : Held A O) × Polls p s task v.held Pending end × Leaves v end w
MovesAnswer {A = A} {O = O} p s v task IsReady w = (o : O) × (end : Held A O) × Polls p s task v.held (Ready o) end × (w ≡ given s task o end v)
MovesAnswer {A = A} {O = O} p s v task IsPanicked w =
    (text : List ℕ) × (end : Held A O) × Polls p s task v.held (Panicked text) end × (w ≡ record v { held = end; panic = kept_text s task text v.panic })
-- the root isn't polled
MovesAnswer p s v task IsStopped w = w ≡ v
MovesAnswer p s v task LacksMemory w = PollBreaks p s task v w
MovesAnswer p s v task IsEnded w = EndsTask p s v task w

-- the maker ran out of memory, and then the root that it made is free; or it said so itself, and made none
abbrev pub MakerBreaks : {A O : Type 0} → Steps A O → State → Value A O → Value A O → Type 0
MakerBreaks p s v w =
    (Breaks (p.first s.clock.time) v.held s.turns s.stood w.held × (w ≡ record v { held = w.held; unmade = w.unmade; whole = false }))
    ⊎ (Fronts (p.first s.clock.time) v.held s.turns w.held × (w ≡ record v { held = w.held; unmade = None; whole = false }))

-- a run that ends before its root is taken in: the maker made one, or it broke off
abbrev pub MovesCleanup : {A O : Type 0} → Steps A O → State → Value A O → Phase → Value A O → Type 0
MovesCleanup {A = A} p s v Making w =
    ((a : A) × Makes p s v.held a w.held × (w ≡ record v { held = w.held; unmade = Some a }))
    ⊎ MakerBreaks p s v w
MovesCleanup p s v _ w = w ≡ v

-- the end of a root that was not taken in. Without one nobody makes a call
abbrev pub MovesCrash : {A O : Type 0} → Steps A O → State → Value A O → Option A → Value A O → Type 0
MovesCrash p s v None w = (w ≡ v) × (s.turns ≡ [])
MovesCrash p s v (Some a) w = EndsState p s no_number a v.held (record v { unmade = None }) w

-- the entry moves the values so
abbrev pub Moves : {A O : Type 0} → Steps A O → State → Value A O → Entry → Value A O → Type 0
Moves {A = A} {O = O} p s v (Root task) w =
    (a : A) × (end : Held A O) × Makes p s v.held a end × (w ≡ record v { held = put task a end })
Moves p s v (AnswerEntry task kind) w = MovesAnswer p s v task kind w
Moves p s v Cleanup w = MovesCleanup p s v s.phase w
Moves p s v (Crash choices) w = MovesCrash p s v v.unmade w
-- after a part that ran out of memory the run doesn't go on
Moves p s v (Round order) w = (w ≡ v) × (v.whole ≡ true)
Moves p s v (Visit task) w = (w ≡ v) × (v.whole ≡ true)
Moves p s v (Advance now) w = (w ≡ v) × (v.whole ≡ true)
Moves p s v (Skip now) w = (w ≡ v) × (v.whole ≡ true)
Moves p s v (Fire alarm) w = (w ≡ v) × (v.whole ≡ true)
Moves p s v _ w = w ≡ v

-- each of the entries is tied to the steps, and moves the values from the first to the last
abbrev pub IsTied : {A O : Type 0} → Steps A O → State → Value A O → List Entry → Value A O → Type 0
IsTied p s v [] w = w ≡ v
IsTied {A = A} {O = O} p s v (e ∷ es) w = (u : Value A O) × Moves p s v e u × IsTied p (after s e) u es w
