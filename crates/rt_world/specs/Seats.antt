-- The tasks whose states are in.
use Rattle.std.specs.Global.{Global}
use Rattle.std.specs.Prelude.{◌≡◌, ◌≤◌, ◌<◌, ◌+◌, ◌^◌, ℕ, List, [], ◌∷◌, true, false, Option, Some, None, Vec, map, is_some, get_or, length}
use Rattle.rt_model.specs.declared.result.Outcome.TheVariants.{There}
use Rattle.rt_model.specs.declared.result.TaskResult.{TaskResult}
use Rattle.rt_model.specs.Lists.{find, has_number, without_number}
use Rattle.rt_model.specs.Slots.{Slotted, is_open, is_there}
use Rattle.rt_model.specs.State.{Phase, Ending, State}
use Rattle.rt_model.specs.Turns.{Held, with_task}

-- a list, the first number that has a place, the next that will have one, and how many more have room
pub record Roomed (V : Type 0) : Type 0 where
  pub items : List V
  pub first : ℕ
  pub next : ℕ
  pub spare : ℕ

-- what is in places, the first of which has this number
abbrev pub seats_from : {A : Type 0} → ℕ → List (Option A) → List (ℕ × A)
seats_from n [] = []
seats_from n (None ∷ places) = seats_from (n + 1) places
seats_from n (Some a ∷ places) = (n, a) ∷ seats_from (n + 1) places

-- before a place nobody is in but the last to end
abbrev pub ArePassed : {A : Type 0} → Option ℕ → ℕ → ℕ → List (Option A) → Type 0
ArePassed last first place places = (i : ℕ) → i < place → is_some (get_or places i None) ≡ true → last ≡ Some (first + i)

-- the numbers fit, and the first places are passed
pub record ArePlaced {A : Type 0} (first : ℕ) (places : List (Option A)) (ended : ℕ) (last : Option ℕ) : Type 0 where
  pub fit : first + length places ≤ 2 ^ 64
  pub within : ended ≤ length places
  pub passed : ArePassed last first ended places

-- the state that a block holds, under its number
abbrev pub held_by : {A : Type 0} → ℕ → List A → List (ℕ × A) → List (ℕ × A)
held_by n [] rest = rest
held_by n (a ∷ more) rest = (n, a) ∷ rest

-- the states that blocks hold
unfoldable pub held_in : {A : Type 0} → List (ℕ × Vec A Global) → List (ℕ × A)
held_in [] = []
held_in (b ∷ bs) = held_by b.0 b.1.items (held_in bs)

-- each block holds one
unfoldable pub AreFull : {A : Type 0} → List (ℕ × Vec A Global) → Type 0
AreFull [] = Unit {0}
AreFull (b ∷ bs) = (length b.1.items ≡ 1) × AreFull bs

-- the state of a block is put in
abbrev pub with_top : {A : Type 0} → ℕ → List A → List (ℕ × A) → List (ℕ × A)
with_top k [] tasks = tasks
with_top k (a ∷ more) tasks = with_task k a tasks

abbrev pub put_top : {A O : Type 0} → ℕ → List A → Held A O → Held A O
put_top task block held = record held { tasks = with_top task block held.tasks }

abbrev pub numbers_of : {A : Type 0} → List (ℕ × A) → List ℕ
numbers_of tasks = map (λ x. x.0) tasks

-- the running tasks whose states are in
abbrev pub seated : Option ℕ → List ℕ → List ℕ
seated None running = running
seated (Some task) running = without_number task running

-- the numbers rise from one on, and stay below another
abbrev pub AreRising : ℕ → List ℕ → ℕ → Type 0
AreRising n [] next = n ≤ next
AreRising n (k ∷ ks) next = (n ≤ k) × AreRising (k + 1) ks next

abbrev pub OutRuns : Option ℕ → List ℕ → Type 0
OutRuns None running = Unit {0}
OutRuns (Some task) running = has_number task running ≡ true

-- each result that is there has its value
unfoldable pub AreThere : {O : Type 0} → List (ℕ × TaskResult) → List (ℕ × O) → Type 0
AreThere results outputs = (task : ℕ) (r : TaskResult) → find task results ≡ Some r → r.outcome ≡ There → is_some (find task outputs) ≡ true

-- and so has that of a task that ends with one, if it wasn't given up
unfoldable pub IsComing : {O : Type 0} → Phase → List (ℕ × TaskResult) → List (ℕ × O) → Type 0
IsComing phase results outputs = (task : ℕ) (left : List ℕ) → phase ≡ Ending task (Some There) left → is_some (find task results) ≡ true → is_some (find task outputs) ≡ true

-- no running task has a result yet
unfoldable pub AreOpen : List ℕ → List (ℕ × TaskResult) → Type 0
AreOpen running results = (task : ℕ) (r : TaskResult) → has_number task running ≡ true → find task results ≡ Some r → r.outcome ≡ There → ⊥

-- the tasks that are in are the running ones but the one that is out, each of these has its place, and each result that is there its value
pub record AreSeated {A O : Type 0} (tasks : Roomed (ℕ × A)) (outputs : Roomed (ℕ × O)) (out : Option ℕ) (s : State) : Type 0 where
  pub numbers : numbers_of tasks.items ≡ seated out s.running
  pub rising : AreRising tasks.first s.running tasks.next
  pub runs : OutRuns out s.running
  pub next : tasks.next ≡ s.numbers.next
  pub first : outputs.first ≡ tasks.first
  pub last : outputs.next ≡ tasks.next
  pub there : AreThere s.stood.results outputs.items
  pub coming : IsComing s.phase s.stood.results outputs.items
  pub unset : AreOpen s.running s.stood.results

-- something is held for a slot exactly where it was sent and not taken
unfoldable pub AreSent : {V : Type 0} → List (ℕ × TaskResult) → List (ℕ × V) → Type 0
AreSent results sent = (slot : ℕ) → is_some (find slot sent) ≡ is_there (find slot results)

-- no wait by an open slot was aborted
unfoldable pub AreWaited : List (ℕ × TaskResult) → Type 0
AreWaited results = (slot : ℕ) (r : TaskResult) → find slot results ≡ Some r → is_open (Some r) ≡ true → r.aborted ≡ false

-- each slot has its place, in which is what was sent into it
pub record AreSlotted {V : Type 0} (sent : Roomed (ℕ × V)) (slots : Slotted) : Type 0 where
  pub first : sent.first ≡ 0
  pub next : sent.next ≡ slots.count
  pub held : AreSent slots.results sent.items
  pub waited : AreWaited slots.results
