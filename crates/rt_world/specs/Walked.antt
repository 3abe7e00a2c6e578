-- How far steps were walked between two worlds.
use Rattle.std.specs.Prelude.{◌≡◌, ◌++◌, ℕ, ℤ, List, Bool, Option, Some, None, true, is_some, Result, Ok, Err}
use Rattle.rt_base.specs.declared.error.Error.{Error}
use Rattle.rt_base.specs.declared.error.Error.TheVariants.{NoMemory as LacksMemory}
use Rattle.rt_base.specs.declared.no_memory.NoMemory.{NoMemory as OutOfMemory}
use Rattle.rt_base.specs.declared.poll.Poll.{Poll}
use Rattle.rt_base.specs.declared.poll.Poll.TheVariants.{Ready as IsReady}
use Rattle.rt_audit.specs.declared.reply.CallReply.TheVariants.{Done, NodeAt, SlotAt, SignalAt, CompletionAt, Pending, Number, Bytes, Refused}
use Rattle.rt_model.specs.declared.answer.Answer.{Answer}
use Rattle.rt_model.specs.declared.answer.Answer.TheVariants.{NoMemory}
use Rattle.rt_model.specs.State.{Turn, Stood}
use Rattle.rt_model.specs.Turns.{Ask, Heard, Plain, Handed, Held, Change, counted, Frees}
use Rattle.rt_model.specs.Walk.{Step, Last, Does, Gives, Spends as IsSpent, Counts, Walks, Fronts, Stops, then, followed_by, stood_before}
use Rattle.rt_super.specs.declared.stopper.Stopped.{Stopped}
use Rattle.rt_model.specs.Signals.{met_reply, shown_reply, stopped_reply}
use Rattle.rt_machine.specs.Calls.{sleep_reply}
use Rattle.rt_world.specs.World.{World}
use Rattle.rt_world.specs.Calls.{SpentBy, spawned_reply}
use Rattle.rt_world.specs.declared.spawning.Spawned.{Spawned}

-- a call ran out of memory after these turns: those among the further ones are a front of the walk, and what they made is
-- held. What the others made is free
pub record Broke {A L O R : Type 0} (step : Step A L O R) (held : Held A O) (past made more : List Turn) (stood : Stood) (end : Held A O) : Type 0 where
  pub front : List Turn
  pub rest : List Turn
  pub mid : Held A O
  pub are : more ≡ front ++ rest
  pub before : made ≡ past ++ front
  pub walks : Stops step held front (stood_before rest stood) mid
  pub frees : Frees mid rest end

-- these turns are those of the steps, which gave this answer and left this state; or without one they are a front of them
abbrev pub EndsWith : {A L O R : Type 0} → Step A L O R → Held A O → List Turn → Stood → Option (R × L) → Held A O → Type 0
EndsWith step held turns stood None end = Fronts step held turns end
EndsWith step held turns stood (Some given) end = Walks step held turns stood given.0 given.1 end

-- from the one world to the other these turns were made, which end so where no call ran out of memory
pub record Turned {A L O R G : Type 0} (step : Step A L O R) (old new : World A O G) (given : Option (R × L)) : Type 0 where
  pub more : List Turn
  pub turns : new.told.state.turns ≡ old.told.state.turns ++ more
  pub stood : stood_before more new.told.state.stood ≡ old.told.state.stood
  pub frees : Frees old.held more new.held
  pub marked : (made : List Turn) → old.lacked ≡ Some made → new.lacked ≡ Some made
  pub ends : new.lacked ≡ None → EndsWith step old.held more new.told.state.stood given new.held
  pub broke : (made : List Turn) → old.lacked ≡ None → new.lacked ≡ Some made → Broke step old.held old.told.state.turns made more new.told.state.stood new.held

-- the steps were walked, and gave this answer
unfoldable pub Walked : {A L O R G : Type 0} → Step A L O R → World A O G → World A O G → R → L → Type 0
Walked step old new answer left = Turned step old new (Some (answer, left))

-- the same of what gives nothing: an end, or what gives a poller up
unfoldable pub Spent : {A O G : Type 0} → Last A O → World A O G → World A O G → Type 0
Spent step old new = Turned step old new (Some (tt, tt))

-- an answer of being out of memory breaks off
abbrev pub answered_by : {A O : Type 0} → Answer O → A → Option (Answer O × A)
answered_by NoMemory left = None
answered_by answer left = Some (answer, left)

-- the same of a poll of a task
unfoldable pub Polled : {A O G : Type 0} → Step A A O (Answer O) → World A O G → World A O G → Answer O → A → Type 0
Polled step old new answer left = Turned step old new (answered_by answer left)

-- without a root the maker broke off
abbrev pub root_by : {A : Type 0} → Result A OutOfMemory → Option (Unit {0} × A)
root_by (Ok root) = Some (tt, root)
root_by (Err lack) = None

-- the same of a maker
unfoldable pub Rooted : {A O G : Type 0} → Step A A O (Unit {0}) → World A O G → World A O G → Result A OutOfMemory → Type 0
Rooted step old new result = Turned step old new (root_by result)

-- what a poll of a poller or a call leaves: its steps were walked, and so whoever goes on from here has walked them and the rest, in
-- a poll, an end or a maker
pub record Goes {A L O R G : Type 0} (step : Step A L O R) (old new : World A O G) (answer : R) (left : L) : Type 0 where
  pub walked : Walked step old new answer left
  pub onward : (more : R → L → Step A A O (Answer O)) (end : World A O G) (given : Answer O) (state : A) → Polled (more answer left) new end given state → Polled (then step more) old end given state
  pub ends : (more : R → L → Last A O) (end : World A O G) → Spent (more answer left) new end → Spent (then step more) old end
  pub makes : (more : R → L → Step A A O (Unit {0})) (end : World A O G) (root : Result A OutOfMemory) → Rooted (more answer left) new end root → Rooted (then step more) old end root

-- what a call leaves: whoever goes on from what was heard of it has made it and walked the rest, in a poll, an end or a maker. Where
-- it ran out of memory, what follows is free
pub record Called {A O G : Type 0} (ask : Ask A O) (old new : World A O G) (heard : Heard O) : Type 0 where
  pub onward : (on : Heard O → Step A A O (Answer O)) (end : World A O G) (given : Answer O) (state : A) → Polled (on heard) new end given state → Polled (Does ask on) old end given state
  pub ends : (on : Heard O → Last A O) (end : World A O G) → Spent (on heard) new end → Spent (Does ask on) old end
  pub makes : (on : Heard O → Step A A O (Unit {0})) (end : World A O G) (root : Result A OutOfMemory) → Rooted (on heard) new end root → Rooted (Does ask on) old end root

-- a call, and what is read of what was heard of it
unfoldable pub tells : {A O V : Type 0} → Ask A O → (Heard O → V) → Step A (Unit {0}) O V
tells ask read = Does ask (λ heard. Gives (read heard) tt)

-- what is known of the calls
abbrev pub wake_told : {O : Type 0} → Result (Unit {0}) Error → Heard O
wake_told (Ok done) = Plain Done
wake_told (Err error) = Plain (Refused error)

abbrev pub sleep_told : {O : Type 0} → Result (Option ℕ) OutOfMemory → Heard O
sleep_told (Ok told) = Plain (sleep_reply told)
sleep_told (Err lack) = Plain (Refused LacksMemory)

abbrev pub slot_told : {O : Type 0} → Result ℕ OutOfMemory → Heard O
slot_told (Ok slot) = Plain (SlotAt slot)
slot_told (Err lack) = Plain (Refused LacksMemory)

-- the number of a signaler, and of its first signal and its completion
abbrev pub signaler_told : {O : Type 0} → Result ℕ OutOfMemory → Heard O
signaler_told (Ok signal) = Plain (SignalAt signal)
signaler_told (Err lack) = Plain (Refused LacksMemory)

abbrev pub clone_told : {O : Type 0} → Result ℕ Error → Heard O
clone_told (Ok signal) = Plain (SignalAt signal)
clone_told (Err error) = Plain (Refused error)

abbrev pub shown_told : {O : Type 0} → Result (Poll ℤ) Error → Heard O
shown_told (Ok shown) = Plain (shown_reply shown)
shown_told (Err error) = Plain (Refused error)

abbrev pub met_told : {O : Type 0} → Result (Poll (Unit {0})) Error → Heard O
met_told (Ok met) = Plain (met_reply met)
met_told (Err error) = Plain (Refused error)

abbrev pub stop_told : {O : Type 0} → Result ℕ OutOfMemory → Heard O
stop_told (Ok completion) = Plain (CompletionAt completion)
stop_told (Err lack) = Plain (Refused LacksMemory)

abbrev pub stopped_told : {O : Type 0} → Result Stopped OutOfMemory → Heard O
stopped_told (Ok stopped) = Plain (stopped_reply stopped)
stopped_told (Err lack) = Plain (Refused LacksMemory)

-- a number that was drawn
abbrev pub number_told : {O : Type 0} → Result ℕ OutOfMemory → Heard O
number_told (Ok number) = Plain (Number number)
number_told (Err lack) = Plain (Refused LacksMemory)

-- bytes that were drawn
abbrev pub filled_told : {O : Type 0} → List ℕ → Result (Unit {0}) OutOfMemory → Heard O
filled_told bytes (Ok done) = Plain (Bytes bytes)
filled_told bytes (Err lack) = Plain (Refused LacksMemory)

abbrev pub auditor_told : {O : Type 0} → Result (List ℕ) OutOfMemory → Heard O
auditor_told (Ok digest) = Plain (Bytes digest)
auditor_told (Err lack) = Plain (Refused LacksMemory)

abbrev pub ends_told : {O : Type 0} → Result (ℕ × ℕ) Error → Heard O
ends_told (Ok ends) = Plain (SlotAt ends.0)
ends_told (Err error) = Plain (Refused error)

abbrev pub child_told : {O : Type 0} → Result (ℕ × Bool) Error → Heard O
child_told (Ok made) = Plain (NodeAt made.0 made.1)
child_told (Err error) = Plain (Refused error)

abbrev pub spawn_told : {M O : Type 0} → Result (Spawned M) (Error × M) → Heard O
spawn_told (Ok spawned) = Plain (spawned_reply spawned)
spawn_told (Err back) = Plain (Refused back.0)

-- a poll of a result hands out what is there
abbrev pub value_told : {O : Type 0} → Option O → Heard O
value_told None = Plain Pending
value_told (Some value) = Handed value

abbrev pub join_told : {O : Type 0} → Result (Option O) Error → Heard O
join_told (Ok value) = value_told value
join_told (Err error) = Plain (Refused error)

-- a poller that ran out of memory itself returns that
abbrev pub SaysLack : {A O G V : Type 0} → World A O G → World A O G → Poll (Result V Error) → Type 0
SaysLack old new answer = old.lacked ≡ None → is_some new.lacked ≡ true → answer ≡ IsReady (Err LacksMemory)

-- the same of what gives nothing
pub record Spends {A O G : Type 0} (step : Last A O) (old new : World A O G) : Type 0 where
  pub spent : Spent step old new
  pub ends : (next : Last A O) (end : World A O G) → Spent next new end → Spent (followed_by step next) old end
  pub onward : (next : Step A A O (Answer O)) (end : World A O G) (given : Answer O) (state : A) → Polled next new end given state → Polled (followed_by step next) old end given state
  pub makes : (next : Step A A O (Unit {0})) (end : World A O G) (root : Result A OutOfMemory) → Rooted next new end root → Rooted (followed_by step next) old end root

-- the same of a call that spends a token
pub record Closes {A O G : Type 0} (ask : Ask A O) (old new : World A O G) : Type 0 where
  pub spent : SpentBy old new ask
  pub ends : (next : Last A O) (end : World A O G) → Spent next new end → Spent (IsSpent ask next) old end
  pub onward : (next : Step A A O (Answer O)) (end : World A O G) (given : Answer O) (state : A) → Polled next new end given state → Polled (IsSpent ask next) old end given state
  pub makes : (next : Step A A O (Unit {0})) (end : World A O G) (root : Result A OutOfMemory) → Rooted next new end root → Rooted (IsSpent ask next) old end root

-- a metric was changed, and nothing else: whoever goes on from here has changed it and walked the rest
pub record Counted {A O G : Type 0} (change : Change) (old new : World A O G) : Type 0 where
  pub is : new ≡ record old { held = counted change old.held }
  pub ends : (next : Last A O) (end : World A O G) → Spent next new end → Spent (Counts change next) old end
  pub onward : (next : Step A A O (Answer O)) (end : World A O G) (given : Answer O) (state : A) → Polled next new end given state → Polled (Counts change next) old end given state
  pub makes : (next : Step A A O (Unit {0})) (end : World A O G) (root : Result A OutOfMemory) → Rooted next new end root → Rooted (Counts change next) old end root

-- the steps of a poll were walked up to where they go on as others do: whoever walks those from here has walked these
pub record Leads {A O G : Type 0} (step other : Step A A O (Answer O)) (old new : World A O G) : Type 0 where
  pub leads : (end : World A O G) (answer : Answer O) (left : A) → Polled other new end answer left → Polled step old end answer left

-- a part of a poll: it goes on as others do, or gives the answer
abbrev pub Advanced : {A O G : Type 0} → Step A A O (Answer O) → Step A A O (Answer O) → World A O G → World A O G → Option (Answer O) → A → Type 0
Advanced step other old new None left = Leads step other old new
Advanced step other old new (Some answer) left = Polled step old new answer left
