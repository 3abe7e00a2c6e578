-- What a task, a poller or a maker does: a tree of calls, and the walks through it.
use Rattle.std.specs.Prelude.{◌≡◌, List, [], ◌∷◌, ◌++◌, true, false}
use Rattle.rt_audit.specs.declared.reply.CallReply.TheVariants.{Done}
use Rattle.rt_model.specs.State.{Stood, Turn}
use Rattle.rt_model.specs.Turns.{Ask, Heard, Held, Change, counted, IsCounted, Asks, Frees, call_of, heard_of, moved, has_place}

-- what is done next: a call, and then what follows from what was heard of it; a token spent, of which nothing is heard; a
-- metric changed, which writes no entry; or an answer and the state after it
pub data Step (A L O R : Type 0) : Type 0 where
  Does : (ask : Ask A O) → (on : Heard O → Step A L O R) → Step A L O R
  Spends : (ask : Ask A O) → (next : Step A L O R) → Step A L O R
  Counts : (change : Change) → (next : Step A L O R) → Step A L O R
  Gives : (answer : R) → (left : L) → Step A L O R

-- what is done in an end, or to give a poller up, has no answer
abbrev pub Last : (A O : Type 0) → Type 0
Last A O = Step A (Unit {0}) O (Unit {0})

-- no call is left: what is spent has no place, and then the answer is given
abbrev pub Gave : {A L O R : Type 0} → Stood → Held A O → Step A L O R → R → L → Held A O → Type 0
Gave stood held (Does ask on) answer left end = ⊥
Gave stood held (Spends ask next) answer left end = (has_place stood (call_of ask) ≡ false) × Gave stood held next answer left end
Gave stood held (Counts change next) answer left end = Gave stood (counted change held) next answer left end
Gave stood held (Gives given state) answer left end = (given ≡ answer) × (state ≡ left) × (end ≡ held)

-- the next call is this turn, and it goes on from there
abbrev pub Goes : {A L O R : Type 0} → (Held A O → Step A L O R → Type 0) → Held A O → Step A L O R → Turn → Type 0
Goes more held (Does ask on) t = Asks held ask t × more (moved held ask t) (on (heard_of held t))
Goes more held (Spends ask next) t =
    (has_place t.stood (call_of ask) ≡ true → (t.call ≡ call_of ask) × (t.reply ≡ Done) × more (moved held ask t) next)
    × (has_place t.stood (call_of ask) ≡ false → Goes more held next t)
Goes more held (Counts change next) t = Goes more (counted change held) next t
Goes more held (Gives given state) t = ⊥

-- with these values held, these turns are made one after another, and then this answer is given, in this state and with these values.
-- `stood` is what is there when it is given
abbrev pub Walks : {A L O R : Type 0} → Step A L O R → Held A O → List Turn → Stood → R → L → Held A O → Type 0
Walks step held [] stood answer left end = Gave stood held step answer left end
Walks step held (t ∷ turns) stood answer left end =
    Goes (λ held step. Walks step held turns stood answer left end) held step t

-- these turns are made one after another, are a front of the walk, and leave these values, but for the metrics'
abbrev pub Fronts : {A L O R : Type 0} → Step A L O R → Held A O → List Turn → Held A O → Type 0
Fronts step held [] end = IsCounted held end
Fronts step held (t ∷ turns) end = Goes (λ held step. Fronts step held turns end) held step t

-- what was there before these turns, when this is there after them
abbrev pub stood_before : List Turn → Stood → Stood
stood_before [] stood = stood
stood_before (t ∷ turns) stood = t.stood

-- a call comes next that may run out of memory, after what is spent and has no place
abbrev pub Lacks : {A L O R : Type 0} → Stood → Step A L O R → Type 0
Lacks stood (Does ask on) = Unit {0}
Lacks stood (Spends ask next) = (has_place stood (call_of ask) ≡ false) × Lacks stood next
Lacks stood (Counts change next) = Lacks stood next
Lacks stood (Gives answer left) = ⊥

-- these turns are made one after another and leave these values, and then a call runs out of memory
abbrev pub Stops : {A L O R : Type 0} → Step A L O R → Held A O → List Turn → Stood → Held A O → Type 0
Stops step held [] stood end = Lacks stood step × IsCounted held end
Stops step held (t ∷ turns) stood end = Goes (λ held step. Stops step held turns stood end) held step t

-- a part in which a call ran out of memory: its turns up to there are a front of the walk, at which a call comes that may run
-- out of it, and what
-- they made is held. The calls that came after are free, and so is what those made
pub record Breaks {A L O R : Type 0} (step : Step A L O R) (held : Held A O) (turns : List Turn) (stood : Stood) (end : Held A O) : Type 0 where
  pub front : List Turn
  pub rest : List Turn
  pub mid : Held A O
  pub are : turns ≡ front ++ rest
  pub walks : Stops step held front (stood_before rest stood) mid
  pub frees : Frees mid rest end

-- one after the other: what follows goes by the answer and the state that the first leaves
unfoldable pub then : {A L O R M Q : Type 0} → Step A L O R → (R → L → Step A M O Q) → Step A M O Q
then (Does ask on) more = Does ask (λ heard. then (on heard) more)
then (Spends ask next) more = Spends ask (then next more)
then (Counts change next) more = Counts change (then next more)
then (Gives answer left) more = more answer left

-- the same, where nothing follows from them
unfoldable pub followed_by : {A L O R M Q : Type 0} → Step A L O R → Step A M O Q → Step A M O Q
followed_by first next = then first (λ answer left. next)
