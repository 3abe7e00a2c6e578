-- What a group of handles that are joined does next.
use Rattle.std.specs.Prelude.{List, [], ◌∷◌, ◌++◌, map, Bool, true, false, Option, Some, None, Result, Ok, Err}
use Rattle.rt_base.specs.declared.error.Error.{Error}
use Rattle.rt_base.specs.declared.error.Error.TheVariants.{Closed, NoMemory}
use Rattle.rt_base.specs.declared.poll.Poll.{Poll}
use Rattle.rt_base.specs.declared.poll.Poll.TheVariants.{Ready, Pending}
use Rattle.rt_model.specs.Walk.{Step, Last, Gives, then, followed_by}
use Rattle.rt_core.specs.Completions.{Polls}
use Rattle.rt_core.specs.Handles.{handle_polls, handle_aborts, handle_spends, aborted}
use Rattle.rt_core.specs.Select.{each, lets_go}
use Rattle.rt_core.specs.declared.handle.Kind.{Kind}

-- the handles that are left, what the outputs of the others were turned into, and the failure that is to be answered
pub record Joins (O P V F : Type 0) : Type 0 where
  pub handles : List (Kind O P)
  pub outputs : List V
  pub failure : Option Error
  pub convert : F

-- what a poll of them gives
abbrev pub Joining : (A O P V F : Type 0) → Type 0
Joining A O P V F = Step A (Joins O P V F) O (Poll (Result (List V) Error))

-- one that joins these
abbrev pub joining : {O P V F : Type 0} → List (Kind O P) → F → Joins O P V F
joining handles convert = record { handles = handles; outputs = []; failure = None; convert = convert }

-- one that has answered
abbrev pub answered : {O P V F : Type 0} → F → Joins O P V F
answered convert = record { handles = []; outputs = []; failure = Some Closed; convert = convert }

-- whether memory is lacking
abbrev pub is_lack : Error → Bool
is_lack NoMemory = true
is_lack _ = false

abbrev pub lacks : {O : Type 0} → Result O Error → Bool
lacks (Ok output) = false
lacks (Err error) = is_lack error

-- what an answer is turned into
abbrev pub turned : {O V : Type 0} → (O → Result V Error) → Result O Error → Result V Error
turned turns (Ok output) = turns output
turned turns (Err error) = Err error

-- memory is lacking: what is left is given up
unfoldable pub gives_up : {A O P V F : Type 0} → (P → Last A O) → F → List (Kind O P) → Joining A O P V F
gives_up spends convert handles =
    followed_by (each (handle_spends spends) handles) (Gives (Ready (Err NoMemory)) (answered convert))

-- it goes on so, unless memory is lacking
abbrev pub unless_lacking : {A O P V F : Type 0} → (P → Last A O) → F → Bool → List (Kind O P) → Joining A O P V F → Joining A O P V F
unless_lacking spends convert true handles next = gives_up spends convert handles
unless_lacking spends convert false handles next = next

-- all were polled, and these are pending: what is answered, and what is left
abbrev pub told : {O P V : Type 0} → Error → List (Kind O P) → Poll (Result (List V) Error)
told failure [] = Ready (Err failure)
told failure (h ∷ pending) = Pending

abbrev pub waits : {O P V F : Type 0} → F → Error → List (Kind O P) → Joins O P V F
waits convert failure [] = answered convert
waits convert failure (h ∷ pending) = record { handles = h ∷ pending; outputs = []; failure = Some failure; convert = convert }

-- a handle was polled so, and others are left. It stays, or its answer is discarded and it is given up
abbrev pub discarded : {A O P V F : Type 0} → (P → Last A O) → F → Kind O P → List (Kind O P) → Joining A O P V F → Joining A O P V F → Poll (Result O Error) → Joining A O P V F
discarded spends convert h others stays goes Pending = stays
discarded spends convert h others stays goes (Ready answer) =
    followed_by (handle_spends spends h) (unless_lacking spends convert (lacks answer) others goes)

-- after a failure: some were polled and are pending, and the others are polled in their order
unfoldable pub drains : {A O P V F : Type 0} → Polls A O P O → (P → Last A O) → F → Error → List (Kind O P) → List (Kind O P) → Joining A O P V F
drains polls spends convert failure pending [] = Gives (told failure pending) (waits convert failure pending)
drains polls spends convert failure pending (h ∷ handles) =
    then (handle_polls polls h)
    (λ answer h. discarded spends convert h (handles ++ pending) (drains polls spends convert failure (pending ++ h ∷ []) handles) (drains polls spends convert failure pending handles) answer)

-- a handle failed so: it and those that are left are aborted, and it is given up. Those are polled to their ends, unless memory is
-- lacking
unfoldable pub fails : {A O P V F : Type 0} → Polls A O P O → (P → Last A O) → F → Error → Kind O P → List (Kind O P) → Joining A O P V F
fails polls spends convert error h handles =
    followed_by (each handle_aborts (h ∷ handles))
    (followed_by (handle_spends spends (aborted h))
    (unless_lacking spends convert (is_lack error) (map aborted handles) (drains polls spends convert error [] (map aborted handles))))

-- its answer was turned into this
abbrev pub judged : {A O P V F : Type 0} → Polls A O P O → (P → Last A O) → F → Kind O P → List (Kind O P) → (V → Joining A O P V F) → Result V Error → Joining A O P V F
judged polls spends convert h handles next (Ok value) = followed_by (handle_spends spends h) (next value)
judged polls spends convert h handles next (Err error) = fails polls spends convert error h handles

-- it was polled so
abbrev pub joined : {A O P V F : Type 0} → Polls A O P O → (P → Last A O) → (O → Result V Error) → F → List V → Kind O P → List (Kind O P) → (V → Joining A O P V F) → Poll (Result O Error) → Joining A O P V F
joined polls spends turns convert outputs h handles next Pending =
    Gives Pending (record { handles = h ∷ handles; outputs = outputs; failure = None; convert = convert })
joined polls spends turns convert outputs h handles next (Ready answer) =
    judged polls spends convert h handles next (turned turns answer)

-- the handles are joined in their order, up to the first that is pending or fails
unfoldable pub joins : {A O P V F : Type 0} → Polls A O P O → (P → Last A O) → (O → Result V Error) → F → List V → List (Kind O P) → Joining A O P V F
joins polls spends turns convert outputs [] = Gives (Ready (Ok outputs)) (answered convert)
joins polls spends turns convert outputs (h ∷ handles) =
    then (handle_polls polls h)
    (λ answer h. joined polls spends turns convert outputs h handles (λ value. joins polls spends turns convert (outputs ++ value ∷ []) handles) answer)

-- it joins, or waits for the ends after a failure
abbrev pub goes_on : {A O P V F : Type 0} → Polls A O P O → (P → Last A O) → (F → O → Result V Error) → Joins O P V F → Option Error → Joining A O P V F
goes_on polls spends converted j None = joins polls spends (converted j.convert) j.convert j.outputs j.handles
goes_on polls spends converted j (Some failure) = drains polls spends j.convert failure [] j.handles

unfoldable pub join_all_polls : {A O P V F : Type 0} → Polls A O P O → (P → Last A O) → (F → O → Result V Error) → Joins O P V F → Joining A O P V F
join_all_polls polls spends converted j = goes_on polls spends converted j j.failure

-- giving it up aborts those that are left, and then gives them up
abbrev pub join_all_spends : {A O P V F : Type 0} → (P → Last A O) → Joins O P V F → Last A O
join_all_spends spends j = lets_go spends j.handles
