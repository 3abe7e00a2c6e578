-- What two pollers do next, of which the first that is ready is waited for.
use Rattle.std.specs.Prelude.{Option, Some, None, Result, Ok, Err}
use Rattle.either.specs.declared.Either.{Either}
use Rattle.either.specs.declared.Either.TheVariants.{Left, Right}
use Rattle.rt_base.specs.declared.error.Error.{Error}
use Rattle.rt_base.specs.declared.error.Error.TheVariants.{Closed, NoMemory}
use Rattle.rt_base.specs.declared.poll.Poll.{Poll}
use Rattle.rt_base.specs.declared.poll.Poll.TheVariants.{Ready, Pending}
use Rattle.rt_model.specs.Walk.{Step, Last, Gives, then, followed_by}
use Rattle.rt_core.specs.Completions.{Polls}
use Rattle.rt_core.specs.declared.either_of.EitherOf.{EitherOf}

-- two that are waited for, and what is left once one was ready
abbrev pub both : {P Q : Type 0} → P → Q → EitherOf P Q
both first second = record { pair = Some (first, second) }

abbrev pub neither : {P Q : Type 0} → EitherOf P Q
neither = record { pair = None }

-- which was ready: its answer, and the other
abbrev pub FirstOf : (V P W Q : Type 0) → Type 0
FirstOf V P W Q = Either (Result V Error × Q) (Result W Error × P)

-- what a poll of them gives
abbrev pub Choosing : (A O V P W Q : Type 0) → Type 0
Choosing A O V P W Q = Step A (EitherOf P Q) O (Poll (Result (FirstOf V P W Q) Error))

-- an answer, unless it is that memory is lacking
abbrev pub unless_lack : {V : Type 0} → Result V Error → Option (Result V Error)
unless_lack (Ok value) = Some (Ok value)
unless_lack (Err NoMemory) = None
unless_lack (Err error) = Some (Err error)

-- one of these answered so: it is given up, and the other comes back with the answer. Where memory is lacking both stay
abbrev pub parts : {A O V P W Q R : Type 0} → EitherOf P Q → Last A O → (R → FirstOf V P W Q) → Option R → Choosing A O V P W Q
parts pair spends told None = Gives (Ready (Err NoMemory)) pair
parts pair spends told (Some answer) = followed_by spends (Gives (Ready (Ok (told answer))) neither)

-- the second was polled so, and the first is pending
abbrev pub second_told : {A O V P W Q : Type 0} → (Q → Last A O) → P → Poll (Result W Error) → Q → Choosing A O V P W Q
second_told spends first Pending second = Gives Pending (both first second)
second_told spends first (Ready answer) second =
    parts (both first second) (spends second) (λ answer. Right (answer, first)) (unless_lack answer)

unfoldable pub polls_second : {A O V P W Q : Type 0} → Polls A O Q W → (Q → Last A O) → P → Q → Choosing A O V P W Q
polls_second polls spends first second = then (polls second) (second_told spends first)

-- the first was polled so
abbrev pub first_told : {A O V P W Q : Type 0} → Polls A O Q W → (P → Last A O) → (Q → Last A O) → Q → Poll (Result V Error) → P → Choosing A O V P W Q
first_told polls first_spends second_spends second Pending first = polls_second polls second_spends first second
first_told polls first_spends second_spends second (Ready answer) first =
    parts (both first second) (first_spends first) (λ answer. Left (answer, second)) (unless_lack answer)

-- the first is polled, and then the second where that is pending. Once one was ready it is closed
abbrev pub chooses : {A O V P W Q : Type 0} → Polls A O P V → Polls A O Q W → (P → Last A O) → (Q → Last A O) → Option (P × Q) → Choosing A O V P W Q
chooses first_polls second_polls first_spends second_spends None = Gives (Ready (Err Closed)) neither
chooses first_polls second_polls first_spends second_spends (Some pair) =
    then (first_polls pair.0) (first_told second_polls first_spends second_spends pair.1)

unfoldable pub either_polls : {A O V P W Q : Type 0} → Polls A O P V → Polls A O Q W → (P → Last A O) → (Q → Last A O) → EitherOf P Q → Choosing A O V P W Q
either_polls first_polls second_polls first_spends second_spends e =
    chooses first_polls second_polls first_spends second_spends e.pair

-- giving it up gives both up
abbrev pub spends_both : {A O P Q : Type 0} → (P → Last A O) → (Q → Last A O) → Option (P × Q) → Last A O
spends_both first_spends second_spends None = Gives tt tt
spends_both first_spends second_spends (Some pair) = followed_by (first_spends pair.0) (second_spends pair.1)

unfoldable pub either_spends : {A O P Q : Type 0} → (P → Last A O) → (Q → Last A O) → EitherOf P Q → Last A O
either_spends first_spends second_spends e = spends_both first_spends second_spends e.pair
