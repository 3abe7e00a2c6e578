-- What a choice between handles does next.
use Rattle.std.specs.Prelude.{List, [], ◌∷◌, ◌++◌, map, Result, Err}
use Rattle.rt_base.specs.declared.error.Error.{Error}
use Rattle.rt_base.specs.declared.error.Error.TheVariants.{Closed}
use Rattle.rt_base.specs.declared.poll.Poll.{Poll}
use Rattle.rt_base.specs.declared.poll.Poll.TheVariants.{Ready, Pending}
use Rattle.rt_model.specs.Walk.{Step, Last, Gives, then, followed_by}
use Rattle.rt_core.specs.Completions.{Polls}
use Rattle.rt_core.specs.Handles.{handle_polls, handle_aborts, handle_spends, aborted}
use Rattle.rt_core.specs.declared.handle.Kind.{Kind}

-- what is done with each of these, in their order
unfoldable pub each : {A O H : Type 0} → (H → Last A O) → List H → Last A O
each does [] = Gives tt tt
each does (h ∷ handles) = followed_by (does h) (each does handles)

-- all are aborted, and then all are given up
unfoldable pub lets_go : {A O P : Type 0} → (P → Last A O) → List (Kind O P) → Last A O
lets_go spends handles = followed_by (each handle_aborts handles) (each (handle_spends spends) (map aborted handles))

-- what a choice gives: the answer of the handle that decides, or none yet
abbrev pub Choosing : (A O P : Type 0) → Type 0
Choosing A O P = Step A (List (Kind O P)) O (Poll (Result O Error))

-- no handle is ready. Of none at all nothing comes
abbrev pub undecided : {O P : Type 0} → List (Kind O P) → Poll (Result O Error)
undecided [] = Ready (Err Closed)
undecided (h ∷ handles) = Pending

-- a handle among these was polled so: where it is ready, its answer is that of all, and none of them is waited for any more
abbrev pub decided : {A O P : Type 0} → (P → Last A O) → List (Kind O P) → Choosing A O P → Poll (Result O Error) → Choosing A O P
decided spends handles next Pending = next
decided spends handles next (Ready answer) = followed_by (lets_go spends handles) (Gives (Ready answer) [])

-- the first of these were polled, and are pending. The others are polled in their order
unfoldable pub polls_rest : {A O P : Type 0} → Polls A O P O → (P → Last A O) → List (Kind O P) → List (Kind O P) → Choosing A O P
polls_rest polls spends pending [] = Gives (undecided pending) pending
polls_rest polls spends pending (h ∷ handles) =
    then (handle_polls polls h)
    (λ answer h. decided spends (pending ++ h ∷ handles) (polls_rest polls spends (pending ++ h ∷ []) handles) answer)

abbrev pub select_polls : {A O P : Type 0} → Polls A O P O → (P → Last A O) → List (Kind O P) → Choosing A O P
select_polls polls spends handles = polls_rest polls spends [] handles
