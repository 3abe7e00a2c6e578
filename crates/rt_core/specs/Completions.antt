-- What a completion does next: a value that comes once, from somewhere else than a task.
use Rattle.std.specs.Prelude.{Option, Some, None, Result, Err}
use Rattle.rt_base.specs.declared.error.Error.{Error}
use Rattle.rt_base.specs.declared.error.Error.TheVariants.{Closed, Aborted as IsAborted}
use Rattle.rt_base.specs.declared.poll.Poll.{Poll}
use Rattle.rt_base.specs.declared.poll.Poll.TheVariants.{Ready, Pending}
use Rattle.rt_model.specs.Walk.{Step, Last, Gives, then}
use Rattle.rt_core.specs.declared.completion.Completion.{Completion}
use Rattle.rt_core.specs.declared.completion.Source.{Source}
use Rattle.rt_core.specs.declared.completion.Source.TheVariants.{Held, Polled}
use Rattle.rt_core.specs.declared.completion.Stage.{Stage}
use Rattle.rt_core.specs.declared.completion.Stage.TheVariants.{Open, Answered, Aborted}

-- what a poll of a poller does, by its state
abbrev pub Polls : (A O P V : Type 0) → Type 0
Polls A O P V = P → Step A P O (Poll (Result V Error))

abbrev pub Completing : (A O P : Type 0) → Type 0
Completing A O P = Step A (Completion O P) O (Poll (Result O Error))

-- a result that is held is handed out once
abbrev pub held_answer : {O : Type 0} → Option (Result O Error) → Result O Error
held_answer None = Err Closed
held_answer (Some answer) = answer

-- how far a poller is that answered so
abbrev pub stage_by : {V : Type 0} → Poll V → Stage
stage_by Pending = Open
stage_by (Ready answer) = Answered

abbrev pub source_polls : {A O P : Type 0} → Polls A O P O → Source O P → Completing A O P
source_polls polls (Held answer) = Gives (Ready (held_answer answer)) (record { source = Held None; stage = Open })
source_polls polls (Polled state) = then (polls state) (λ answer state. Gives answer (record { source = Polled state; stage = stage_by answer }))

-- one that has answered is closed, and one that was aborted says so, even where its result was ready
unfoldable pub completion_polls : {A O P : Type 0} → Polls A O P O → Completion O P → Stage → Completing A O P
completion_polls polls c Open = source_polls polls c.source
completion_polls polls c Answered = Gives (Ready (Err Closed)) c
completion_polls polls c Aborted = Gives (Ready (Err IsAborted)) c

-- giving it up gives its poller up
unfoldable pub completion_spends : {A O P : Type 0} → (P → Last A O) → Source O P → Last A O
completion_spends spends (Held answer) = Gives tt tt
completion_spends spends (Polled state) = spends state
