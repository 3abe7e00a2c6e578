-- What a crew does next.
use Rattle.std.specs.Prelude.{ℕ, codes, Result, Ok, Err}
use Rattle.rt_core.specs.Tasks.{Error, Poll, IsReady, IsPending, Answer, Pending, Ready, TaskSteps, Step, Last, Gives, then, followed_by, Context, root_context, starts, TaskHandle, task_polls, task_spends, Sleeper, sleep_for, sleep_polls, sleep_spends, closes}
use Rattle.rt_errand.specs.declared.crew.Crew.{Crew}
use Rattle.rt_errand.specs.declared.crew.RootPair.{RootPair}
use Rattle.rt_errand.specs.declared.crew.Work.{Work}
use Rattle.rt_errand.specs.declared.crew.Work.TheVariants.{Hires, Joins, Naps, Sleeps, Done}

abbrev pub Output : Type 0
Output = Result ℕ Error

-- a call, or an answer and the task after it
abbrev pub Next : Type 0
Next = Step Crew Crew Output (Answer Output)

abbrev pub at : Crew → Work → Crew
at c work = record c { work = work }

-- its worker's result was polled
abbrev pub joined : Crew → Poll (Result Output Error) → Next
joined c IsPending = Gives Pending c
joined c (IsReady (Ok number)) = Gives (Ready number) c
joined c (IsReady (Err error)) = Gives (Ready (Err error)) c

abbrev pub joins : Crew → TaskHandle Output → Next
joins c handle = then (task_polls handle) (λ answer handle. joined (at c (Joins handle)) answer)

-- a worker is on its context, at its nap
abbrev pub worker : ℕ → Context → Crew
worker number context = record { context = context; work = Naps number }

-- its worker was spawned, or refused
abbrev pub hired : Crew → Result (TaskHandle Output) Error → Next
hired c (Ok handle) = joins c handle
hired c (Err error) = Gives (Ready (Err error)) c

-- its sleep answered so
abbrev pub slept : Crew → ℕ → Poll (Result (Unit {0}) Error) → Next
slept c number IsPending = Gives Pending c
slept c number (IsReady (Ok over)) = Gives (Ready (Ok number)) c
slept c number (IsReady (Err error)) = Gives (Ready (Err error)) c

abbrev pub sleeps : Crew → ℕ → Sleeper → Next
sleeps c number sleep = then (sleep_polls sleep) (λ answer sleep. slept (at c (Sleeps sleep number)) number answer)

-- its sleep begins, or would end too late
abbrev pub naps : Crew → ℕ → Result Sleeper Error → Next
naps c number (Ok sleep) = sleeps c number sleep
naps c number (Err error) = Gives (Ready (Err error)) c

-- a poll, by what is to be done
abbrev pub polled : Crew → Work → ℕ → Next
polled c (Hires number) time = then (starts c.context (codes "worker") (worker number)) (λ handle told. hired (at c Done) handle)
polled c (Joins handle) time = joins (at c Done) handle
polled c (Naps number) time = naps (at c Done) number (sleep_for time 1000000)
polled c (Sleeps sleep number) time = sleeps (at c Done) number sleep
polled c Done time = Gives Pending c

-- its end gives up what it polls, and closes its context
abbrev pub ended : Crew → Work → Last Crew Output
ended c (Joins handle) = followed_by (task_spends handle) (closes c.context.node)
ended c (Sleeps sleep number) = followed_by (sleep_spends sleep) (closes c.context.node)
ended c work = closes c.context.node

abbrev pub crew_steps : TaskSteps Crew Output
crew_steps = record { next = λ c time task. polled c c.work time; last = λ c time number. ended c c.work }

-- the root, on node 0
abbrev pub crew_made : ℕ → Step Crew Crew Output (Unit {0})
crew_made number = Gives tt (record { context = root_context; work = Hires number })

-- a worker was spawned beside the root and its handle given up, or it was refused
abbrev pub parted : ℕ → Result (TaskHandle Output) Error → Step Crew Crew Output (Unit {0})
parted number (Ok handle) = followed_by (task_spends handle) (crew_made number)
parted number (Err error) = crew_made number

-- a root with a worker beside it
abbrev pub pair_made : RootPair → Step Crew Crew Output (Unit {0})
pair_made maker = then (starts root_context (codes "worker") (worker maker.number)) (λ handle told. parted maker.number handle)
