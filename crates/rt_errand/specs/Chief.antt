-- What a chief does next: it hires a worker, and waits for it in a way of its own.
use Rattle.std.specs.Prelude.{ℕ, codes, List, [], ◌∷◌, None, Result, Ok, Err}
use Rattle.rt_core.specs.Tasks.{Error, TimedOut, Poll, IsReady, IsPending, Answer, Pending, Ready, TaskSteps, Step, Last, Gives, then, followed_by, Context, root_context, starts, TaskHandle, held_handle, task_polls, task_spends, no_polls, no_spends, select_polls, lets_go, Sleeper, sleep_for, sleep_polls, sleep_spends, closes, timeout_polls, timeout_spends}
use Rattle.rt_core.specs.declared.timeout.Timeout.{Timeout}
use Rattle.rt_errand.specs.declared.chief.Chief.{Chief}
use Rattle.rt_errand.specs.declared.chief.Plan.{Plan}
use Rattle.rt_errand.specs.declared.chief.Plan.TheVariants.{Watches as ToWatch, Limits as ToLimit, Chooses as ToChoose, Holds as ToHold}
use Rattle.rt_errand.specs.declared.chief.RootChief.{RootChief}
use Rattle.rt_errand.specs.declared.chief.Work.{Work}
use Rattle.rt_errand.specs.declared.chief.Work.TheVariants.{Begins, Watches, Limits, Chooses, Naps, Sleeps, Done}

abbrev pub Output : Type 0
Output = Result ℕ Error

-- a call, or an answer and the task after it
abbrev pub Next : Type 0
Next = Step Chief Chief Output (Answer Output)

abbrev pub Joined : Type 0
Joined = Poll (Result Output Error)

abbrev pub at : Chief → Work → Chief
at c work = record c { work = work }

-- what it waits for answered so
abbrev pub answered : Chief → Joined → Next
answered c IsPending = Gives Pending c
answered c (IsReady (Ok output)) = Gives (Ready output) c
answered c (IsReady (Err error)) = Gives (Ready (Err error)) c

-- its sleep answered so
abbrev pub over : Chief → Poll (Result (Unit {0}) Error) → Next
over c IsPending = Gives Pending c
over c (IsReady (Ok done)) = Gives (Ready (Err TimedOut)) c
over c (IsReady (Err error)) = Gives (Ready (Err error)) c

-- its worker is pending, and then its sleep is polled
abbrev pub judged : Chief → Sleeper → TaskHandle Output → Joined → Next
judged c sleep handle IsPending = then (sleep_polls sleep) (λ slept sleep. over (at c (Watches handle sleep)) slept)
judged c sleep handle (IsReady (Ok output)) = Gives (Ready output) (at c (Watches handle sleep))
judged c sleep handle (IsReady (Err error)) = Gives (Ready (Err error)) (at c (Watches handle sleep))

abbrev pub watches : Chief → Sleeper → TaskHandle Output → Next
watches c sleep handle = then (task_polls handle) (λ answer handle. judged c sleep handle answer)

abbrev pub limits : Chief → Timeout (TaskHandle Output) → ℕ → ℕ → Next
limits c limit time task =
    then (timeout_polls (λ h now task. task_polls h) limit time task) (λ answer limit. answered (at c (Limits limit)) answer)

abbrev pub chooses : Chief → List (TaskHandle Output) → Next
chooses c handles =
    then (select_polls no_polls no_spends handles) (λ answer handles. answered (at c (Chooses handles)) answer)

-- it watches its worker, where its sleep doesn't end too late
abbrev pub watching : Chief → TaskHandle Output → Result Sleeper Error → Next
watching c handle (Ok sleep) = watches c sleep handle
watching c handle (Err error) = followed_by (task_spends handle) (Gives (Ready (Err error)) c)

-- under a limit that begins here
abbrev pub limiting : Chief → ℕ → TaskHandle Output → ℕ → ℕ → Next
limiting c duration handle time task = limits c (record { state = handle; duration = duration; sleep = None }) time task

-- it has this handle, and waits as it means to
abbrev pub waits : Chief → Plan → ℕ → ℕ → TaskHandle Output → Next
waits c (ToWatch duration) time task handle = watching c handle (sleep_for time duration)
waits c (ToLimit duration) time task handle = limiting c duration handle time task
waits c (ToHold duration number) time task handle = limiting c duration handle time task
waits c (ToChoose number) time task handle = chooses c (handle ∷ held_handle (Ok (Ok number)) ∷ [])

-- a worker is on its context, at its nap
abbrev pub worker : Chief → Context → Chief
worker c context = record c { context = context; work = Naps }

-- its worker was spawned, or refused
abbrev pub hired : Chief → Plan → ℕ → ℕ → Result (TaskHandle Output) Error → Next
hired c plan time task (Ok handle) = waits c plan time task handle
hired c plan time task (Err error) = Gives (Ready (Err error)) c

-- a worker's sleep answered so
abbrev pub slept : Chief → Poll (Result (Unit {0}) Error) → Next
slept c IsPending = Gives Pending c
slept c (IsReady (Ok done)) = Gives (Ready (Ok 5)) c
slept c (IsReady (Err error)) = Gives (Ready (Err error)) c

abbrev pub sleeps : Chief → Sleeper → Next
sleeps c sleep = then (sleep_polls sleep) (λ answer sleep. slept (at c (Sleeps sleep)) answer)

abbrev pub naps : Chief → Result Sleeper Error → Next
naps c (Ok sleep) = sleeps c sleep
naps c (Err error) = Gives (Ready (Err error)) c

-- it hires a worker, or holds a number
abbrev pub begins : Chief → Plan → ℕ → ℕ → Next
begins c (ToHold duration number) time task = limiting c duration (held_handle (Ok (Ok number))) time task
begins c plan time task = then (starts c.context (codes "worker") (worker c)) (λ handle told. hired c plan time task handle)

-- a poll, by what is to be done
abbrev pub polled : Chief → Work → ℕ → ℕ → Next
polled c (Begins plan) time task = begins (at c Done) plan time task
polled c (Watches handle sleep) time task = watches (at c Done) sleep handle
polled c (Limits limit) time task = limits (at c Done) limit time task
polled c (Chooses handles) time task = chooses (at c Done) handles
polled c Naps time task = naps (at c Done) (sleep_for time 3000000)
polled c (Sleeps sleep) time task = sleeps (at c Done) sleep
polled c Done time task = Gives Pending c

-- its end gives up what it polls, and closes its context
abbrev pub ended : Chief → Work → Last Chief Output
ended c (Watches handle sleep) = followed_by (task_spends handle) (followed_by (sleep_spends sleep) (closes c.context.node))
ended c (Limits limit) = followed_by (timeout_spends task_spends limit) (closes c.context.node)
ended c (Chooses handles) = followed_by (lets_go no_spends handles) (closes c.context.node)
ended c (Sleeps sleep) = followed_by (sleep_spends sleep) (closes c.context.node)
ended c work = closes c.context.node

abbrev pub chief_steps : TaskSteps Chief Output
chief_steps = record { next = λ c time task. polled c c.work time task; last = λ c time number. ended c c.work }

-- the root, on node 0
abbrev pub chief_made : RootChief → Step Chief Chief Output (Unit {0})
chief_made maker = Gives tt (record { context = root_context; work = Begins maker.plan; alloc = maker.alloc })
