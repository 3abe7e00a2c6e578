-- What a retry does next.
use Rattle.std.specs.Prelude.{ℕ, Result, Ok, Err}
use Rattle.rt_core.specs.Tasks.{Error, Poll, IsReady, IsPending, Answer, Pending, Ready, TaskSteps, Step, Last, Gives, then, followed_by, root_context, Sleeper, sleep_for, sleep_polls, sleep_spends, closes}
use Rattle.rt_errand.specs.declared.retry.Retry.{Retry}
use Rattle.rt_errand.specs.declared.retry.Stage.{Stage}
use Rattle.rt_errand.specs.declared.retry.Stage.TheVariants.{Fresh, First, Second, Third}

abbrev pub Output : Type 0
Output = Result ℕ Error

abbrev pub Next : Type 0
Next = Step Retry Retry Output (Answer Output)

abbrev pub Slept : Type 0
Slept = Poll (Result (Unit {0}) Error)

abbrev pub at : Retry → Stage → Retry
at r stage = record r { stage = stage }

-- the last sleep
abbrev pub third_slept : Retry → Slept → Next
third_slept r IsPending = Gives Pending r
third_slept r (IsReady (Ok over)) = Gives (Ready (Ok 3)) r
third_slept r (IsReady (Err error)) = Gives (Ready (Err error)) r

abbrev pub thirds : Retry → Sleeper → Next
thirds r sleep = then (sleep_polls sleep) (λ slept sleep. third_slept (at r (Third sleep)) slept)

abbrev pub third_begun : Retry → Result Sleeper Error → Next
third_begun r (Ok sleep) = thirds r sleep
third_begun r (Err error) = Gives (Ready (Err error)) r

-- the second
abbrev pub second_slept : Retry → ℕ → Slept → Next
second_slept r time IsPending = Gives Pending r
second_slept r time (IsReady (Ok over)) = third_begun r (sleep_for time 40000000)
second_slept r time (IsReady (Err error)) = Gives (Ready (Err error)) r

abbrev pub seconds : Retry → ℕ → Sleeper → Next
seconds r time sleep = then (sleep_polls sleep) (λ slept sleep. second_slept (at r (Second sleep)) time slept)

abbrev pub second_begun : Retry → ℕ → Result Sleeper Error → Next
second_begun r time (Ok sleep) = seconds r time sleep
second_begun r time (Err error) = Gives (Ready (Err error)) r

-- the first
abbrev pub first_slept : Retry → ℕ → Slept → Next
first_slept r time IsPending = Gives Pending r
first_slept r time (IsReady (Ok over)) = second_begun r time (sleep_for time 20000000)
first_slept r time (IsReady (Err error)) = Gives (Ready (Err error)) r

abbrev pub firsts : Retry → ℕ → Sleeper → Next
firsts r time sleep = then (sleep_polls sleep) (λ slept sleep. first_slept (at r (First sleep)) time slept)

abbrev pub first_begun : Retry → ℕ → Result Sleeper Error → Next
first_begun r time (Ok sleep) = firsts r time sleep
first_begun r time (Err error) = Gives (Ready (Err error)) (at r Fresh)

abbrev pub polled : Retry → Stage → ℕ → Next
polled r Fresh time = first_begun r time (sleep_for time 10000000)
polled r (First sleep) time = firsts r time sleep
polled r (Second sleep) time = seconds r time sleep
polled r (Third sleep) time = thirds r sleep

abbrev pub ended : Retry → Stage → Last Retry Output
ended r Fresh = closes r.context.node
ended r (First sleep) = followed_by (sleep_spends sleep) (closes r.context.node)
ended r (Second sleep) = followed_by (sleep_spends sleep) (closes r.context.node)
ended r (Third sleep) = followed_by (sleep_spends sleep) (closes r.context.node)

abbrev pub retry_steps : TaskSteps Retry Output
retry_steps = record { next = λ r time task. polled r r.stage time; last = λ r time number. ended r r.stage }

-- the root, on node 0
abbrev pub retry_made : Step Retry Retry Output (Unit {0})
retry_made = Gives tt (record { context = root_context; stage = Fresh })
