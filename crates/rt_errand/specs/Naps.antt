-- What a nap does.
use Rattle.std.specs.Prelude.{ℕ, Result, Ok, Err}
use Rattle.rt_core.specs.Tasks.{Error, Poll, IsPending, IsReady, Step, Last, Gives, then, followed_by, reschedule_polls, reschedule_spends, sleep_polls, sleep_spends, Sleeper}
use Rattle.rt_errand.specs.declared.nap.Nap.{Nap}

abbrev pub Napping : (A O : Type 0) → Type 0
Napping A O = Step A Nap O (Poll (Result (Unit {0}) Error))

-- what its sleep answered. Once that is over it gives way
abbrev pub rests : {A O : Type 0} → Nap → ℕ → Poll (Result (Unit {0}) Error) → Sleeper → Napping A O
rests nap task IsPending sleep = Gives IsPending (record nap { sleep = sleep })
rests nap task (IsReady (Ok over)) sleep = then (reschedule_polls nap.turn task) (λ told turn. Gives told (record { sleep = sleep; turn = turn }))
rests nap task (IsReady (Err error)) sleep = Gives (IsReady (Err error)) (record nap { sleep = sleep })

unfoldable pub nap_polls : {A O : Type 0} → Nap → ℕ → Napping A O
nap_polls nap task = then (sleep_polls nap.sleep) (rests nap task)

abbrev pub nap_spends : {A O : Type 0} → Nap → Last A O
nap_spends nap = followed_by (sleep_spends nap.sleep) (reschedule_spends nap.turn)
