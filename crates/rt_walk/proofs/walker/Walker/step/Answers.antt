use Rattle.rt_walk.proofs.Quiet.{after-states}
use Rattle.rt_walk.proofs.walker.Walker.step.Goals as goal

pub returns-in-Start-clause-here : goal.returns-in-Start-clause-here
returns-in-Start-clause-here c = rw c.in-Start.is (c.start.ensures c.in-Start.next c.in-Start.now c.in-Start.deadline c.in-Start.cycle)

pub returns-in-Start-clause-alike : goal.returns-in-Start-clause-alike
returns-in-Start-clause-alike c s = after-states _ _ s _ (returns-in-Start-clause-here c)

pub returns-in_ok-event-in-Event-clause-alike : goal.returns-in_ok-event-in-Event-clause-alike
returns-in_ok-event-in-Event-clause-alike c s = after-states _ _ s _ (rw c.in-Event.is c.in_ok-event-in-Event.ensures)

pub returns-in-Crash-clause-here : goal.returns-in-Crash-clause-here
returns-in-Crash-clause-here c = rw c.in-Crash.is (c.crash.ensures c.in-Crash.choices)

pub returns-in-Crash-clause-alike : goal.returns-in-Crash-clause-alike
returns-in-Crash-clause-alike c s = after-states _ _ s _ (returns-in-Crash-clause-here c)

pub returns-in_ok-fire-in-Fire-clause-here : goal.returns-in_ok-fire-in-Fire-clause-here
returns-in_ok-fire-in-Fire-clause-here c = rw c.in-Fire.is (c.in_ok-fire-in-Fire.ensures c.in-Fire.alarm)

pub returns-in_ok-fire-in-Fire-clause-alike : goal.returns-in_ok-fire-in-Fire-clause-alike
returns-in_ok-fire-in-Fire-clause-alike c s = after-states _ _ s _ (returns-in_ok-fire-in-Fire-clause-here c)
