use Rattle.rt_errand.proofs.client.ClientTask.poll.Goals as goal

pub returns-in-Ok-clause-steps : goal.returns-in-Ok-clause-steps
returns-in-Ok-clause-steps g c =
    rw (← c.in-Asks.ensures.value) (c.in-Ok.ensures.steps.onward _ _ _ _ (rw c.in-Asks.ensures.after at c.ask.ensures.steps))
