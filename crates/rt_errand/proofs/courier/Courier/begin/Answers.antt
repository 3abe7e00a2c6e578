use Rattle.rt_errand.proofs.courier.Courier.begin.Goals as goal

pub returns-in-Ok-clause-steps : goal.returns-in-Ok-clause-steps
returns-in-Ok-clause-steps g c =
    c.in-Ok.ensures.called.onward _ _ _ _ (rw (c.from_receiver-handle.ensures, c.in-Ok.ensures.pair) at c.carry.ensures.steps)
