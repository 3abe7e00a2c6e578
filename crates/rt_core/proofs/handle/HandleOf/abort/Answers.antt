use Rattle.rt_core.proofs.Prelude.{handle_aborts, kept-same, spent-nothing, spends-on}
use Rattle.rt_core.proofs.handle.HandleOf.abort.Goals as goal

pub returns-in-Task-clause-steps : goal.returns-in-Task-clause-steps
unfolding handle_aborts
returns-in-Task-clause-steps g c = rw (← c.self.view_is, c.in-Task.is) c.abort.ensures.steps

pub returns-in-Received-clause-steps : goal.returns-in-Received-clause-steps
unfolding handle_aborts
returns-in-Received-clause-steps g c = rw (← c.self.view_is, c.in-Received.is) c.abort-in-Received.ensures.steps

pub returns-clause-kept : goal.returns-clause-kept
returns-clause-kept g c = kept-same _ _

pub returns-clause-steps : goal.returns-clause-steps
unfolding handle_aborts
returns-clause-steps g c = rw (← c.self.view_is, c.in-Completion.is) (spends-on _ _ _ (spent-nothing _))
