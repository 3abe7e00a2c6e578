use Rattle.rt_core.proofs.Prelude.{either_spends, spends-on, spends-then, spent-nothing}
use Rattle.rt_core.proofs.either_of.EitherOfPollerFirstOf.give_up.Goals as goal

pub returns-in-Some-clause-steps : goal.returns-in-Some-clause-steps
unfolding either_spends
returns-in-Some-clause-steps g c =
    rw c.in-Some.is (spends-then _ _ _ _ _ c.give_up.ensures.steps c.give_up-in-Some.ensures.steps)

pub returns-in_default-clause-steps : goal.returns-in_default-clause-steps
unfolding either_spends
returns-in_default-clause-steps g c = rw c.in_default.is (spends-on _ _ _ (spent-nothing _))
