use Rattle.rt_core.proofs.Prelude.{sym}
use Rattle.rt_core.proofs.Pairing.{second-lacks, second-pending, second-ready}
use Rattle.rt_core.proofs.either_of.EitherOf.poll_second.Goals as goal

pub returns-in-Pending-clause-steps : goal.returns-in-Pending-clause-steps
returns-in-Pending-clause-steps g c = rw c.put.ensures (second-pending _ _ _ _ _ _ _ c.in-Pending.ensures.steps)

pub returns-in-None-clause-steps : goal.returns-in-None-clause-steps
returns-in-None-clause-steps g c =
    rw c.put-in-None.ensures (second-lacks _ _ _ _ _ _ _ c.in-Ready.answer (sym c.in-None.ensures) c.in-Ready.ensures.steps)

pub returns-in-Some-clause-steps : goal.returns-in-Some-clause-steps
returns-in-Some-clause-steps g c =
    rw c.requires.free (second-ready _ _ _ _ _ _ _ c.in-Ready.answer _ _ (sym c.in-Some.ensures) c.in-Ready.ensures.steps c.give_up.ensures.steps)
