use Rattle.rt_core.proofs.Prelude.{Clock, ap, sym, ◌∙◌}
use Rattle.rt_core.proofs.Pairing.{first-lacks, first-pending, first-ready, none-ready}
use Rattle.rt_core.proofs.either_of.EitherOfPollerFirstOf.poll.Goals as goal

pub returns-in_default-clause-steps : goal.returns-in_default-clause-steps
returns-in_default-clause-steps g c =
    rw c.replace.ensures.after (none-ready _ _ _ _ c.args.self.now _ (sym c.replace.ensures.value ∙ c.in_default.is))

pub returns-in-Pending-clause-steps : goal.returns-in-Pending-clause-steps
returns-in-Pending-clause-steps g c =
    let time = ap (λ (k : Clock). k.time) c.poll.ensures.kept.clock in
    first-pending _ _ _ _ c.args.self.now _ _ _ _ (sym c.replace.ensures.value ∙ c.in-Some.is) _ _ _ _ c.in-Pending.ensures.steps (simp time at c.poll_second.ensures.steps)

pub returns-in-None-clause-steps : goal.returns-in-None-clause-steps
returns-in-None-clause-steps g c =
    rw c.put.ensures (first-lacks _ _ _ _ c.args.self.now _ _ _ _ (sym c.replace.ensures.value ∙ c.in-Some.is) _ c.in-Ready.answer (sym c.in-None.ensures) c.in-Ready.ensures.steps)

pub returns-in-Some-unless_lack-clause-steps : goal.returns-in-Some-unless_lack-clause-steps
returns-in-Some-unless_lack-clause-steps g c =
    rw c.replace.ensures.after (first-ready _ _ _ _ c.args.self.now _ _ _ _ (sym c.replace.ensures.value ∙ c.in-Some.is) _ c.in-Ready.answer _ _ (sym c.in-Some-unless_lack.ensures) c.in-Ready.ensures.steps c.give_up.ensures.steps)
