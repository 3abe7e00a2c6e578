use Rattle.rt_core.proofs.Prelude.{sym, ◌∙◌}
use Rattle.rt_core.proofs.Grouping.{fine-goes, failed-goes}
use Rattle.rt_core.proofs.join_all.JoinAllOfOutputPollerItems.poll.Goals as goal

pub returns-in-None-clause-steps : goal.returns-in-None-clause-steps
returns-in-None-clause-steps g c =
    rw (← c.self.view_is) (fine-goes _ _ g.F.Convert.converted _ _ _ _ _ (sym c.replace.ensures.value ∙ c.in-None.is) c.join.ensures.steps)

pub returns-in-Some-clause-steps : goal.returns-in-Some-clause-steps
returns-in-Some-clause-steps g c =
    rw (← c.self.view_is) (failed-goes _ _ g.F.Convert.converted _ _ _ _ _ _ (sym c.replace.ensures.value ∙ c.in-Some.is) c.drain.ensures.steps)
