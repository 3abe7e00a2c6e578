use Rattle.rt_core.proofs.Grouping.{ends-goes}
use Rattle.rt_core.proofs.join_all.end.Goals as goal

pub returns-clause-steps : goal.returns-clause-steps
returns-clause-steps g c =
    rw (c.close.ensures, ← c.group.view_is) (ends-goes _ _ _ _ _ (rw (c.into_vec.ensures.items, c.replace-handles.ensures.value) at c.give_all_up.ensures.steps))
