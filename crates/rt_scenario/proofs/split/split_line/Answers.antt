use Rattle.rt_scenario.proofs.Prelude.{add-one}
use Rattle.rt_scenario.proofs.Cuts.{cut_line, last_line}
use Rattle.rt_scenario.proofs.split.split_line.Goals as goal

pub returns-then-end-text-clause-lines : goal.returns-then-end-text-clause-lines
returns-then-end-text-clause-lines c =
    rw (c.split_at.ensures.front, c.split_at.ensures.back, add-one) (cut_line _ _ c.if-end-text.true c.front_len-end.ensures.before (c.front_len-end.ensures.found c.if-end-text.true))

pub returns-else-end-text-clause-lines : goal.returns-else-end-text-clause-lines
returns-else-end-text-clause-lines c =
    rw (c.split_at-else-end-text.ensures.front, c.split_at-else-end-text.ensures.back) (last_line _ _ c.requires c.if-end-text.false c.front_len-end.ensures.before)
