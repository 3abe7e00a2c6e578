use Rattle.rt_walk.proofs.Prelude.{◌∙◌, sym, begun}
use Rattle.rt_walk.proofs.Quiet.{begun-quiet}
use Rattle.rt_walk.proofs.first.first_unlawful.Goals as goal

pub returns-clause-first : goal.returns-clause-first
returns-clause-first c = c.first_refused-place.ensures.first (begun c.args.begin) (begun-quiet c.args.begin ∙ sym c.in_ok-walker.ensures)

pub returns-clause-lawful : goal.returns-clause-lawful
returns-clause-lawful c = c.first_refused-place.ensures.lawful (begun c.args.begin) (begun-quiet c.args.begin ∙ sym c.in_ok-walker.ensures)
