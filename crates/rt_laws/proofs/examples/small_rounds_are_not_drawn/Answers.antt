use Rattle.rt_laws.proofs.Ends.{ready_drawn, skipped_drawn, short_drawn, no_draw}
use Rattle.rt_laws.proofs.examples.small_rounds_are_not_drawn.Goals as goal

pub returns-clause-ready : goal.returns-clause-ready
returns-clause-ready c = ready_drawn

pub returns-clause-skipped : goal.returns-clause-skipped
returns-clause-skipped c = skipped_drawn

pub returns-clause-short : goal.returns-clause-short
returns-clause-short c = short_drawn

pub returns-clause-drawn : goal.returns-clause-drawn
returns-clause-drawn c = no_draw
