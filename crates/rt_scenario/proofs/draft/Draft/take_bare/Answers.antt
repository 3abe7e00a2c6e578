use Rattle.rt_scenario.proofs.Scripts.{bare_count}
use Rattle.rt_scenario.proofs.Cuts.{some_in}
use Rattle.rt_scenario.proofs.draft.Draft.take_bare.Goals as goal

pub returns-then-is_some : goal.returns-then-is_some
returns-then-is_some c = bare_count _ _ _ c.requires.bare (some_in _ c.if-is_some.ensures)
