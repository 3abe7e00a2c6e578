use Rattle.rt_scenario.proofs.Ascii.{printable_is_utf8}
use Rattle.rt_scenario.proofs.names.text_of.Goals as goal

pub unreachable-requires : goal.unreachable-requires
unreachable-requires c = c.in-Err.ensures.cases.0 (printable_is_utf8 _ c.requires)
