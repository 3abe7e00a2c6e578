use Rattle.rt_scenario.proofs.Prelude.{sym, ◌∙◌}
use Rattle.rt_scenario.proofs.Ascii.{label_is_utf8}
use Rattle.rt_scenario.proofs.names.name_of.Goals as goal

pub from_utf8_unchecked-requires : goal.from_utf8_unchecked-requires
from_utf8_unchecked-requires c = label_is_utf8 _ (sym c.is_label.ensures ∙ c.if-not-is_label.false)
