use Rattle.rt_laws.proofs.Moods.{valid_for}
use Rattle.rt_laws.proofs.drawing.a_root_completes_for_its_generator.Goals as goal

pub returns-clause-valid : goal.returns-clause-valid
returns-clause-valid c = valid_for

pub returns-clause-there : goal.returns-clause-there
returns-clause-there c number other calls e = other e
