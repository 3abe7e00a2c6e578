use Rattle.rt_scripts.proofs.Kept.{one_checkpoint}
use Rattle.rt_scripts.proofs.laws.a_journal_decides_its_checkpoint.Goals as goal

pub returns : goal.returns
returns g c = one_checkpoint
