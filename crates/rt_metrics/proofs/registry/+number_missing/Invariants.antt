use Rattle.rt_metrics.proofs.Prelude.{length}
use Rattle.rt_metrics.proofs.registry.+number_missing.Given as goal

abbrev pub decreases-number_missing : goal.decreases-number_missing
decreases-number_missing l = length l.labels.now
