use Rattle.rt_metrics.proofs.Prelude.{rules, wraps}
use Rattle.rt_metrics.proofs.sample.Sample.levelled.Goals as goal

pub returns-in-Level : goal.returns-in-Level
returns-in-Level c = search (rules, wraps)
