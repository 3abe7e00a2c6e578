use Rattle.rt_metrics.proofs.Prelude.{rules, wraps}
use Rattle.rt_metrics.proofs.batched.RawGaugeBatchable.change.Goals as goal

pub returns : goal.returns
returns c = search (rules, wraps)
