use Rattle.rt_metrics.proofs.Prelude.{rules}
use Rattle.rt_metrics.proofs.gauge_ext.GaugeGaugeExt.try_set_max.Goals as goal

pub returns-in_err-value : goal.returns-in_err-value
returns-in_err-value g c = (c.try_into.result, c.try_into.ensures, (search rules))

pub returns : goal.returns
returns g c = (c.try_into.result, c.try_into.ensures, (search rules))
