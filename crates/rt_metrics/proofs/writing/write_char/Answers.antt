use Rattle.rt_metrics.proofs.Prelude.{rules}
use Rattle.rt_metrics.proofs.Escapes.{escaped_char}
use Rattle.rt_metrics.proofs.writing.write_char.Goals as goal

pub returns-in_ok-push-in_default : goal.returns-in_ok-push-in_default
returns-in_ok-push-in_default c = search (rules, escaped_char c.args.c)
