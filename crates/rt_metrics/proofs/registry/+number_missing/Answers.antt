use Rattle.rt_metrics.proofs.Prelude.{◌≡◌, false, is_some, lookup, rules}
use Rattle.rt_metrics.proofs.Lookups.{same_text}
use Rattle.rt_metrics.proofs.Several.{taken_out}
use Rattle.rt_metrics.proofs.registry.+number_missing.Goals as goal

pub returns-then-is_err-clause-refused : goal.returns-then-is_err-clause-refused
returns-then-is_err-clause-refused t c =
    let absent : is_some (lookup (same_text c.in-Some.label.now) c.args.children.now.entries) ≡ false = search rules in
    let back = taken_out c.in-Some.label.now c.args.next c.args.children.now.entries absent in
    search (rules, back)
