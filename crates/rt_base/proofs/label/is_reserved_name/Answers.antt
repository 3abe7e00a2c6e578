use Rattle.std.proofs.Common.{rules, ◌≡◌, ◌∙◌, sym}
use Rattle.rt_base.specs.Label.{is_reserved}
use Rattle.rt_base.proofs.Reserved.{reserved_by_prefix}
use Rattle.rt_base.proofs.label.is_reserved_name.Goals as goal

pub returns-else-is_empty : goal.returns-else-is_empty
returns-else-is_empty c =
    let own : c.starts_with-else-is_empty.result ≡ is_reserved c.args.prefix.now = search rules in
    own ∙ sym (reserved_by_prefix c.args.prefix.now c.args.name.now (search rules))
