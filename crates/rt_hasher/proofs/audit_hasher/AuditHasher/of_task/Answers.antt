use Rattle.std.proofs.Common.{rules, ◌≡◌, length}
use Rattle.rt_hasher.proofs.Fronted.{number_then}
use Rattle.rt_hasher.proofs.audit_hasher.AuditHasher.of_task.Goals as goal

pub returns : goal.returns
returns c =
    let four : length c.args.digest ≡ 4 = search rules in
    let eight : length c.args.number ≡ 8 = search rules in
    let e = number_then c.args.digest c.args.number four eight in
    cc
