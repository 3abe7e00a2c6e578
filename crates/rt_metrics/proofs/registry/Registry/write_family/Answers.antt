use Rattle.rt_metrics.proofs.Prelude.{rules, string_bytes, members_lines, sample_name, header}
use Rattle.rt_metrics.proofs.Headers.{taken_back}
use Rattle.rt_metrics.proofs.registry.Registry.write_family.Goals as goal

pub returns-then-len-headed : goal.returns-then-len-headed
returns-then-len-headed c =
    let name = sample_name c.args.name.now c.args.family.now.kind in
    let lines = members_lines c.args.self.now name c.args.family.now.members in
    search (rules, taken_back (string_bytes c.args.text.now) (header c.args.name.now c.args.family.now) lines (string_bytes c.loop-id.text))
