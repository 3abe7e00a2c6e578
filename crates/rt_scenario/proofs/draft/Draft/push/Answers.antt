use Rattle.rt_scenario.proofs.Prelude.{◌≡◌, None, length, subst, sym, rules, read, script_at, with_line, IsBegun, IsFree}
use Rattle.rt_scenario.proofs.Placed.{begun_line, free_clear}
use Rattle.rt_scenario.proofs.draft.Draft.push.Goals as goal

pub invariant_of-self-2 : goal.invariant_of-self-2
invariant_of-self-2 c =
    let closed = c.self.inside.closed in
    let line = read c.args.line in
    let script = c.in-Some.script in
    let pushed : c.push.new.self ≡ with_line line script = search rules in
    let absent : script_at closed script.name ≡ None = search rules in
    let begun : IsBegun (length closed) script = search rules in
    let free : IsFree (length closed) line = search rules in (
      c.self.invariant.0,
      c.self.invariant.1,
      c.self.invariant.2,
      subst (λ s. script_at closed s.name ≡ None) (sym pushed) absent,
      c.self.invariant.4,
      subst (λ s. IsBegun (length closed) s) (sym pushed) (begun_line (length closed) script line begun free),
    )

pub push-requires-clause-clear : goal.push-requires-clause-clear
push-requires-clause-clear c = free_clear (length c.args.self.now.scripts) (read c.args.line) c.requires.free
