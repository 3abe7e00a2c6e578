use Rattle.rt_scenario.proofs.Prelude.{◌≡◌, ◌∙◌, true, false, is_some, refl, ap, sym, length, rules, script_at, IsBegun}
use Rattle.rt_scenario.proofs.Scripts.{known, none_some}
use Rattle.rt_scenario.proofs.draft.Draft.open_named.Goals as goal

pub returns-then-contains : goal.returns-then-contains
returns-then-contains c =
    let twice : is_some (script_at c.self.inside.closed c.args.name.now) ≡ true =
    sym (known c.self.inside.names.keys c.args.name.now c.short_name-name.result c.self.inside.closed true c.if-contains.ensures c.short_name-name.ensures c.self.invariant.0) in
    rw (← c.self.view_is, c.requires.name, twice) refl

pub invariant_of-self : goal.invariant_of-self
invariant_of-self c =
    let closed = c.self.inside.closed in
    let script = c.new-2.result in
    let name = c.args.name.now in
    let named : script.name ≡ name = ap (λ s. s.name) c.new-2.ensures ∙ c.short_name-name.ensures in
    let new = sym (known c.self.inside.names.keys name c.short_name-name.result closed false c.if-contains.ensures c.short_name-name.ensures c.self.invariant.0) in
    let begun : IsBegun (length closed) script = search rules in
    (c.self.invariant.0, c.self.invariant.1, c.self.invariant.2, ap (script_at closed) named ∙ none_some (script_at closed name) new, c.self.invariant.4, begun)

pub returns : goal.returns
returns c =
    let new : is_some (script_at c.self.inside.closed c.args.name.now) ≡ false =
    sym (known c.self.inside.names.keys c.args.name.now c.short_name-name.result c.self.inside.closed false c.if-contains.ensures c.short_name-name.ensures c.self.invariant.0) in
    rw (← c.self.view_is, c.requires.name, new, c.new-2.ensures, c.short_name-name.ensures) refl
