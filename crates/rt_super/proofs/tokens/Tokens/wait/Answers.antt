use Rattle.rt_super.proofs.Prelude.{◌≡◌, ◌∙◌, sym, refl, owners}
use Rattle.rt_super.proofs.Rows.{replaced-none}
use Rattle.rt_super.proofs.TokenLemmas.{owners-replaced, replaced-waiting}
use Rattle.rt_super.proofs.tokens.Tokens.wait.Goals as goal

pub invariant_of-self : goal.invariant_of-self
invariant_of-self c =
    let same : owners c.set.new.self.items ≡ owners c.self.inside.table.items = rw (c.set.ensures.items) (owners-replaced c.args.number _ c.in-Some.token c.self.inside.table.items (sym c.in-Some.ensures) refl) in
    record { tied = rw (same, c.set.ensures.next) c.self.invariant.tied }

pub returns-in-Some-clause-items : goal.returns-in-Some-clause-items
returns-in-Some-clause-items c = rw (← c.self.view_is) (c.set.ensures.items ∙ replaced-waiting c.args.number c.args.waits c.in-Some.token c.self.inside.table.items (sym c.in-Some.ensures))

pub returns-in_default-clause-items : goal.returns-in_default-clause-items
returns-in_default-clause-items c = rw (← c.self.view_is) (sym (replaced-none _ c.args.number c.self.inside.table.items (sym c.in_default.ensures)))
