use Rattle.rt_store.proofs.Prelude.{ap, ◌∙◌, ℕ, List, put_name}
use Rattle.rt_store.proofs.Named.{Owned, shown, put_shown}
use Rattle.rt_store.proofs.names.Names.put.Goals as goal

pub returns-clause-after : goal.returns-clause-after
returns-clause-after g c =
    ap (λ (es : Owned). shown es) c.in_ok-put_number.ensures.after
    ∙ put_shown c.self.inside.numbers.entries c.args.name c.args.number
    ∙ ap (λ (es : List (List ℕ × ℕ)). put_name c.args.name.items c.args.number es) c.self.view_is
