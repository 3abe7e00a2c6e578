use Rattle.rt_store.proofs.Prelude.{ap, ◌∙◌, ℕ, List, without_name}
use Rattle.rt_store.proofs.Named.{Owned, shown, remove_shown}
use Rattle.rt_store.proofs.names.Names.remove.Goals as goal

pub returns : goal.returns
returns c =
    ap (λ (es : Owned). shown es) c.remove.ensures.entries
    ∙ remove_shown c.self.inside.numbers.entries c.args.name.now
    ∙ ap (λ (es : List (List ℕ × ℕ)). without_name c.args.name.now es) c.self.view_is
