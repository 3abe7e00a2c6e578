use Rattle.rt_store.proofs.Prelude.{ap, ◌∙◌, ℕ, List, at_name}
use Rattle.rt_store.proofs.Named.{lookup_shown}
use Rattle.rt_store.proofs.names.Names.get.Goals as goal

pub returns : goal.returns
returns c = c.copied.ensures ∙ c.get.ensures.value ∙ lookup_shown c.self.inside.numbers.entries c.args.name.now ∙ ap (λ (es : List (List ℕ × ℕ)). at_name c.args.name.now es) c.self.view_is
