use Rattle.rt_store.proofs.Prelude.{ap, sym, ◌∙◌, ℕ, List, numbers}
use Rattle.rt_store.proofs.Named.{numbers_shown}
use Rattle.rt_store.proofs.names.Names.numbers.Goals as goal

pub returns : goal.returns
returns c = c.values.ensures.rest ∙ sym (numbers_shown c.self.inside.numbers.entries) ∙ ap (λ (es : List (List ℕ × ℕ)). numbers es) c.self.view_is
