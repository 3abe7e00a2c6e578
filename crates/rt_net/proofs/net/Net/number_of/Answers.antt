use Rattle.rt_net.proofs.Prelude.{ap, ◌∙◌, Kept, number_at}
use Rattle.rt_net.proofs.Places.{number-position}
use Rattle.rt_net.proofs.net.Net.number_of.Goals as goal

pub returns : goal.returns
returns c = c.get_index_of.ensures.index ∙ number-position c.self.inside.addresses.keys c.args.address ∙ ap (λ (k : Kept). number_at k.state.addresses c.args.address) c.self.view_is
