use Rattle.rt_net.proofs.Prelude.{◌∙◌, rules}
use Rattle.rt_net.proofs.Asked.{unread-there}
use Rattle.rt_net.proofs.net.NetNetwork.unread_len.Goals as goal

pub returns : goal.returns
returns c = c.unread_len.ensures ∙ unread-there _ _ c.args.stream.now.number _ c.self.view_is (c.index.ensures, (search rules))
