use Rattle.rt_net.proofs.Left.{closing-kept}
use Rattle.rt_net.proofs.net.NetNetwork.close_listener.Goals as goal

pub returns-then-has_listener-clause-waiting : goal.returns-then-has_listener-clause-waiting
returns-then-has_listener-clause-waiting c k w = closing-kept _ _ c.close.new.channels.items c.index_mut.result.now.waiting k.number c.self.view_is c.close.ensures.channels w
