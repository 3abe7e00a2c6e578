use Rattle.rt_net.proofs.Prelude.{refl, closed_sink}
use Rattle.rt_net.proofs.Left.{sink-kept}
use Rattle.rt_net.proofs.net.NetNetwork.close_sink.Goals as goal

pub returns-clause-waiting : goal.returns-clause-waiting
returns-clause-waiting c k = sink-kept _ _ c.close_sink.new.pipes.items c.args.sink.number k.number closed_sink c.self.view_is c.close_sink.ensures.closed (λ d. refl)
