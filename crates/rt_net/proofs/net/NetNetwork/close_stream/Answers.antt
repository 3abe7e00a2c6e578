use Rattle.rt_net.proofs.Prelude.{closed_stream, live_stream}
use Rattle.rt_net.proofs.Left.{others-kept}
use Rattle.rt_net.proofs.net.NetNetwork.close_stream.Goals as goal

pub returns-clause-waiting : goal.returns-clause-waiting
returns-clause-waiting c k d = others-kept _ _ c.close_stream.new.pipes.items c.args.stream.number k.number closed_stream (live_stream c.self.inside.channels.items c.args.stream.number) c.self.view_is c.close_stream.ensures.closed d
