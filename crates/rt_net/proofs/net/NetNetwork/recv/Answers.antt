use Rattle.rt_net.proofs.Prelude.{◌≡◌, [], Some, Err, rules, subst, UnknownToken, NetReceives, Receives, after_recv, Kept, has_stream}
use Rattle.rt_net.proofs.Asked.{receives-asks, receives-there}
use Rattle.rt_net.proofs.Left.{others-kept}
use Rattle.rt_net.proofs.Live.{called}
use Rattle.rt_net.proofs.net.NetNetwork.recv.Goals as goal

pub returns-clause-gives : goal.returns-clause-gives
returns-clause-gives g c =
    let n = c.args.stream.now.number in
    let r = c.recv-answer.result in
    let pipe = called has_stream c.self.inside.channels.items n _ _ (λ k. after_recv k c.args.len c.args.task r) (r ≡ Err UnknownToken) (λ k. Receives k c.args.len r) (c.index_mut.ensures.value, (search rules)) c.recv-answer.ensures.receives c.recv-answer.ensures.after in
    rw c.counted-2.ensures.answer ([], (search rules), (subst (λ (v : Kept). NetReceives v.state n c.args.len r) c.self.view_is pipe.0, (search (rules, pipe.1)), (search rules), (search rules)))

pub returns-clause-asked : goal.returns-clause-asked
returns-clause-asked g c w = receives-asks c.self.inside.channels.items c.counted-2.new.self.state.channels c.args.stream.now.number c.args.len c.args.task _ c.recv-answer.new.self c.recv-answer.result (c.index_mut.ensures.value, (search rules)) (search rules) c.recv-answer.ensures.after (rw c.counted-2.ensures.answer at w)

pub returns-clause-there : goal.returns-clause-there
returns-clause-there g c = rw c.counted-2.ensures.answer (receives-there _ _ c.args.stream.now.number c.args.len _ c.recv-answer.result c.self.view_is (c.index_mut.ensures.value, (search rules)) c.recv-answer.ensures.there)

pub returns-clause-waiting : goal.returns-clause-waiting
returns-clause-waiting g c k d = others-kept _ _ c.counted-2.new.self.state.channels c.args.stream.now.number k.number (λ _. c.recv-answer.new.self) (Some c.index_mut.result.now) c.self.view_is (search rules) d
