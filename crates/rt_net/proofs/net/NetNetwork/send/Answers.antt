use Rattle.rt_net.proofs.Prelude.{◌≡◌, [], Err, None, refl, ap, ◌∙◌, rules, subst, UnknownToken, NetSends, Sends, after_send, started_length, Kept, has_sink}
use Rattle.rt_net.proofs.Left.{sink-left, send-kept}
use Rattle.rt_net.proofs.Live.{called}
use Rattle.rt_net.proofs.net.NetNetwork.send.Goals as goal

pub returns-clause-gives : goal.returns-clause-gives
returns-clause-gives g c =
    let n = c.args.sink.now.number in
    let r = c.send-reply.result in
    let pipe = called has_sink c.self.inside.channels.items n _ _ (λ k. after_send k c.args.bufs.bytes c.args.task r.value) ((r.value ≡ Err UnknownToken) × (r.wake ≡ None)) (λ k. Sends k c.args.bufs.bytes r.value r.wake) (c.index_mut.ensures.value, (search rules)) c.send-reply.ensures.sends c.send-reply.ensures.after in
    rw c.of-2.ensures (rw c.counted-2.ensures.answer ([], (search rules), (subst (λ (v : Kept). NetSends v.state n c.args.bufs.bytes (record { value = r.value; wake = r.wake; link = None })) c.self.view_is (pipe.0, refl), (search (rules, pipe.1)), (search rules), (search rules))))

pub returns-clause-waiting : goal.returns-clause-waiting
returns-clause-waiting g c k = sink-left _ _ c.counted-2.new.self.state.channels c.args.sink.now.number k.number _ c.send-reply.new.self c.self.view_is (c.index_mut.ensures.value, (search rules)) (search rules) (ap started_length c.send-reply.ensures.after ∙ send-kept c.index_mut.result.now c.args.bufs.bytes c.args.task c.send-reply.result.value)
