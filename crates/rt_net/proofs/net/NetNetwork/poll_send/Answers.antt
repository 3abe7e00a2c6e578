use Rattle.rt_net.proofs.Prelude.{◌≡◌, [], Err, ap, ◌∙◌, rules, subst, UnknownToken, NetPollsSend, PollsSend, after_poll_send, started_length, Kept, has_sink}
use Rattle.rt_net.proofs.Left.{sink-left, poll-send-kept}
use Rattle.rt_net.proofs.Live.{called}
use Rattle.rt_net.proofs.net.NetNetwork.poll_send.Goals as goal

pub returns-clause-gives : goal.returns-clause-gives
returns-clause-gives g c =
    let n = c.args.sink.now.number in
    let r = c.poll_send-answer.result in
    let pipe = called has_sink c.self.inside.channels.items n _ _ (λ k. after_poll_send k c.args.task r) (r ≡ Err UnknownToken) (λ k. PollsSend k r) (c.index_mut.ensures.value, (search rules)) c.poll_send-answer.ensures.polls c.poll_send-answer.ensures.after in
    rw c.counted-2.ensures.answer ([], (search rules), (subst (λ (v : Kept). NetPollsSend v.state n r) c.self.view_is pipe.0, (search (rules, pipe.1)), (search rules), (search rules)))

pub returns-clause-waiting : goal.returns-clause-waiting
returns-clause-waiting g c k = sink-left _ _ c.counted-2.new.self.state.channels c.args.sink.now.number k.number _ c.poll_send-answer.new.self c.self.view_is (c.index_mut.ensures.value, (search rules)) (search rules) (ap started_length c.poll_send-answer.ensures.after ∙ poll-send-kept c.index_mut.result.now c.args.task c.poll_send-answer.result)
