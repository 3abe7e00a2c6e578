use Rattle.rt_net.proofs.Prelude.{◌≡◌, [], Some, Err, rules, subst, UnknownToken, NetPollsReceive, PollsReceive, after_poll_recv, Kept, has_stream}
use Rattle.rt_net.proofs.Asked.{polls-length, polls-there, polls-ask}
use Rattle.rt_net.proofs.Left.{others-kept}
use Rattle.rt_net.proofs.Live.{called}
use Rattle.rt_net.proofs.net.NetNetwork.poll_recv.Goals as goal

pub returns-clause-gives : goal.returns-clause-gives
returns-clause-gives g c =
    let n = c.args.stream.now.number in
    let r = c.poll_recv-answer.result in
    let pipe = called has_stream c.self.inside.channels.items n _ _ (λ k. after_poll_recv k c.args.task r) (r ≡ Err UnknownToken) (λ k. PollsReceive k r) (c.index_mut.ensures.value, (search rules)) c.poll_recv-answer.ensures.polls c.poll_recv-answer.ensures.after in
    rw c.counted-2.ensures.answer ([], (search rules), (subst (λ (v : Kept). NetPollsReceive v.state n r) c.self.view_is pipe.0, (search (rules, pipe.1)), (search rules), (search rules)))

pub returns-clause-length : goal.returns-clause-length
returns-clause-length g c = rw c.counted-2.ensures.answer (polls-length _ _ c.args.stream.now.number _ c.poll_recv-answer.result c.self.view_is (c.index_mut.ensures.value, (search rules)) c.poll_recv-answer.ensures.polls)

pub returns-clause-asked : goal.returns-clause-asked
returns-clause-asked g c w = polls-ask _ _ c.counted-2.new.self.state.channels c.args.stream.now.number c.args.task _ c.poll_recv-answer.new.self c.poll_recv-answer.result c.self.view_is (c.index_mut.ensures.value, (search rules)) (search rules) c.poll_recv-answer.ensures.after c.poll_recv-answer.ensures.polls (rw c.counted-2.ensures.answer at w)

pub returns-clause-there : goal.returns-clause-there
returns-clause-there g c = rw c.counted-2.ensures.answer (polls-there _ _ c.args.stream.now.number _ c.poll_recv-answer.result c.self.view_is (c.index_mut.ensures.value, (search rules)) c.poll_recv-answer.ensures.there)

pub returns-clause-waiting : goal.returns-clause-waiting
returns-clause-waiting g c k d = others-kept _ _ c.counted-2.new.self.state.channels c.args.stream.now.number k.number (λ _. c.poll_recv-answer.new.self) (Some c.index_mut.result.now) c.self.view_is (search rules) d
