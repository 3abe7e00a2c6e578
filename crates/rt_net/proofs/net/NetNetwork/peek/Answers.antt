use Rattle.rt_net.proofs.Prelude.{◌≡◌, [], Err, refl, rules, subst, UnknownToken, NetPeeks, Peeks, Kept, has_stream}
use Rattle.rt_net.proofs.Live.{called}
use Rattle.rt_net.proofs.net.NetNetwork.peek.Goals as goal

pub returns-clause-gives : goal.returns-clause-gives
returns-clause-gives g c =
    let n = c.args.stream.now.number in
    let r = c.peek-answer.result in
    let pipe = called has_stream c.self.inside.channels.items n _ _ (λ k. k) (r ≡ Err UnknownToken) (λ k. Peeks k c.args.max_len r) (c.index.ensures, (search rules)) c.peek-answer.ensures refl in
    rw c.counted-2.ensures.answer ([], (search rules), (subst (λ (v : Kept). NetPeeks v.state n c.args.max_len r) c.self.view_is pipe.0, (search rules), (search rules)))
