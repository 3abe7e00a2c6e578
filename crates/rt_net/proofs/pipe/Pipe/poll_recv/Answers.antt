use Rattle.rt_net.proofs.Prelude.{◌≡◌, ap, Option, take, sym, ◌∙◌, subst, IsSomeAnd, Chunked, Ready, ChannelState, Answers, started_length}
use Rattle.rt_net.proofs.Quiet.{answer-started}
use Rattle.rt_net.proofs.pipe.Pipe.poll_recv.Goals as goal

pub unreachable-requires : goal.unreachable-requires
unreachable-requires c =
    let P : Chunked → Type 0 = λ b. b.bytes ≡ take c.in-Some.len c.self.inside.bytes in
    let made = c.self.invariant.answer c.in-Some.len c.in-Some.is c.if-self-len.false in
    subst (λ (o : Option Chunked). IsSomeAnd o P) (sym c.take.ensures.value ∙ c.in_default-take.is) made

pub returns-clause-polls : goal.returns-clause-polls
returns-clause-polls c =
    let P : Chunked → Type 0 = λ b. b.bytes ≡ take c.in-Some.len c.self.inside.bytes in
    let made = c.self.invariant.answer c.in-Some.len c.in-Some.is c.if-self-len.false in
    let bytes = subst (λ (o : Option Chunked). IsSomeAnd o P) (sym c.take.ensures.value ∙ c.in-Some-take.is) made in
    let alive = ap (λ (x : ChannelState). x.stream.alive) c.self.view_is ∙ c.requires in
    subst (λ (x : ChannelState). Answers x (started_length x) (Ready c.in-Some-take.bytes)) c.self.view_is
    (answer-started c.self.inside c.in-Some.len c.in-Some-take.bytes c.in-Some.is c.if-self-len.false c.self.invariant.within (c.self.invariant.of_stream alive) bytes)
