use Rattle.rt_fixtures.proofs.Prelude.{[], refl, inl, inr, rules}
use Rattle.rt_fixtures.proofs.NotingLemmas.{adds-none, adds-around}
use Rattle.rt_fixtures.proofs.noting.NotingNetwork.send.Goals as goal

pub returns-in_default-clause-gives : goal.returns-in_default-clause-gives
returns-in_default-clause-gives g c = ([], adds-none _ _ (search rules), inr (refl, refl, refl, refl, refl, refl))

pub returns-clause-gives : goal.returns-clause-gives
returns-clause-gives g c =
    let inner = c.send-reply.ensures.gives in
    (_, adds-around _ _ _ _ _ inner.0 _ c.in-Ok.ensures.noted inner.1 c.note_end.ensures.noted, inl (inner.0, inner.2, (search rules), refl, (search rules)))
