use Rattle.rt_fixtures.proofs.Prelude.{◌∷◌, ◌++◌, refl, ap, inl, rules, Happened, codes, named}
use Rattle.rt_fixtures.proofs.NotingLemmas.{adds-around, closing-same}
use Rattle.rt_fixtures.proofs.noting.NotingNetwork.accept.Goals as goal

pub returns-clause-gives : goal.returns-clause-gives
returns-clause-gives g c =
    let inner = c.accept.ensures.gives in
    (_, adds-around _ _ _ _ _ inner.0 _ c.in_ok-endings.ensures.noted inner.1 c.note_end.ensures.noted, inl (inner.0, (search (rules, inner.2)), (ap (λ xs. Happened (named (codes "accept_attempt")) ∷ (inner.0 ++ xs)) (closing-same _ _ _ _ _ _ c.in_ok-endings.ensures.events.0 c.in_ok-endings.ensures.events.1 c.ending.ensures)), c.taken-answer.ensures.dialer, refl, refl))
