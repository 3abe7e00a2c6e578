use Rattle.rt_fixtures.proofs.Prelude.{true, Some, ◌∷◌, ◌++◌, refl, ap, inl, rules, Happened, codes, named}
use Rattle.rt_fixtures.proofs.NotingLemmas.{adds-around, closing-same}
use Rattle.rt_fixtures.proofs.noting.NotingNetwork.dial.Goals as goal

pub returns-in-Ok-clause-gives : goal.returns-in-Ok-clause-gives
returns-in-Ok-clause-gives g c =
    let inner = c.dial.ensures.gives in
    (_, adds-around _ _ _ _ _ inner.0 _ c.in_ok-endings.ensures.noted inner.1 c.note_end.ensures.noted, inl (inner.0, (search (rules, inner.2)), (ap (λ xs. Happened (named (codes "dial_attempt")) ∷ (inner.0 ++ xs)) (closing-same _ _ _ _ (Some true) (Some true) c.in_ok-endings.ensures.events.0 c.in_ok-endings.ensures.events.1 refl)), (search rules), refl))

pub returns-in-Err-clause-gives : goal.returns-in-Err-clause-gives
returns-in-Err-clause-gives g c =
    let inner = c.dial.ensures.gives in
    (_, adds-around _ _ _ _ _ inner.0 _ c.in_ok-endings.ensures.noted inner.1 c.note_end-in-Err.ensures.noted, inl (inner.0, (search (rules, inner.2)), (ap (λ xs. Happened (named (codes "dial_attempt")) ∷ (inner.0 ++ xs)) (closing-same _ _ _ _ _ _ c.in_ok-endings.ensures.events.0 c.in_ok-endings.ensures.events.1 c.refusal.ensures)), tt, refl))
