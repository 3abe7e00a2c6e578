use Rattle.rt_fixtures.proofs.Prelude.{[], ◌∷◌, ◌++◌, refl, ap, inl, inr, rules, codes, Happened, named, receipt}
use Rattle.rt_fixtures.proofs.NotingLemmas.{adds-none, adds-around, closing-same}
use Rattle.rt_fixtures.proofs.noting.NotingNetwork.recv.Goals as goal

pub returns-in_err-room-clause-gives : goal.returns-in_err-room-clause-gives
returns-in_err-room-clause-gives g c = ([], adds-none _ _ refl, inr ((search rules), refl, refl, refl))

pub returns-in_err-endings-clause-gives : goal.returns-in_err-endings-clause-gives
returns-in_err-endings-clause-gives g c = ([], adds-none _ _ (search rules), inr ((search rules), refl, refl, refl))

pub returns-in-Ok-clause-gives : goal.returns-in-Ok-clause-gives
returns-in-Ok-clause-gives g c =
    let inner = c.recv.ensures.gives in
    (_, adds-around _ _ _ _ _ inner.0 _ c.in_ok-endings.ensures.noted inner.1 c.note_bytes.ensures.noted, inl (inner.0, (search (rules, inner.2)), (ap (λ e. Happened (named (codes "recv_attempt")) ∷ (inner.0 ++ receipt e c.in-Ok.reply.value)) c.in_ok-endings.ensures.events.0), refl, (search rules)))

pub returns-in-Err-clause-gives : goal.returns-in-Err-clause-gives
returns-in-Err-clause-gives g c =
    let inner = c.recv.ensures.gives in
    (_, adds-around _ _ _ _ _ inner.0 _ c.in_ok-endings.ensures.noted inner.1 c.note_end.ensures.noted, inl (inner.0, (search (rules, inner.2)), (ap (λ xs. Happened (named (codes "recv_attempt")) ∷ (inner.0 ++ xs)) (closing-same _ _ _ _ _ _ c.in_ok-endings.ensures.events.0 c.in_ok-endings.ensures.events.1 c.refusal.ensures)), refl, (search rules)))
