use Rattle.rt_fixtures.proofs.Prelude.{[], ◌++◌, refl, ap, subst, inl, inr, rules, Adds, receipt}
use Rattle.rt_fixtures.proofs.NotingLemmas.{adds-none, adds-both, closing-same}
use Rattle.rt_fixtures.proofs.noting.NotingNetwork.poll_recv.Goals as goal

pub returns-in_err-room-clause-gives : goal.returns-in_err-room-clause-gives
returns-in_err-room-clause-gives g c = ([], adds-none _ _ refl, inr ((search rules), refl, refl, refl))

pub returns-in_err-endings-clause-gives : goal.returns-in_err-endings-clause-gives
returns-in_err-endings-clause-gives g c = ([], adds-none _ _ (search rules), inr ((search rules), refl, refl, refl))

pub returns-in-Ok-clause-gives : goal.returns-in-Ok-clause-gives
returns-in-Ok-clause-gives g c =
    let inner = c.poll_recv.ensures.gives in
    (_, adds-both _ _ _ inner.0 _ (subst (λ o. Adds o inner.0 (g.E.Env.noted c.poll_recv.new.env)) c.go_on.ensures.noted inner.1) c.note_bytes.ensures.noted, inl (inner.0, (search (rules, inner.2)), (ap (λ e. inner.0 ++ receipt e c.in-Ok.answer) c.in_ok-endings.ensures.events.0), refl, (search rules)))

pub returns-in-Err-clause-gives : goal.returns-in-Err-clause-gives
returns-in-Err-clause-gives g c =
    let inner = c.poll_recv.ensures.gives in
    (_, adds-both _ _ _ inner.0 _ (subst (λ o. Adds o inner.0 (g.E.Env.noted c.poll_recv.new.env)) c.go_on.ensures.noted inner.1) c.note_end.ensures.noted, inl (inner.0, (search (rules, inner.2)), (ap (λ xs. inner.0 ++ xs) (closing-same _ _ _ _ _ _ c.in_ok-endings.ensures.events.0 c.in_ok-endings.ensures.events.1 c.refusal.ensures)), refl, (search rules)))
