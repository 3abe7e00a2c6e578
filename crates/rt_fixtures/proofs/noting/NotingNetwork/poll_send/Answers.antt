use Rattle.rt_fixtures.proofs.Prelude.{[], refl, subst, inl, inr, rules, Adds}
use Rattle.rt_fixtures.proofs.NotingLemmas.{adds-none, adds-both}
use Rattle.rt_fixtures.proofs.noting.NotingNetwork.poll_send.Goals as goal

pub returns-in_err-endings-clause-gives : goal.returns-in_err-endings-clause-gives
returns-in_err-endings-clause-gives g c = ([], adds-none _ _ (search rules), inr ((search rules), refl, refl, refl))

pub returns-clause-gives : goal.returns-clause-gives
returns-clause-gives g c =
    let inner = c.poll_send-answer.ensures.gives in
    (_, adds-both _ _ _ inner.0 _ (subst (λ o. Adds o inner.0 (g.E.Env.noted c.poll_send-answer.new.env)) c.go_on.ensures.noted inner.1) c.note_end.ensures.noted, inl (inner.0, inner.2, (search rules), refl, refl))
