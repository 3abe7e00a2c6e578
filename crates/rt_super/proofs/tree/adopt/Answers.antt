use Rattle.rt_super.proofs.Prelude.{refl, Bool, Option, ℕ}
use Rattle.rt_super.proofs.Shapes.{on_err, set_keeps, children_set}
use Rattle.rt_super.proofs.tree.adopt.Goals as goal

pub returns-in_err-push-clause-parents : goal.returns-in_err-push-clause-parents
returns-in_err-push-clause-parents c = set_keeps (λ z. z.parent) _ _ _ _ c.index_mut.ensures.value refl

pub returns-in_err-push-clause-states : goal.returns-in_err-push-clause-states
returns-in_err-push-clause-states c = set_keeps {X = Bool × Option ℕ} (λ z. (z.live, z.task)) _ _ _ _ c.index_mut.ensures.value refl

pub returns-in_err-push-clause-refused : goal.returns-in_err-push-clause-refused
returns-in_err-push-clause-refused c = on_err _ (set_keeps (λ z. z.children) _ _ _ _ c.index_mut.ensures.value c.in_err-push.ensures.refused)

pub returns-in_ok-push-clause-parents : goal.returns-in_ok-push-clause-parents
returns-in_ok-push-clause-parents c = set_keeps (λ z. z.parent) _ _ _ _ c.index_mut.ensures.value refl

pub returns-in_ok-push-clause-states : goal.returns-in_ok-push-clause-states
returns-in_ok-push-clause-states c = set_keeps {X = Bool × Option ℕ} (λ z. (z.live, z.task)) _ _ _ _ c.index_mut.ensures.value refl

pub returns-in_ok-push-clause-adopted : goal.returns-in_ok-push-clause-adopted
returns-in_ok-push-clause-adopted c =
    rw (c.in-Some.is) (children_set _ _ _ _ _ (c.requires.known c.in-Some.parent c.in-Some.is) c.index_mut.ensures.value c.in_ok-push.ensures.pushed)
