-- Named by the clauses `writes_back` of `DelayedSyncContext::pending_mut` and `inner_mut` alone: how a store lends the syncs
-- that it holds back, and its inner store.
use Rattle.std.specs.Borrow.{Lends, RattleType, MutBor, Fml}
use Rattle.rt_buffer.specs.contracts.delayed_sync.DelayedSyncContext as store
use Rattle.rt_buffer.specs.contracts.pending_syncs.PendingSyncs as pending
use Rattle.rt_buffer.specs.declared.delayed_sync.DelayedSyncContext.{DelayedSyncContext}
use Rattle.rt_buffer.specs.Pending.{Pending}

-- what is last written through the result is what is held, and all else stays
module _ (S B : RattleType) (s : MutBor (DelayedSyncContext S.Denot B.Denot)) where
  abbrev pub lends_pending : MutBor Pending → Fml
  lends_pending r = Lends (store.the_row S B) pending.the_row s r (λ p. record s.now { pending = p })

  -- the same of the inner store
  abbrev pub lends_inner : MutBor S.Denot → Fml
  lends_inner r = Lends (store.the_row S B) S s r (λ i. record s.now { inner = i })
