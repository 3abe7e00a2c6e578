use Rattle.rt_store.proofs.Prelude.{rules}
use Rattle.rt_store.proofs.mem_store.MemStore.take_away.Goals as goal

pub returns-in_err-find-clause-gives : goal.returns-in_err-find-clause-gives
returns-in_err-find-clause-gives g c = let h = c.in_err-find.ensures.gives in search (rules, h)
