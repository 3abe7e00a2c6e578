-- Settings that are lent.
use Rattle.std.specs.Borrow.{Lends, MutBor, Fml}
use Rattle.rt_store.specs.contracts.faults.FaultConfig as faults
use Rattle.rt_store.specs.contracts.mem_store.MemStore as store
use Rattle.rt_store.specs.declared.faults.FaultConfig.{FaultConfig}
use Rattle.rt_store.specs.Kept.{Kept}

-- what is last written through the result are the store's settings, and all else stays
abbrev pub LendsFaults : MutBor Kept → MutBor FaultConfig → Fml
LendsFaults s r = Lends store.the_row faults.the_row s r (λ f. record s.now { faults = f })
