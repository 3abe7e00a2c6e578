use Rattle.rt_store.proofs.Prelude.{rules}
use Rattle.rt_store.proofs.Leading.{keeps_without}
use Rattle.rt_store.proofs.mem_store.MemStore.remove_partition.Goals as goal
use Rattle.rt_store.proofs.mem_store.MemStore.remove_partition.Goals.{in-Some, in_default}

pub invariant_of-self : goal.invariant_of-self
invariant_of-self c =
    let kept = keeps_without c.self.inside.directory c.self.inside.files c.names_in.ensures.shelves c.self.invariant.2 c.args.partition.now in
    elim c.match-names_in.branch [ in-Some w ↦ search (rules, kept) | in_default w ↦ search (rules, kept) ]
