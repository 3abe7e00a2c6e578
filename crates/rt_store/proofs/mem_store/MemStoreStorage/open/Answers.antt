use Rattle.rt_store.proofs.Prelude.{rules}
use Rattle.rt_store.proofs.Kept.{open_apart}
use Rattle.rt_store.proofs.mem_store.MemStoreStorage.«open».Goals as goal

pub returns-clause-apart : goal.returns-clause-apart
returns-clause-apart g c =
    let gives = c.open_default-answer.ensures.gives in
    open_apart c.args.self.now c.count.new.self c.args.partition.now c.args.name.now c.open_default-answer.result gives.0 gives.2 (search rules)
