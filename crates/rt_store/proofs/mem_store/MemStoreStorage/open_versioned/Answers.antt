use Rattle.rt_store.proofs.Prelude.{rules}
use Rattle.rt_store.proofs.Kept.{versioned_apart}
use Rattle.rt_store.proofs.mem_store.MemStoreStorage.open_versioned.Goals as goal

pub returns-clause-apart : goal.returns-clause-apart
returns-clause-apart g c =
    let gives = c.open_blob-answer.ensures.gives in
    versioned_apart c.args.self.now c.count.new.self c.args.partition.now c.args.name.now c.args.versions c.open_blob-answer.result gives.0 gives.2 (search rules)
