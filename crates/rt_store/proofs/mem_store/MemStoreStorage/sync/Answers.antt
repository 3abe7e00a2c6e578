use Rattle.rt_store.proofs.Prelude.{rules}
use Rattle.rt_store.proofs.Kept.{sync_keeps, synced_leaves}
use Rattle.rt_store.proofs.mem_store.MemStoreStorage.sync.Goals as goal

pub returns-clause-durable : goal.returns-clause-durable
returns-clause-durable g c =
    let gives = c.save_now-answer.ensures.gives in
    sync_keeps c.args.self.now c.count.new.self c.args.blob.now c.save_now-answer.result gives.0 gives.2 (search rules)

pub returns-clause-others : goal.returns-clause-others
returns-clause-others g c = synced_leaves c.args.self.now c.count.new.self c.args.blob.now c.save_now-answer.result (search rules)
