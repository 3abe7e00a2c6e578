use Rattle.rt_store.proofs.Prelude.{rules}
use Rattle.rt_store.proofs.Kept.{start_keeps, synced_leaves}
use Rattle.rt_store.proofs.mem_store.MemStoreStorage.start_sync.Goals as goal

pub returns-clause-gives : goal.returns-clause-gives
returns-clause-gives g c =
    let gives = c.save-answer.ensures.gives in
    (gives.0, gives.1, (c.save-answer.result, gives.2, c.started.ensures.ticket, (search rules)))

pub returns-clause-counts : goal.returns-clause-counts
returns-clause-counts g c = c.started.ensures.counts c.args.self.now.refusals c.count.new.self.refusals (search rules)

pub returns-clause-durable : goal.returns-clause-durable
returns-clause-durable g c =
    let gives = c.save-answer.ensures.gives in
    start_keeps c.args.self.now c.count.new.self c.args.blob.now c.save-answer.result c.started.result gives.0 gives.2 c.started.ensures.ticket (search rules)

pub returns-clause-others : goal.returns-clause-others
returns-clause-others g c = synced_leaves c.args.self.now c.count.new.self c.args.blob.now c.save-answer.result (search rules)
