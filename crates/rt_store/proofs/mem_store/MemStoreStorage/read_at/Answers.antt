use Rattle.rt_store.proofs.Prelude.{rules}
use Rattle.rt_store.proofs.Kept.{read_keeps, read_leaves}
use Rattle.rt_store.proofs.mem_store.MemStoreStorage.read_at.Goals as goal

pub returns-clause-bytes : goal.returns-clause-bytes
returns-clause-bytes g c =
    let gives = c.read_into-answer.ensures.gives in
    read_keeps c.args.self.now c.count.new.self c.args.blob.now c.args.offset c.args.len c.read_into-answer.result gives.0 gives.2 (search rules)

pub returns-clause-others : goal.returns-clause-others
returns-clause-others g c = read_leaves c.args.self.now c.count.new.self c.read_into-answer.result (search rules)
