use Rattle.rt_store.proofs.Prelude.{rules}
use Rattle.rt_store.specs.declared.mutation.Mutation.TheVariants as change
use Rattle.rt_store.proofs.Kept.{mutated_leaves, resize_keeps}
use Rattle.rt_store.proofs.mem_store.MemStoreStorage.resize.Goals as goal

pub returns-clause-durable : goal.returns-clause-durable
returns-clause-durable g c =
    let gives = c.set_len-answer.ensures.gives in
    resize_keeps c.args.self.now c.count.new.self c.args.blob.now c.args.len c.set_len-answer.result gives.0 gives.2 (search rules)

pub returns-clause-others : goal.returns-clause-others
returns-clause-others g c = mutated_leaves c.args.self.now c.count.new.self c.args.blob.now (change.Resize c.args.len) c.set_len-answer.result (search rules)
