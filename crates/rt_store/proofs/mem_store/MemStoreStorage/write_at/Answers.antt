use Rattle.rt_store.proofs.Prelude.{rules}
use Rattle.rt_store.specs.declared.mutation.Mutation.TheVariants as change
use Rattle.rt_store.proofs.Kept.{given_up_leaves, mutated_leaves, write_keeps}
use Rattle.rt_store.proofs.mem_store.MemStoreStorage.write_at.Goals as goal

pub returns-clause-durable : goal.returns-clause-durable
returns-clause-durable g c =
    let gives = c.write-answer.ensures.gives in
    write_keeps c.args.self.now c.count.new.self c.args.blob.now c.args.offset c.args.bufs c.args.options c.write-answer.result gives.0 gives.2 (search rules)

pub returns-clause-others : goal.returns-clause-others
returns-clause-others g c = mutated_leaves c.args.self.now c.count.new.self c.args.blob.now (change.Write c.args.offset c.args.bufs.bytes c.args.options.sync) c.write-answer.result (search rules)

pub returns-clause-given_up : goal.returns-clause-given_up
returns-clause-given_up g c =
    given_up_leaves c.args.self.now c.count.new.self c.args.blob.now c.args.options c.write-answer.result
    (mutated_leaves c.args.self.now c.count.new.self c.args.blob.now (change.Write c.args.offset c.args.bufs.bytes c.args.options.sync) c.write-answer.result (search rules))
