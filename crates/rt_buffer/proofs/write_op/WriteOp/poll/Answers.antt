use Rattle.rt_buffer.proofs.Prelude.{writer}
use Rattle.rt_buffer.proofs.Durable.{call_keeps, unseen}
use Rattle.rt_buffer.proofs.Framed.{runs}
use Rattle.rt_buffer.proofs.write_op.WriteOp.poll.Goals as goal

pub returns-clause-durable : goal.returns-clause-durable
returns-clause-durable g c = λ content keeping.
    let runs = c.run.ensures.runs in
    unseen _ _ c.run.result _ _ (call_keeps g.S.Storage c.args.self.write.blob c.args.task content c.args.self.rest
    (writer c.args.store.now c.args.self.write.held) c.run.new.store _ runs.0 keeping runs.2)

pub returns-clause-others : goal.returns-clause-others
returns-clause-others g c = λ knows.
    let ran = c.run.ensures.runs in
    let came = runs g.S.Storage c.args.self.write.blob c.args.self.rest c.args.task (writer c.args.store.now c.args.self.write.held) c.run.new.store _ ran.0 knows ran.2 in
    (came.0, unseen _ _ c.run.result _ _ came.1)
