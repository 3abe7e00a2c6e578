use Rattle.rt_buffer.proofs.Prelude.{refl, writer, laid_over}
use Rattle.rt_buffer.specs.declared.write_op.Rest.TheVariants as work
use Rattle.rt_buffer.proofs.Durable.{call_keeps, unseen}
use Rattle.rt_buffer.proofs.Framed.{runs}
use Rattle.rt_buffer.proofs.write.Write.sync.Goals as goal

pub returns-clause-durable : goal.returns-clause-durable
returns-clause-durable g c = λ lies knows.
    let runs = c.run.ensures.runs in
    unseen _ _ c.run.result _ _ (call_keeps g.S.Storage c.args.self.blob c.args.task (laid_over c.args.self.held.tip (g.S.Storage.bytes c.args.store.now c.args.self.blob)) work.Sync
    (writer c.args.store.now c.args.self.held) c.run.new.store _ runs.0 (lies, refl, knows) runs.2)

pub returns-clause-others : goal.returns-clause-others
returns-clause-others g c = λ knows.
    let ran = c.run.ensures.runs in
    let came = runs g.S.Storage c.args.self.blob work.Sync c.args.task (writer c.args.store.now c.args.self.held) c.run.new.store _ ran.0 knows ran.2 in
    (came.0, unseen _ _ c.run.result _ _ came.1)
