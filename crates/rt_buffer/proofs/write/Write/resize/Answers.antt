use Rattle.rt_buffer.proofs.Prelude.{refl, writer, laid_over, resized}
use Rattle.rt_buffer.specs.declared.write_op.Rest.TheVariants as work
use Rattle.rt_buffer.proofs.Durable.{call_keeps, unseen}
use Rattle.rt_buffer.proofs.Framed.{runs}
use Rattle.rt_buffer.proofs.write.Write.resize.Goals as goal

pub returns-clause-flat : goal.returns-clause-flat
returns-clause-flat g c = λ lies knows.
    let runs = c.run.ensures.runs in
    unseen _ _ c.run.result _ _ (call_keeps g.S.Storage c.args.self.blob c.args.task (resized c.args.len (laid_over c.args.self.held.tip (g.S.Storage.bytes c.args.store.now c.args.self.blob))) (work.Resize c.args.len)
    (writer c.args.store.now c.args.self.held) c.run.new.store _ runs.0 (laid_over c.args.self.held.tip (g.S.Storage.bytes c.args.store.now c.args.self.blob), refl, (lies, refl, knows)) runs.2)

pub returns-clause-others : goal.returns-clause-others
returns-clause-others g c = λ knows.
    let ran = c.run.ensures.runs in
    let came = runs g.S.Storage c.args.self.blob (work.Resize c.args.len) c.args.task (writer c.args.store.now c.args.self.held) c.run.new.store _ ran.0 knows ran.2 in
    (came.0, unseen _ _ c.run.result _ _ came.1)
