use Rattle.std.specs.Prelude.{OnOk}
use Rattle.std.proofs.Common.{subst}
use Rattle.rt_buffer.specs.Memory.{CrashLeaves}
use Rattle.rt_store.specs.Memory.{memory_bytes}
use Rattle.rt_buffer.specs.Tip.{laid_over}
use Rattle.rt_store.specs.declared.blob.Blob.{Blob}
use Rattle.rt_buffer_tests.proofs.durable.save.Goals as goal

pub returns-in-Done : goal.returns-in-Done
returns-in-Done c = record {
  crash = λ lies knows.
      let content = laid_over c.args.writer.held.tip (memory_bytes c.args.store.now c.args.writer.blob) in
      let kept = c.in-Done.ensures.durable lies knows in
      subst (λ (b : Blob). OnOk c.ask.result (CrashLeaves content c.ask.new.store b)) c.in-Done.ensures.handle.0
      (c.ask.ensures.crash content c.in-Done.ensures.handle.1 (rw c.in-Done.ensures.handle.0 kept));
}
