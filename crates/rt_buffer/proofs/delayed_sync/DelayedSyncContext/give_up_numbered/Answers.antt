use Rattle.rt_buffer.proofs.Prelude.{◌≡◌, rules, slice_get, delayed, stage_of}
use Rattle.rt_buffer.specs.declared.stage.Stage.TheVariants.{Passed}
use Rattle.rt_buffer.proofs.Holding.{passed_up}
use Rattle.rt_buffer.proofs.delayed_sync.DelayedSyncContext.give_up_numbered.Goals as goal

pub returns-in-Passed-clause-gives_up : goal.returns-in-Passed-clause-gives_up
returns-in-Passed-clause-gives_up g c =
    let o = c.args.self.now in
    let n = c.leave-in-Passed.new.self in
    let up = c.give_up_sync.ensures in
    let is : stage_of (slice_get o.tickets.items c.args.number) ≡ Passed c.in-Passed.passed = search rules in
    passed_up g.S.Storage c.args.number (slice_get o.tickets.items c.args.number) c.in-Passed.passed
    (delayed o.inner o.pending o.blobs.items o.tickets.items o.refusals) (delayed n.inner n.pending n.blobs.items n.tickets.items n.refusals)
    c.give_up_sync.new.self is (up.gives, up.one, up.others) c.leave-in-Passed.ensures.leaves
