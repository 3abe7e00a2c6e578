use Rattle.rt_buffer.proofs.Prelude.{◌&&◌, ◌+◌, ◌≡◌, [], false, rules, sym, blob_at, delayed_of}
use Rattle.rt_buffer.proofs.Mocks.{counts_done_more}
use Rattle.rt_buffer.proofs.Holding.{written_on}
use Rattle.rt_buffer.proofs.Noting.{adds_none}
use Rattle.rt_buffer.proofs.delayed_sync.DelayedSyncContext.write_blob.Goals as goal
use Rattle.rt_buffer.proofs.delayed_sync.DelayedSyncContext.write_blob.Goals.{else-contains-via-then-contains+else-is_armed, else-contains-via-else-contains}

pub returns-clause-counts : goal.returns-clause-counts
returns-clause-counts g c =
    let own = c.args.self.now.refusals in
    let old = g.S.Storage.refusals c.args.self.now.inner in
    let new = g.S.Storage.refusals c.write_at-answer.new.self in
    c.pass_on.ensures.counts (old + own) (new + own) (counts_done_more old new own c.write_at-answer.result c.write_at-answer.ensures.counts)

pub returns-then-not-gate_has_place-clause-gives : goal.returns-then-not-gate_has_place-clause-gives
returns-then-not-gate_has_place-clause-gives g c = ([], adds_none (g.E.Env.noted c.args.env.now), (search rules))

pub returns-clause-gives : goal.returns-clause-gives
returns-clause-gives g c =
    let o = c.args.self.now in
    let at = c.write_at-answer.ensures in
    let plainly : (c.args.options.sync && o.pending.is_armed) ≡ false = elim c.else-contains.branch [
      | else-contains-via-then-contains+else-is_armed w ↦ search rules
      | else-contains-via-else-contains w ↦ search rules
    ] in
    written_on g.S.Storage c.args.blob.now.number c.in-Some.inner.now (blob_at o.blobs.items c.args.blob.now.number) (c.args.options.sync && o.pending.is_armed) c.args.offset c.args.bufs c.args.options
    (delayed_of o) c.pass_on.result _ c.write_at-answer.result (g.E.Env.noted c.args.env.now) (g.E.Env.noted c.write_at-answer.new.env)
    (sym (rw c.as_slice-2.ensures.value at c.in-Some.ensures)) plainly (at.gives.0, at.gives.1, (at.gives.2, at.durable, at.given_up, at.others)) (search rules) (search rules)
