use Rattle.rt_buffer.proofs.Prelude.{Err, Ok, refl, sym, Counts, blob_at, delayed, Gated, Now, Numbered, Ready}
use Rattle.rt_buffer.proofs.Holding.{counts_inner, synced_alone, synced_then}
use Rattle.rt_buffer.proofs.delayed_sync.DelayedSyncContext.sync_released.Goals as goal

pub returns-in-Ok-Gated-Numbered-clause-polls : goal.returns-in-Ok-Gated-Numbered-clause-polls
returns-in-Ok-Gated-Numbered-clause-polls g c =
    let s = g.S.Storage in
    let o = c.args.self.now in
    let n = c.poll_inner.new.self in
    let at = c.in-Ok-Gated-Numbered in
    let gives = rw (at.field-0-is, at.field-0-0-is) at at.ensures.gives in
    synced_then s c.args.number c.args.task c.args.held c.in-Some.inner.now (blob_at o.blobs.items c.args.held.blob)
    (delayed o.inner o.pending o.blobs.items o.tickets.items o.refusals) c.poll_inner.result (delayed n.inner n.pending n.blobs.items n.tickets.items n.refusals)
    (Ok (Gated (Numbered at.gated))) c.sync.new.self (g.E.Env.noted c.args.env.now) (g.E.Env.noted c.sync.new.env) (g.E.Env.noted c.poll_inner.new.env)
    (sym (rw c.as_slice.ensures.value at c.in-Some.ensures)) (gives.0, gives.1, (gives.2, (rw (at.field-0-is, at.field-0-0-is) at at.ensures.durable), at.ensures.others)) (rw c.set_stage.ensures at c.poll_inner.ensures.polls)

pub returns-in-Ok-Gated-Ready-clause-counts : goal.returns-in-Ok-Gated-Ready-clause-counts
returns-in-Ok-Gated-Ready-clause-counts g c =
    let low = g.S.Storage.refusals c.args.self.now.inner in
    let mid = g.S.Storage.refusals c.sync.new.self in
    let high = g.S.Storage.refusals c.answer.new.self.inner in
    let at = c.in-Ok-Gated-Ready in
    let counted : Counts low mid at.answer = rw (at.field-0-is, at.field-0-0-is) at at.ensures.counts in
    rw c.answer.ensures.answers.0 (counts_inner low mid high c.args.self.now.refusals c.answer.new.self.refusals at.answer counted c.answer.ensures.counts c.answer.ensures.own)

pub returns-in-Ok-Now-clause-polls : goal.returns-in-Ok-Now-clause-polls
returns-in-Ok-Now-clause-polls g c =
    let o = c.args.self.now in
    let n = c.finish.new.self in
    let at = c.in-Ok-Now in
    let gives = rw at.field-0-is at at.ensures.gives in
    synced_alone g.S.Storage c.args.number c.args.task c.args.held c.in-Some.inner.now (blob_at o.blobs.items c.args.held.blob)
    (delayed o.inner o.pending o.blobs.items o.tickets.items o.refusals) _ (delayed n.inner n.pending n.blobs.items n.tickets.items n.refusals)
    (Ok Now) c.sync.new.self (g.E.Env.noted c.args.env.now) (g.E.Env.noted c.sync.new.env)
    (sym (rw c.as_slice.ensures.value at c.in-Some.ensures)) (gives.0, gives.1, (gives.2, (rw at.field-0-is at at.ensures.durable), at.ensures.others)) (refl, c.finish.ensures.finishes, refl)

pub returns-in-Ok-Gated-Ready-clause-polls : goal.returns-in-Ok-Gated-Ready-clause-polls
returns-in-Ok-Gated-Ready-clause-polls g c =
    let o = c.args.self.now in
    let n = c.answer.new.self in
    let at = c.in-Ok-Gated-Ready in
    let gives = rw (at.field-0-is, at.field-0-0-is) at at.ensures.gives in
    synced_alone g.S.Storage c.args.number c.args.task c.args.held c.in-Some.inner.now (blob_at o.blobs.items c.args.held.blob)
    (delayed o.inner o.pending o.blobs.items o.tickets.items o.refusals) _ (delayed n.inner n.pending n.blobs.items n.tickets.items n.refusals)
    (Ok (Gated (Ready at.answer))) c.sync.new.self (g.E.Env.noted c.args.env.now) (g.E.Env.noted c.sync.new.env)
    (sym (rw c.as_slice.ensures.value at c.in-Some.ensures)) (gives.0, gives.1, (gives.2, (rw (at.field-0-is, at.field-0-0-is) at at.ensures.durable), at.ensures.others)) (c.answer.ensures.answers, refl)

pub returns-in-Err-clause-polls : goal.returns-in-Err-clause-polls
returns-in-Err-clause-polls g c =
    let o = c.args.self.now in
    let n = c.finish-in-Err.new.self in
    let at = c.in-Err in
    let gives = at.ensures.gives in
    synced_alone g.S.Storage c.args.number c.args.task c.args.held c.in-Some.inner.now (blob_at o.blobs.items c.args.held.blob)
    (delayed o.inner o.pending o.blobs.items o.tickets.items o.refusals) _ (delayed n.inner n.pending n.blobs.items n.tickets.items n.refusals)
    (Err at.error) c.sync.new.self (g.E.Env.noted c.args.env.now) (g.E.Env.noted c.sync.new.env)
    (sym (rw c.as_slice.ensures.value at c.in-Some.ensures)) (gives.0, gives.1, (gives.2, at.ensures.durable, at.ensures.others)) (refl, c.finish-in-Err.ensures.finishes, refl)
