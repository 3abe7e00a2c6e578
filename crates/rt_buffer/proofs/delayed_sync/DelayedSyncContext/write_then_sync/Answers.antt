use Rattle.rt_buffer.proofs.Prelude.{◌+◌, ◌≤◌, List, Option, Ok, true, arith, refl, sym, subst, IfSome, Notes, Noted, SyncsAt, blob_at, delayed, moved, gate_of, Now, Gated}
use Rattle.rt_buffer.proofs.Holding.{counts_done_behind, gated_then, written_then}
use Rattle.rt_buffer.proofs.Mocks.{counts_done_up}
use Rattle.rt_buffer.proofs.delayed_sync.DelayedSyncContext.write_then_sync.Goals as goal

pub returns-in-Ok-Now-clause-writes : goal.returns-in-Ok-Now-clause-writes
returns-in-Ok-Now-clause-writes g c =
    let gives = rw (c.in-Ok-Now.field-0-is, c.without-plain.ensures) at c.in-Ok-Now.ensures.gives in
    let k = g.S.Storage in
    let Blob : Type 0 = g.row.S-Blob.Denot in
    let o = c.args.self.now in
    let n = c.sync_open.new.self in
    let old = delayed o.inner o.pending o.blobs.items o.tickets.items o.refusals in
    let new = delayed n.inner n.pending n.blobs.items n.tickets.items n.refusals in
    let between = g.E.Env.noted c.write_at.new.env in
    let behind = g.E.Env.noted c.sync_open.new.env in
    written_then k c.args.number c.in-Some.inner.now (blob_at o.blobs.items c.args.number) true c.args.offset c.args.bufs c.args.options old c.sync_open.result new
    (Ok Now) c.write_at.new.self (g.E.Env.noted c.args.env.now) between behind (sym (rw c.as_slice.ensures.value at c.in-Some.ensures)) refl
    (gives.0, gives.1, (gives.2, (rw (c.in-Ok-Now.field-0-is, c.without-plain.ensures) at c.in-Ok-Now.ensures.durable), (rw (c.in-Ok-Now.field-0-is, c.without-plain.ensures) at c.in-Ok-Now.ensures.given_up), c.in-Ok-Now.ensures.others))
    (subst (λ (b : Option Blob). Notes between (λ (z : List Noted). IfSome b (λ b. SyncsAt k c.args.number b (gate_of o.pending) (moved old c.write_at.new.self) c.sync_open.result new z)) behind) (sym (rw c.as_slice.ensures.value at c.in-Some.ensures)) c.sync_open.ensures.syncs)

pub returns-in-Ok-Gated-clause-writes : goal.returns-in-Ok-Gated-clause-writes
returns-in-Ok-Gated-clause-writes g c =
    let gives = rw (c.in-Ok-Gated.field-0-is, c.without-plain.ensures) at c.in-Ok-Gated.ensures.gives in
    let k = g.S.Storage in
    let Blob : Type 0 = g.row.S-Blob.Denot in
    let o = c.args.self.now in
    let r = c.sync_open-in-Ok-Gated.result in
    let n = c.sync_open-in-Ok-Gated.new.self in
    let old = delayed o.inner o.pending o.blobs.items o.tickets.items o.refusals in
    let new = delayed n.inner n.pending n.blobs.items n.tickets.items n.refusals in
    let between = g.E.Env.noted c.write_at.new.env in
    let behind = g.E.Env.noted c.sync_open-in-Ok-Gated.new.env in
    written_then k c.args.number c.in-Some.inner.now (blob_at o.blobs.items c.args.number) true c.args.offset c.args.bufs c.args.options old r new
    (Ok (Gated c.in-Ok-Gated.ticket)) c.write_at.new.self (g.E.Env.noted c.args.env.now) between behind (sym (rw c.as_slice.ensures.value at c.in-Some.ensures)) refl
    (gives.0, gives.1, (gives.2, (rw (c.in-Ok-Gated.field-0-is, c.without-plain.ensures) at c.in-Ok-Gated.ensures.durable), (rw (c.in-Ok-Gated.field-0-is, c.without-plain.ensures) at c.in-Ok-Gated.ensures.given_up), c.in-Ok-Gated.ensures.others))
    (gated_then k c.args.number c.in-Some.inner.now c.in-Ok-Gated.ticket (moved old c.write_at.new.self) c.give_up_sync.new.self r new between behind (c.give_up_sync.ensures.gives, c.give_up_sync.ensures.one, c.give_up_sync.ensures.others)
    (subst (λ (b : Option Blob). Notes between (λ (z : List Noted). IfSome b (λ b. SyncsAt k c.args.number b (gate_of o.pending) (moved old c.give_up_sync.new.self) r new z)) behind) (sym (rw c.as_slice.ensures.value at c.in-Some.ensures)) c.sync_open-in-Ok-Gated.ensures.syncs))

pub returns-in-Ok-Now-clause-counts : goal.returns-in-Ok-Now-clause-counts
returns-in-Ok-Now-clause-counts g c =
    let own = c.args.self.now.refusals in
    let low = g.S.Storage.refusals c.args.self.now.inner in
    let mid = g.S.Storage.refusals c.write_at.new.self in
    let up : low + own ≤ mid + own = omega (arith, counts_done_up low mid (Ok c.in-Ok-Now.field-0) c.in-Ok-Now.ensures.counts) in
    counts_done_behind (low + own) (mid + own) (g.S.Storage.refusals c.sync_open.new.self.inner + c.sync_open.new.self.refusals) c.sync_open.result up c.sync_open.ensures.counts

pub returns-in-Ok-Gated-clause-counts : goal.returns-in-Ok-Gated-clause-counts
returns-in-Ok-Gated-clause-counts g c =
    let own = c.args.self.now.refusals in
    let low = g.S.Storage.refusals c.args.self.now.inner in
    let mid = g.S.Storage.refusals c.write_at.new.self in
    let last = g.S.Storage.refusals c.give_up_sync.new.self in
    let r = c.sync_open-in-Ok-Gated.result in
    let n = c.sync_open-in-Ok-Gated.new.self in
    let up : low + own ≤ last + own = omega (arith, counts_done_up low mid (Ok c.in-Ok-Gated.field-0) c.in-Ok-Gated.ensures.counts, c.give_up_sync.ensures.counts) in
    counts_done_behind (low + own) (last + own) (g.S.Storage.refusals n.inner + n.refusals) r up c.sync_open-in-Ok-Gated.ensures.counts
