use Rattle.rt_store.proofs.Prelude.{rules, Notes, blob_of, many_refusal, Refused, refusal_at}
use Rattle.rt_store.proofs.Refusing.{noted_refusal}
use Rattle.rt_store.proofs.mem_store.MemStore.read_ranges.Goals as goal

pub returns-in_err-bufs-clause-gives : goal.returns-in_err-bufs-clause-gives
returns-in_err-bufs-clause-gives g c =
    let rate = c.args.self.now.faults.read_rate in
    let error = c.in_err-bufs.field-0.0 in
    let refusal = refusal_at (blob_of c.args.self.now c.args.blob.now) (many_refusal c.args.ranges.now) in
    let h : Notes (g.E.Env.noted c.args.env.now) (Refused refusal rate error) (g.E.Env.noted c.take_draw.new.env) =
    noted_refusal refusal rate error (g.E.Env.noted c.args.env.now) (g.E.Env.noted c.take_draw.new.env) c.take_draw.ensures.noted c.in_err-bufs.ensures.gives in
    search (rules, h)
