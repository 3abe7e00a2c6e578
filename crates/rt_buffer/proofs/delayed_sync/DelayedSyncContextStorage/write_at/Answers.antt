use Rattle.rt_buffer.proofs.Prelude.{refl, delayed_apart, delayed_bytes, delayed_left, delayed_of, delayed_opened, delayed_promised}
use Rattle.rt_buffer.proofs.DelayedKept.{writes_keep}
use Rattle.rt_buffer.proofs.DelayedOthers.{writes_leave, writes_let_go}
use Rattle.rt_buffer.proofs.Seen.{seen_leaves, seen_write}
use Rattle.rt_buffer.proofs.delayed_sync.DelayedSyncContextStorage.write_at.Goals as goal

pub returns-clause-durable : goal.returns-clause-durable
returns-clause-durable g c =
    seen_write delayed_of (λ k. k.number) (delayed_bytes g.S.Storage) (delayed_left g.S.Storage) (delayed_promised g.S.Storage) c.args.self.now c.write_blob.new.self c.args.blob.now c.args.offset c.args.bufs c.args.options c.write_blob.result
    (writes_keep g.S.Storage c.args.blob.now.number _ _ c.args.offset c.args.bufs c.args.options (delayed_of c.args.self.now) c.write_blob.result (delayed_of c.write_blob.new.self) c.write_blob.ensures.gives.0 refl c.write_blob.ensures.gives.2)

pub returns-clause-given_up : goal.returns-clause-given_up
returns-clause-given_up g c =
    λ t after plainly is gives.
    let gone = writes_let_go g.S.Storage c.args.blob.now.number _ _ c.args.self.now.pending.is_armed c.args.offset c.args.bufs c.args.options (delayed_of c.args.self.now) c.write_blob.result (delayed_of c.write_blob.new.self) c.write_blob.ensures.gives.0 refl refl c.write_blob.ensures.gives.2 t (delayed_of after) plainly is gives.0 in
    (gone.0, seen_leaves delayed_of (λ k. k.number) (delayed_bytes g.S.Storage) (delayed_left g.S.Storage) (delayed_promised g.S.Storage) (delayed_apart g.S.Storage) (delayed_opened g.S.Storage) c.args.blob.now c.args.self.now after gone.1)

pub returns-clause-others : goal.returns-clause-others
returns-clause-others g c =
    seen_leaves delayed_of (λ k. k.number) (delayed_bytes g.S.Storage) (delayed_left g.S.Storage) (delayed_promised g.S.Storage) (delayed_apart g.S.Storage) (delayed_opened g.S.Storage) c.args.blob.now c.args.self.now c.write_blob.new.self
    (writes_leave g.S.Storage c.args.blob.now.number _ _ c.args.offset c.args.bufs c.args.options (delayed_of c.args.self.now) c.write_blob.result (delayed_of c.write_blob.new.self) c.write_blob.ensures.gives.0 refl c.write_blob.ensures.gives.2)
