use Rattle.rt_buffer.proofs.Prelude.{refl, delayed_apart, delayed_bytes, delayed_left, delayed_of, delayed_opened, delayed_promised}
use Rattle.rt_buffer.proofs.DelayedKept.{resizes_keep}
use Rattle.rt_buffer.proofs.DelayedOthers.{resizes_leave}
use Rattle.rt_buffer.proofs.Seen.{seen_leaves}
use Rattle.rt_buffer.proofs.delayed_sync.DelayedSyncContextStorage.resize.Goals as goal

pub returns-clause-durable : goal.returns-clause-durable
returns-clause-durable g c =
    resizes_keep g.S.Storage c.args.blob.now.number _ c.args.len (delayed_of c.args.self.now) c.resize_blob.result (delayed_of c.resize_blob.new.self) c.resize_blob.ensures.gives.0 refl c.resize_blob.ensures.gives.2

pub returns-clause-others : goal.returns-clause-others
returns-clause-others g c =
    seen_leaves delayed_of (λ k. k.number) (delayed_bytes g.S.Storage) (delayed_left g.S.Storage) (delayed_promised g.S.Storage) (delayed_apart g.S.Storage) (delayed_opened g.S.Storage) c.args.blob.now c.args.self.now c.resize_blob.new.self
    (resizes_leave g.S.Storage c.args.blob.now.number _ c.args.len (delayed_of c.args.self.now) c.resize_blob.result (delayed_of c.resize_blob.new.self) c.resize_blob.ensures.gives.0 refl c.resize_blob.ensures.gives.2)
