use Rattle.rt_buffer.proofs.Prelude.{refl, delayed_apart, delayed_bytes, delayed_left, delayed_of, delayed_opened, delayed_promised}
use Rattle.rt_buffer.proofs.DelayedKept.{starts_keep}
use Rattle.rt_buffer.proofs.DelayedOthers.{starts_leave}
use Rattle.rt_buffer.proofs.Seen.{seen_leaves, seen_start}
use Rattle.rt_buffer.proofs.delayed_sync.DelayedSyncContextStorage.start_sync.Goals as goal

pub returns-clause-durable : goal.returns-clause-durable
returns-clause-durable g c =
    seen_start delayed_of (λ k. k.number) (delayed_bytes g.S.Storage) (delayed_left g.S.Storage) (delayed_promised g.S.Storage) c.args.self.now c.start_blob.new.self c.args.blob.now c.start_blob.result
    (starts_keep g.S.Storage c.args.blob.now.number _ (delayed_of c.args.self.now) c.start_blob.result (delayed_of c.start_blob.new.self) c.start_blob.ensures.gives.0 refl c.start_blob.ensures.gives.2)

pub returns-clause-others : goal.returns-clause-others
returns-clause-others g c =
    seen_leaves delayed_of (λ k. k.number) (delayed_bytes g.S.Storage) (delayed_left g.S.Storage) (delayed_promised g.S.Storage) (delayed_apart g.S.Storage) (delayed_opened g.S.Storage) c.args.blob.now c.args.self.now c.start_blob.new.self
    (starts_leave g.S.Storage c.args.blob.now.number _ (delayed_of c.args.self.now) c.start_blob.result (delayed_of c.start_blob.new.self) c.start_blob.ensures.gives.0 refl c.start_blob.ensures.gives.2)
