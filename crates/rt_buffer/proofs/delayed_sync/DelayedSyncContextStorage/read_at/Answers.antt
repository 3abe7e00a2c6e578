use Rattle.rt_buffer.proofs.Prelude.{refl, delayed_apart, delayed_bytes, delayed_left, delayed_of, delayed_opened, delayed_promised}
use Rattle.rt_buffer.proofs.DelayedKept.{reads_keep}
use Rattle.rt_buffer.proofs.DelayedOthers.{reads_leave}
use Rattle.rt_buffer.proofs.Seen.{seen_all}
use Rattle.rt_buffer.proofs.delayed_sync.DelayedSyncContextStorage.read_at.Goals as goal

pub returns-clause-bytes : goal.returns-clause-bytes
returns-clause-bytes g c =
    reads_keep g.S.Storage c.args.blob.now.number _ c.args.offset c.args.len c.args.options (delayed_of c.args.self.now) c.read_blob.result (delayed_of c.read_blob.new.self) c.read_blob.ensures.gives.0 refl c.read_blob.ensures.gives.2

pub returns-clause-others : goal.returns-clause-others
returns-clause-others g c =
    seen_all delayed_of (λ k. k.number) (delayed_bytes g.S.Storage) (delayed_left g.S.Storage) (delayed_promised g.S.Storage) (delayed_apart g.S.Storage) (delayed_opened g.S.Storage) c.args.self.now c.read_blob.new.self
    (reads_leave g.S.Storage _ c.args.offset c.args.len c.args.options (delayed_of c.args.self.now) c.read_blob.result (delayed_of c.read_blob.new.self) c.read_blob.ensures.gives.0 c.read_blob.ensures.gives.2)
