use Rattle.rt_buffer.proofs.Prelude.{delayed_apart, delayed_bytes, delayed_left, delayed_of, delayed_opened, delayed_promised}
use Rattle.rt_buffer.proofs.DelayedOthers.{closes_leave}
use Rattle.rt_buffer.proofs.Seen.{seen_leaves}
use Rattle.rt_buffer.proofs.delayed_sync.DelayedSyncContextStorage.close.Goals as goal

pub returns-clause-others : goal.returns-clause-others
returns-clause-others g c =
    seen_leaves delayed_of (λ k. k.number) (delayed_bytes g.S.Storage) (delayed_left g.S.Storage) (delayed_promised g.S.Storage) (delayed_apart g.S.Storage) (delayed_opened g.S.Storage) c.args.blob c.args.self.now c.let_go.new.self
    (closes_leave g.S.Storage c.args.blob.number (delayed_of c.args.self.now) (delayed_of c.let_go.new.self) c.let_go.ensures.lets_go)
