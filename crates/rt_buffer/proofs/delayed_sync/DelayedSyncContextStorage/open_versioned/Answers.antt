use Rattle.rt_buffer.proofs.Prelude.{refl, IsOpenVersioned, delayed_apart, delayed_bytes, delayed_left, delayed_of, delayed_opened, delayed_promised}
use Rattle.rt_buffer.proofs.DelayedOthers.{opens_leave}
use Rattle.rt_buffer.proofs.Seen.{seen_numbers}
use Rattle.rt_buffer.proofs.delayed_sync.DelayedSyncContextStorage.open_versioned.Goals as goal

pub returns-clause-apart : goal.returns-clause-apart
returns-clause-apart g c =
    seen_numbers delayed_of (λ k. k.number) (delayed_bytes g.S.Storage) (delayed_left g.S.Storage) (delayed_promised g.S.Storage) (delayed_apart g.S.Storage) (delayed_opened g.S.Storage) (λ a. a.0) c.args.self.now c.open_with.new.self c.open_with.result
    (opens_leave g.S.Storage (λ low new x. IsOpenVersioned g.S.Storage c.args.self.now.inner c.args.partition.now c.args.name.now c.args.versions low new x) (λ b a. (b, a.1, a.2)) (λ a. a.0.number) (λ a. a.0) (λ b a. refl) c.open_with.result (delayed_of c.args.self.now) (delayed_of c.open_with.new.self) c.open_with.ensures.gives.0
    (λ low new x did. did.1) c.open_with.ensures.gives.2)
