use Rattle.rt_buffer.proofs.Prelude.{delayed_apart, delayed_bytes, delayed_left, delayed_of, delayed_opened, delayed_promised}
use Rattle.rt_buffer.proofs.DelayedOthers.{ends_leave, ends_one}
use Rattle.rt_buffer.proofs.Seen.{seen_one, seen_ticket}
use Rattle.rt_buffer.proofs.delayed_sync.DelayedSyncContextStorage.give_up_sync.Goals as goal

pub returns-clause-one : goal.returns-clause-one
returns-clause-one g c =
    seen_one delayed_of (λ k. k.number) (delayed_bytes g.S.Storage) (delayed_left g.S.Storage) (delayed_promised g.S.Storage) (delayed_apart g.S.Storage) (delayed_opened g.S.Storage) c.args.self.now c.args.ticket (ends_one g.S.Storage c.args.ticket (delayed_of c.args.self.now) (delayed_of c.end_ticket.new.self) c.end_ticket.ensures.gives)

pub returns-clause-others : goal.returns-clause-others
returns-clause-others g c =
    seen_ticket delayed_of (λ k. k.number) (delayed_bytes g.S.Storage) (delayed_left g.S.Storage) (delayed_promised g.S.Storage) (delayed_apart g.S.Storage) (delayed_opened g.S.Storage) c.args.self.now c.end_ticket.new.self c.args.ticket
    (λ n is. ends_leave g.S.Storage n c.args.ticket (delayed_of c.args.self.now) (delayed_of c.end_ticket.new.self) c.end_ticket.ensures.gives is)
