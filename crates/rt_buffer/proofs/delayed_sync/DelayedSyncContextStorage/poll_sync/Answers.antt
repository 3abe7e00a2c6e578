use Rattle.rt_buffer.proofs.Prelude.{delayed_apart, delayed_bytes, delayed_left, delayed_of, delayed_opened, delayed_promised}
use Rattle.rt_buffer.proofs.DelayedKept.{polls_keep}
use Rattle.rt_buffer.proofs.DelayedOthers.{polls_leave, polls_one}
use Rattle.rt_buffer.proofs.Seen.{seen_one, seen_poll, seen_ticket}
use Rattle.rt_buffer.proofs.delayed_sync.DelayedSyncContextStorage.poll_sync.Goals as goal

pub returns-clause-durable : goal.returns-clause-durable
returns-clause-durable g c =
    seen_poll delayed_of (λ k. k.number) (delayed_bytes g.S.Storage) (delayed_left g.S.Storage) (delayed_promised g.S.Storage) c.args.self.now c.poll_ticket.new.self c.args.ticket.now c.poll_ticket.new.ticket
    (λ n hopes. polls_keep g.S.Storage c.args.ticket.now n c.args.task (delayed_of c.args.self.now) c.poll_ticket.result (delayed_of c.poll_ticket.new.self) c.poll_ticket.new.ticket c.poll_ticket.ensures.gives.0 c.poll_ticket.ensures.gives.2 hopes)

pub returns-clause-one : goal.returns-clause-one
returns-clause-one g c =
    seen_one delayed_of (λ k. k.number) (delayed_bytes g.S.Storage) (delayed_left g.S.Storage) (delayed_promised g.S.Storage) (delayed_apart g.S.Storage) (delayed_opened g.S.Storage) c.args.self.now c.args.ticket.now (polls_one g.S.Storage c.args.ticket.now c.args.task (delayed_of c.args.self.now) c.poll_ticket.result (delayed_of c.poll_ticket.new.self) c.poll_ticket.new.ticket c.poll_ticket.ensures.gives.0 c.poll_ticket.ensures.gives.2)

pub returns-clause-others : goal.returns-clause-others
returns-clause-others g c =
    seen_ticket delayed_of (λ k. k.number) (delayed_bytes g.S.Storage) (delayed_left g.S.Storage) (delayed_promised g.S.Storage) (delayed_apart g.S.Storage) (delayed_opened g.S.Storage) c.args.self.now c.poll_ticket.new.self c.args.ticket.now
    (λ n is. polls_leave g.S.Storage n c.args.ticket.now c.args.task (delayed_of c.args.self.now) c.poll_ticket.result (delayed_of c.poll_ticket.new.self) c.poll_ticket.new.ticket c.poll_ticket.ensures.gives.0 c.poll_ticket.ensures.gives.2 is)
