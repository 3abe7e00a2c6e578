use Rattle.rt_buffer.proofs.Seen.{seen_one, seen_poll, seen_ticket}
use Rattle.rt_buffer.proofs.write_fault.WriteFaultContextStorage.poll_sync.Goals as goal

pub returns-clause-durable : goal.returns-clause-durable
returns-clause-durable g c =
    seen_poll (λ s. s.inner) (λ k. k.inner) g.S.Storage.bytes g.S.Storage.left g.S.Storage.promised c.args.self.now (record c.args.self.now { inner = c.poll_sync.new.self }) c.args.ticket.now c.poll_sync.new.ticket c.poll_sync.ensures.durable

pub returns-clause-one : goal.returns-clause-one
returns-clause-one g c =
    seen_one (λ s. s.inner) (λ k. k.inner) g.S.Storage.bytes g.S.Storage.left g.S.Storage.promised g.S.Storage.apart g.S.Storage.opened c.args.self.now c.args.ticket.now c.poll_sync.ensures.one

pub returns-clause-others : goal.returns-clause-others
returns-clause-others g c =
    seen_ticket (λ s. s.inner) (λ k. k.inner) g.S.Storage.bytes g.S.Storage.left g.S.Storage.promised g.S.Storage.apart g.S.Storage.opened c.args.self.now (record c.args.self.now { inner = c.poll_sync.new.self }) c.args.ticket.now c.poll_sync.ensures.others
