use Rattle.rt_buffer.proofs.Seen.{seen_one, seen_ticket}
use Rattle.rt_buffer.proofs.sync_fault.SyncFaultContextStorage.give_up_sync.Goals as goal

pub returns-clause-one : goal.returns-clause-one
returns-clause-one g c =
    seen_one (λ s. s.inner) (λ k. k.inner) g.S.Storage.bytes g.S.Storage.left g.S.Storage.promised g.S.Storage.apart g.S.Storage.opened c.args.self.now c.args.ticket c.give_up_sync.ensures.one

pub returns-clause-others : goal.returns-clause-others
returns-clause-others g c =
    seen_ticket (λ s. s.inner) (λ k. k.inner) g.S.Storage.bytes g.S.Storage.left g.S.Storage.promised g.S.Storage.apart g.S.Storage.opened c.args.self.now (record c.args.self.now { inner = c.give_up_sync.new.self }) c.args.ticket c.give_up_sync.ensures.others
