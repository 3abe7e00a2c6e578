use Rattle.rt_buffer.proofs.sync_fault.SyncFaultContextStorage.read_at.Goals as goal

pub returns-clause-others : goal.returns-clause-others
returns-clause-others g c =
    let o = c.read_at.ensures.others in
    ((λ b. o.0 b.inner), ((λ a b. o.1.0 a.inner b.inner), (λ b. o.1.1 b.inner)))
