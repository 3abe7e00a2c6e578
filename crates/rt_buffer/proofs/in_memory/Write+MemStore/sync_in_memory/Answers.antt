use Rattle.rt_buffer.proofs.Prelude.{memory_bytes, laid_over}
use Rattle.rt_buffer.proofs.Crashes.{crash_leaves, memory_all, stepped_by, store_leaves}
use Rattle.rt_buffer.proofs.in_memory.Write+MemStore.sync_in_memory.Goals as goal

pub returns-clause-memory : goal.returns-clause-memory
returns-clause-memory g c = memory_all

pub returns-clause-durable : goal.returns-clause-durable
returns-clause-durable g c = λ lies knows.
    stepped_by c.sync.result _ _ _ _ (λ w kept. (kept, crash_leaves c.sync.new.store c.args.self.blob (laid_over c.args.self.held.tip (memory_bytes c.args.store.now c.args.self.blob)) w.held kept)) (λ p waits. waits)
    (c.sync.ensures.durable lies knows)

pub returns-clause-crash : goal.returns-clause-crash
returns-clause-crash g c = λ lies knows.
    stepped_by c.sync.result _ _ _ _ (λ w kept. store_leaves (laid_over c.args.self.held.tip (memory_bytes c.args.store.now c.args.self.blob)) c.sync.new.store c.args.self.blob kept.0.0 kept.1) (λ p waits. tt)
    (c.sync.ensures.durable lies knows)
