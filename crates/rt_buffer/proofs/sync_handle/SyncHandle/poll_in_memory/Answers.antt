use Rattle.rt_buffer.proofs.Prelude.{◌∙◌}
use Rattle.rt_buffer.proofs.Crashes.{asked_left, memory_all, store_leaves}
use Rattle.rt_buffer.proofs.sync_handle.SyncHandle.poll_in_memory.Goals as goal

pub returns-clause-memory : goal.returns-clause-memory
returns-clause-memory g c = memory_all

pub returns-clause-crash : goal.returns-clause-crash
returns-clause-crash g c = λ content number holds done.
    let asked = c.poll.ensures.durable number holds.1 in
    store_leaves content c.poll.new.store c.args.write.now.blob (asked.0 ∙ holds.0)
    (asked_left c.poll.result c.poll.new.write.held c.poll.new.store c.args.write.now.blob done asked.1)
