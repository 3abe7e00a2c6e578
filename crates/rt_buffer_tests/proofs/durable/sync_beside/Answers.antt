use Rattle.std.proofs.Common.{◌∙◌, subst, sym, ap, List, ℕ, Some}
use Rattle.rt_buffer.specs.Memory.{CrashLeaves}
use Rattle.rt_buffer_tests.proofs.durable.sync_beside.Goals as goal

pub returns-clause-bytes : goal.returns-clause-bytes
returns-clause-bytes c = λ apart knows. ((c.sync_in_memory.ensures.others knows).0.0 c.args.idle.now.blob apart).0

pub returns-clause-crash : goal.returns-clause-crash
returns-clause-crash c = λ apart knows durable.
    let stays = (c.sync_in_memory.ensures.others knows).0.0 c.args.idle.now.blob apart in
    subst (λ (b : List ℕ). CrashLeaves b c.sync_in_memory.new.store c.args.idle.now.blob) stays.0
    (c.sync_in_memory.ensures.memory.crash c.sync_in_memory.new.store c.args.idle.now.blob (stays.1 ∙ (durable ∙ ap (λ (b : List ℕ). Some b) (sym stays.0))))
