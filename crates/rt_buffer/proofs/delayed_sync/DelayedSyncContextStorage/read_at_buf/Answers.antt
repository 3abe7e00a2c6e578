use Rattle.rt_buffer.proofs.Prelude.{[], rules}
use Rattle.rt_buffer.proofs.Noting.{adds_none}
use Rattle.rt_buffer.proofs.delayed_sync.DelayedSyncContextStorage.read_at_buf.Goals as goal

pub returns-in-None-clause-gives : goal.returns-in-None-clause-gives
returns-in-None-clause-gives g c = ([], adds_none (g.E.Env.noted c.args.env.now), (search rules))
