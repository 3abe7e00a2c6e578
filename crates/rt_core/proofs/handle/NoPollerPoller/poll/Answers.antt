use Rattle.rt_core.proofs.Prelude.{no_polls, walked-gives, goes-on}
use Rattle.rt_core.proofs.handle.NoPollerPoller.poll.Goals as goal

pub returns-clause-steps : goal.returns-clause-steps
unfolding no_polls
returns-clause-steps g c = goes-on _ _ _ _ _ (walked-gives _ _ _)
