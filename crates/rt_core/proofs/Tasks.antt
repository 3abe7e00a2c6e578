-- The laws by which tasks, makers of roots and pollers are proved, in one place, and the lemmas that a proof file of these cites.
use Rattle.rt_core.proofs.Joined.{joined_laws}
use Rattle.rt_world.proofs.Walked.{maker_laws as rooted_laws, poller_laws as walked_laws, task_laws as polled_laws}
pub use Rattle.rt_core.proofs.Joined.{goes-followed, goes-gives, goes-then, spends-then}
pub use Rattle.rt_world.proofs.Walked.{kept-kept, polled-gives, spent-nothing}

pub ruleset task_laws = (polled_laws)

pub ruleset maker_laws = (rooted_laws)

pub ruleset poller_laws = (walked_laws, joined_laws)
