use Rattle.rt_laws.proofs.Misses.{no_open_node, no_unasked_call, no_lacking_run}
use Rattle.rt_laws.proofs.examples.near_misses_are_no_runs.Goals as goal

pub returns-clause-open_node : goal.returns-clause-open_node
returns-clause-open_node c = no_open_node

pub returns-clause-unasked_call : goal.returns-clause-unasked_call
returns-clause-unasked_call c = no_unasked_call

pub returns-clause-lacking_run : goal.returns-clause-lacking_run
returns-clause-lacking_run c = no_lacking_run
