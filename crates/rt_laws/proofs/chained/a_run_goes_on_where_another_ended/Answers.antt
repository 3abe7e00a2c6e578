use Rattle.rt_laws.proofs.Chains.{chain_lawful, chain_starts}
use Rattle.rt_laws.proofs.chained.a_run_goes_on_where_another_ended.Goals as goal

pub returns-clause-here : goal.returns-clause-here
returns-clause-here c = chain_lawful

pub returns-clause-nowhere_else : goal.returns-clause-nowhere_else
returns-clause-nowhere_else c = chain_starts
