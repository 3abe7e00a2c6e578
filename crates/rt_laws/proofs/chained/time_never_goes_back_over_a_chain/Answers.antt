use Rattle.rt_laws.proofs.Chains.{last_told, rises}
use Rattle.rt_laws.proofs.chained.time_never_goes_back_over_a_chain.Goals as goal

pub returns-clause-told : goal.returns-clause-told
returns-clause-told c = last_told

pub returns-clause-rises : goal.returns-clause-rises
returns-clause-rises c = rises
