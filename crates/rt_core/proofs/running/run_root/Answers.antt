use Rattle.rt_core.proofs.Prelude.{with_first, Steps}
use Rattle.rt_core.proofs.Outcomes.{ended-lacking}
use Rattle.rt_core.proofs.running.run_root.Goals as goal

pub returns-in-NoMemory-clause-agrees : goal.returns-in-NoMemory-clause-agrees
returns-in-NoMemory-clause-agrees g c first f =
    let p : Steps g.row.T.Denot g.row.T-Output.Denot = with_first g.T.Task.steps first in
    ended-lacking p c.cleanup.new.self c.run_rounds-outcome.new.self _ _ (c.run_rounds-outcome.ensures.agrees first f) (c.cleanup.ensures.agrees first)
