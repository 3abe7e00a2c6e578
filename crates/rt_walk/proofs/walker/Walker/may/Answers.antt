use Rattle.rt_walk.proofs.Prelude.{rules}
use Rattle.rt_walk.proofs.Quiet.{may-alike}
use Rattle.rt_walk.proofs.walker.Walker.may.Goals as goal

pub returns-in-None-clause-here : goal.returns-in-None-clause-here
returns-in-None-clause-here c = search rules

pub returns-in-None-clause-alike : goal.returns-in-None-clause-alike
returns-in-None-clause-alike c = may-alike c.may_unowed.result c.args.self.now c.args.entry.now (returns-in-None-clause-here c)
