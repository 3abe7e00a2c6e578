use Rattle.rt_laws.proofs.Trails.{events-before}
use Rattle.rt_laws.proofs.drawing.a_call_comes_behind_its_own_event.Goals as goal

pub returns-clause-state : goal.returns-clause-state
returns-clause-state c s by call reply l = l.0.1.2

pub returns-clause-behind : goal.returns-clause-behind
returns-clause-behind c = events-before
