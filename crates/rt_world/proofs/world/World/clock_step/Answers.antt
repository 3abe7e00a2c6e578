use Rattle.rt_world.proofs.Prelude.{refl}
use Rattle.rt_world.proofs.Ending.{stepped-seated}
use Rattle.rt_world.proofs.Follows.{follows-quietly}
use Rattle.rt_world.proofs.Drawn.{quietly-drawn}
use Rattle.rt_world.proofs.world.World.clock_step.Goals as goal

pub returns-clause-drawn : goal.returns-clause-drawn
returns-clause-drawn g c = rw (← c.self.view_is) (quietly-drawn c.self.inside.machine.told c.clock_step.new.self.told c.clock_step.ensures.turns.quiet)

pub returns-clause-agrees : goal.returns-clause-agrees
returns-clause-agrees g c p f =
    follows-quietly p c.self.inside.machine.told c.clock_step.new.self.told _ refl c.clock_step.ensures.turns.quiet (rw (← c.self.view_is) at f)

pub invariant_of-self : goal.invariant_of-self
invariant_of-self g c =
    let w = c.self.inside in
    (stepped-seated w.tasks w.outputs w.out w.machine.told c.clock_step.new.self.told c.clock_step.result c.clock_step.ensures.turns c.clock_step.ensures.stands c.self.invariant.0, rw c.clock_step.ensures.turns.slots c.self.invariant.1)
