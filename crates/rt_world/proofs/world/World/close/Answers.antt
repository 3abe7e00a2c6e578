use Rattle.rt_world.proofs.Prelude.{refl, cleaned}
use Rattle.rt_world.proofs.Ending.{closed-seated}
use Rattle.rt_world.proofs.Follows.{follows-closed, closed-unmade}
use Rattle.rt_world.proofs.Drawn.{cleaned-drawn}
use Rattle.rt_world.proofs.Fronts.{front-cleaned}
use Rattle.rt_world.proofs.Slotted.{closed-slotted}
use Rattle.rt_world.proofs.world.World.close.Goals as goal

pub returns-clause-phase : goal.returns-clause-phase
returns-clause-phase g c =
    rw (← c.self.view_is) (cleaned c.self.inside.machine.told c.cleanup.new.self.told (rw (c.cleanup.ensures, c.take_short.ensures.gone) refl))

pub returns-clause-front : goal.returns-clause-front
returns-clause-front g c =
    rw (← c.self.view_is) (front-cleaned c.self.inside.machine.told c.cleanup.new.self.told (rw (c.cleanup.ensures, c.take_short.ensures.gone) refl))

pub returns-clause-drawn : goal.returns-clause-drawn
returns-clause-drawn g c =
    rw (← c.self.view_is) (cleaned-drawn c.self.inside.machine.told c.cleanup.new.self.told (rw (c.cleanup.ensures, c.take_short.ensures.gone) refl))

pub returns-clause-agrees : goal.returns-clause-agrees
returns-clause-agrees g c p whole output made f =
    follows-closed p c.self.inside.machine.told c.cleanup.new.self.told _ (rw (c.cleanup.ensures, c.take_short.ensures.gone) refl) (rw (← c.self.view_is) at made) (rw (← c.self.view_is) at f)

pub returns-clause-unmade : goal.returns-clause-unmade
returns-clause-unmade g c p whole unmade making calm m =
    closed-unmade p _ c.cleanup.new.self.told (rw (c.cleanup.ensures, c.take_short.ensures.gone) refl) (rw (← c.self.view_is) at making) (rw (← c.self.view_is) at calm) whole unmade (rw (← c.self.view_is) at m)

pub invariant_of-self : goal.invariant_of-self
invariant_of-self g c =
    let w = c.self.inside in
    (closed-seated w.tasks w.outputs w.out w.machine c.cleanup.new.self (rw (c.cleanup.ensures, c.take_short.ensures.gone) refl) c.self.invariant.0, closed-slotted w.sent w.machine c.cleanup.new.self (rw (c.cleanup.ensures, c.take_short.ensures.gone) refl) c.self.invariant.1)
