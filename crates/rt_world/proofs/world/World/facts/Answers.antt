use Rattle.rt_world.proofs.Follows.{follows-called}
use Rattle.rt_world.proofs.world.World.facts.Goals as goal

pub returns-clause-follows : goal.returns-clause-follows
returns-clause-follows g c p t v f none begin past =
    rw (← c.self.view_is)
    (follows-called p t c.self.inside.machine.told v f none (rw (← c.self.view_is) at begin) (rw (← c.self.view_is) at past) c.facts.ensures.calls c.facts.ensures.state)
