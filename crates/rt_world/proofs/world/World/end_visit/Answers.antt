use Rattle.rt_world.proofs.Prelude.{refl, after}
use Rattle.rt_world.proofs.Ending.{visited-seated}
use Rattle.rt_world.proofs.Fronts.{front-front, front-pushed, front-calmly}
use Rattle.rt_world.proofs.Drawn.{calmly-drawn, drew-same, writes-of}
use Rattle.rt_world.proofs.world.World.end_visit.Goals as goal

pub returns-clause-passes : goal.returns-clause-passes
unfolding after
returns-clause-passes g c =
    let visited = c.end_visit.ensures.ended in
    rw (← c.self.view_is)
    record {
      begin = visited.begin;
      given = visited.given;
      clock = visited.clock;
      root = visited.root;
      out = refl;
      writes = writes-of g.G.Rng.stream _ _ (front-front _ _ _ (front-pushed c.self.inside.machine.told _ _ refl) (front-calmly _ c.end_visit.new.self.told c.end_visit.ensures.calm)) (drew-same g.G.Rng.stream _ _ refl (calmly-drawn _ c.end_visit.new.self.told c.end_visit.ensures.calm));
    }

pub invariant_of-self : goal.invariant_of-self
invariant_of-self g c =
    let w = c.self.inside in
    let out = rw (← c.self.view_is) at c.requires.out in
    (visited-seated w.tasks w.outputs c.args.task w.machine c.end_visit.new.self (rw out at c.self.invariant.0) c.args.own (rw (← c.self.view_is) at c.requires.phase) c.requires.own c.end_visit.ensures.ended, rw c.end_visit.ensures.ended.slots c.self.invariant.1)
