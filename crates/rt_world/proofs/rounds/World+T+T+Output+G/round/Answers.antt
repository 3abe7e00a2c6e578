use Rattle.rt_world.proofs.Prelude.{refl}
use Rattle.rt_world.proofs.Follows.{agrees-drained}
use Rattle.rt_world.proofs.Drawn.{front-of}
use Rattle.rt_world.proofs.Running.{on-ok, runs-drained, runs-passes}
use Rattle.rt_world.proofs.rounds.World+T+T+Output+G.round.Goals as goal

pub returns-clause-agrees : goal.returns-clause-agrees
returns-clause-agrees g c first f =
    c.visit_all.ensures.agrees first (agrees-drained _ c.args.self.now c.drain.new.self _ _ c.drain.new.order.items c.drain.ensures.rest c.in-Ok.ensures.ok f)

pub returns-clause-runs : goal.returns-clause-runs
returns-clause-runs g c =
    runs-passes _ _ c.drain.new.self _ (runs-drained _ c.args.self.now c.drain.new.self c.requires.none_out c.drain.new.order.items c.drain.ensures.rest c.in-Ok.ensures.ok) c.visit_all.ensures.passes

pub returns-clause-order : goal.returns-clause-order
returns-clause-order g c =
    on-ok c.visit_all.result record { drained = c.drain.new.self.told; left = g.G.Rng.stream c.drain.new.self.rng; drains = c.in-Ok.ensures.ok; front = front-of g.G.Rng.stream c.drain.new.self c.visit_all.new.self c.visit_all.ensures.passes.writes }
