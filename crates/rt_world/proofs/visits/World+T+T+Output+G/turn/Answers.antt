use Rattle.rt_world.proofs.Prelude.{with_first, Steps}
use Rattle.rt_world.proofs.Follows.{agrees-entered, agrees-stopped}
use Rattle.rt_world.proofs.Running.{passes-entered, passes-passes, passes-stopped}
use Rattle.rt_world.proofs.visits.World+T+T+Output+G.turn.Goals as goal

pub returns-then-is_stopped-clause-agrees : goal.returns-then-is_stopped-clause-agrees
returns-then-is_stopped-clause-agrees g c first f =
    let p : Steps g.row.T.Denot g.row.T-Output.Denot = with_first g.T.Task.steps first in
    agrees-stopped p c.enter.new.self c.halt.new.self c.args.task c.halt.ensures (agrees-entered p c.args.self.now c.enter.new.self c.args.task _ (rw c.in-Ok.is at c.enter.ensures.ok) f)

pub returns-then-is_flagged-clause-agrees : goal.returns-then-is_flagged-clause-agrees
returns-then-is_flagged-clause-agrees g c first f =
    let p : Steps g.row.T.Denot g.row.T-Output.Denot = with_first g.T.Task.steps first in
    agrees-entered p c.args.self.now c.enter.new.self c.args.task _ (rw c.in-Ok.is at c.enter.ensures.ok) f

pub returns-clause-agrees : goal.returns-clause-agrees
returns-clause-agrees g c first f =
    let p : Steps g.row.T.Denot g.row.T-Output.Denot = with_first g.T.Task.steps first in
    c.poll_task.ensures.agrees first (agrees-entered p c.args.self.now c.enter.new.self c.args.task _ (rw c.in-Ok.is at c.enter.ensures.ok) f)

pub returns-clause-passes : goal.returns-clause-passes
returns-clause-passes g c =
    passes-passes g.G.Rng.stream c.args.self.now c.enter.new.self c.poll_task.new.self
    (passes-entered g.G.Rng.stream c.args.self.now c.enter.new.self c.args.task _ c.requires.none_out (rw c.in-Ok.is at c.enter.ensures.ok)) c.poll_task.ensures.passes

pub returns-then-is_stopped-clause-passes : goal.returns-then-is_stopped-clause-passes
returns-then-is_stopped-clause-passes g c =
    let entered = passes-entered g.G.Rng.stream c.args.self.now c.enter.new.self c.args.task _ c.requires.none_out (rw c.in-Ok.is at c.enter.ensures.ok) in
    passes-passes g.G.Rng.stream c.args.self.now c.enter.new.self c.halt.new.self entered
    (passes-stopped g.G.Rng.stream c.enter.new.self c.halt.new.self c.args.task entered.out c.halt.ensures)
