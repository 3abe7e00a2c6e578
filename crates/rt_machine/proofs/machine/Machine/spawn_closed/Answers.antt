use Rattle.rt_machine.proofs.Prelude.{◌≡◌, arith, true, is_free}
use Rattle.rt_machine.proofs.Nodes.{live-release}
use Rattle.rt_machine.proofs.Seats.{free-live}
use Rattle.rt_machine.proofs.machine.Machine.spawn_closed.Goals as goal

pub overflow_sub-self : goal.overflow_sub-self
overflow_sub-self c =
    let s = c.self.inside.journal.told.state in
    let i = c.self.invariant in
    let free : is_free s.stood.nodes c.args.node ≡ true = rw (← c.self.view_is) at c.requires.free in
    omega (arith, live-release s.stood.nodes c.args.node (free-live s.stood.nodes c.args.node free), i.promised_is)
