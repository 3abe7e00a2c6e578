use Rattle.rt_scripts.proofs.Prelude.{◌≡◌, ◌-◌, length, Leads, polled}
use Rattle.rt_world.specs.Calls.{Kept}
use Rattle.rt_scripts.proofs.script.ScriptTask.poll.Given as goal

abbrev pub invariant-loop-line : goal.invariant-loop-line
invariant-loop-line g l = record {
  kept : Kept g.G.Rng.stream l.fn.world l.world;
  text : l.self.text ≡ l.fn.self.text;
  leads : Leads (polled l.fn.self l.fn.world.told.state.clock.time l.cx.task) (polled l.self l.fn.world.told.state.clock.time l.cx.task) l.fn.world l.world;
}

abbrev pub decreases-loop-line : goal.decreases-loop-line
decreases-loop-line g l = length l.self.text.lines - l.self.place
