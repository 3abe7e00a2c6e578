use Rattle.rt_machine.proofs.Prelude.{◌≡◌, ◌≤◌, ◌+◌, length, MAX_TIME, Turning, Turns}
use Rattle.rt_machine.proofs.machine.Machine.clock_step.Given as goal

abbrev pub invariant-loop : goal.invariant-loop
invariant-loop l = record {
  turns : Turns l.fn.self.told l.self.told;
  phase : l.self.told.state.phase ≡ Turning;
  later : l.fn.self.told.state.clock.time + l.fn.self.told.state.clock.fixed.cycle ≤ l.self.told.state.clock.time;
  within : l.fn.self.told.state.clock.time + l.fn.self.told.state.clock.fixed.cycle ≤ MAX_TIME;
  lacked : l.self.lacked ≡ l.fn.self.lacked;
}

abbrev pub decreases-loop : goal.decreases-loop
decreases-loop l = length l.self.told.state.stood.alarms.alarms
