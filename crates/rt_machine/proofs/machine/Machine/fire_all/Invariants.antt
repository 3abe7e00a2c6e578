use Rattle.rt_machine.proofs.Prelude.{◌≡◌, ◌<◌, ◌⊎◌, length, false, is_nil, Turning, Turns}
use Rattle.rt_machine.proofs.machine.Machine.fire_all.Given as goal

abbrev pub invariant-loop : goal.invariant-loop
invariant-loop l = record {
  turns : Turns l.fn.self.told l.self.told;
  phase : l.self.told.state.phase ≡ Turning;
  clock : l.self.told.state.clock ≡ l.fn.self.told.state.clock;
  fewer : (l.self ≡ l.fn.self) ⊎ (length l.self.told.state.stood.alarms.alarms < length l.fn.self.told.state.stood.alarms.alarms);
  ready : is_nil l.fn.self.told.state.ready ≡ false → is_nil l.self.told.state.ready ≡ false;
  lacked : l.self.lacked ≡ l.fn.self.lacked;
}

abbrev pub decreases-loop : goal.decreases-loop
decreases-loop l = length l.self.told.state.stood.alarms.alarms
