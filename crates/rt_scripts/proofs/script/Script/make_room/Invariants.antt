use Rattle.rt_scripts.proofs.Prelude.{◌≡◌, ◌≤◌, ◌-◌, ◌+◌, max}
use Rattle.rt_scripts.proofs.script.Script.make_room.Given as goal

abbrev pub invariant-loop-self : goal.invariant-loop-self
invariant-loop-self l = record {
  rest : l.self ≡ record l.fn.self { places = l.self.places };
  grows : l.fn.self.places ≤ l.self.places;
  within : l.self.places ≤ max l.fn.self.places (l.at + 1);
}

abbrev pub decreases-loop-self : goal.decreases-loop-self
decreases-loop-self l = l.at + 1 - l.self.places
