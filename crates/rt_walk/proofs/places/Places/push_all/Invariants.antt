use Rattle.rt_walk.proofs.Prelude.{◌≡◌, ◌≤◌, ◌++◌, length}
use Rattle.rt_walk.proofs.places.Places.push_all.Given as goal

abbrev pub invariant-loop-number : goal.invariant-loop-number
invariant-loop-number l = record {
  numbers : l.self.numbers ++ l.rest ≡ l.fn.self.numbers ++ l.fn.numbers;
  room : length l.rest ≤ l.self.room;
  spare : length l.rest ≤ l.self.spare;
}

abbrev pub decreases-loop-number : goal.decreases-loop-number
decreases-loop-number l = length l.rest
