use Rattle.std.proofs.Common.{◌≡◌, ℕ, List, take, drop, ◌++◌}
use Rattle.rt_base.specs.Attributes.{with_attribute}
use Rattle.rt_base.proofs.name.place_of.Given as goal

abbrev pub invariant-loop-at : goal.invariant-loop-at
invariant-loop-at l =
    (value : List ℕ) → take l.at l.attributes ++ with_attribute (drop l.at l.attributes) l.key value ≡ with_attribute l.attributes l.key value
