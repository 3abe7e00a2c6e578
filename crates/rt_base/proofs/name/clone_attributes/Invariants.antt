use Rattle.std.proofs.Common.{◌≡◌, take}
use Rattle.rt_base.proofs.name.clone_attributes.Given as goal

abbrev pub invariant-loop-key : goal.invariant-loop-key
invariant-loop-key l = l.copy.items ≡ take l.key-index l.attributes
