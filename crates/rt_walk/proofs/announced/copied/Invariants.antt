use Rattle.rt_walk.proofs.Prelude.{◌≡◌, take}
use Rattle.rt_walk.proofs.announced.copied.Given as goal

abbrev pub invariant-loop-place : goal.invariant-loop-place
invariant-loop-place l = l.copies.items ≡ take l.place l.fields
