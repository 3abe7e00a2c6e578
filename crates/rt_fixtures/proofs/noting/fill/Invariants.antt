use Rattle.rt_fixtures.proofs.Prelude.{◌≡◌, ◌+◌, ◌≤◌, ◌++◌, length, take, vec_capacity, concat}
use Rattle.rt_fixtures.proofs.noting.fill.Given as goal

abbrev pub invariant-loop-index : goal.invariant-loop-index
invariant-loop-index l = record {
  added : l.bytes.items ≡ l.fn.bytes.items ++ concat (take l.index l.bufs.chunks);
  room : length l.fn.bytes.items + length l.bufs.bytes ≤ vec_capacity l.bytes;
}
