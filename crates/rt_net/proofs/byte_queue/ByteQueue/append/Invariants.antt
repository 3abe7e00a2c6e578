use Rattle.rt_net.proofs.Prelude.{◌≡◌, ◌++◌, length, take, concat}
use Rattle.rt_net.proofs.byte_queue.ByteQueue.append.Given as goal

abbrev pub invariant-loop-index : goal.invariant-loop-index
invariant-loop-index l = record {
  added : l.self ≡ l.fn.self ++ concat (take l.index l.bufs.chunks);
  kept : l.kept ≡ length l.fn.self;
}
