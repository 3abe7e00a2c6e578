use Rattle.std.proofs.Common.{◌≡◌, rules, arith, ap, add-one, length, get_or}
use Rattle.rt_bufs.proofs.Chunks.{length-concat-take}
use Rattle.rt_bufs.proofs.io_bufs.IoBufs.place_of.Goals as goal

pub loop-index-preserved : goal.loop-index-preserved
loop-index-preserved c =
    let items = c.self.inside.chunks.items in
    let more = length-concat-take items c.loop-index.index c.index.result.now (search rules) in
    let here : length c.index.result.now ≡ length (get_or items c.loop-index.index c.index.result.now) = ap length c.index.ensures in
    rw add-one (omega arith)
