use Rattle.rt_store.proofs.Prelude.{◌≡◌, arith, common_steps, bytes_of, placed, placed_bytes}
use Rattle.rt_store.proofs.Placed.{lengths_placed, number_placed, whole_placed}
use Rattle.rt_store.proofs.reading.with_places.Goals as goal

pub returns-clause-whole : goal.returns-clause-whole
returns-clause-whole c =
    let is : placed_bytes c.loop-buf.reads.items ≡ placed 0 (bytes_of c.args.bufs.items) = grind (arith, common_steps) in
    whole_placed c.args.bufs.items c.loop-buf.reads.items is

pub returns-clause-each : goal.returns-clause-each
returns-clause-each c =
    let is : placed_bytes c.loop-buf.reads.items ≡ placed 0 (bytes_of c.args.bufs.items) = grind (arith, common_steps) in
    number_placed c.args.bufs.items c.loop-buf.reads.items is

pub returns-clause-len : goal.returns-clause-len
returns-clause-len c =
    let is : placed_bytes c.loop-buf.reads.items ≡ placed 0 (bytes_of c.args.bufs.items) = grind (arith, common_steps) in
    λ ranges have. lengths_placed ranges c.args.bufs.items c.loop-buf.reads.items is have
