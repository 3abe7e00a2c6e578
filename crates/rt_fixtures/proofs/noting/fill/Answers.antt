use Rattle.rt_fixtures.proofs.Prelude.{◌≡◌, ◌+◌, ◌≤◌, length, vec_len, arith, rules}
use Rattle.std.proofs.Common.{vec_capacity}
use Rattle.rt_fixtures.proofs.NotingLemmas.{chunk-fits}
use Rattle.rt_fixtures.proofs.noting.fill.Goals as goal

pub unreachable-requires : goal.unreachable-requires
unreachable-requires c =
    let old = c.loop-index.bytes in
    let fits : length old.items + length c.chunk_at.result.now ≤ vec_capacity old = chunk-fits old.items c.args.bytes.now.items c.args.bufs.now.bytes c.chunk_at.result.now c.args.bufs.now.chunks c.loop-index.index (vec_capacity old) c.loop-index.invariant.added c.chunk_at.ensures.next c.chunk_count-index-end.ensures.joined c.loop-index.invariant.room in
    let count : vec_len old ≡ length old.items = search rules in
    absurd (omega (arith, fits, count, c.in-Err.ensures.full))
