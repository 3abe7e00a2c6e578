use Rattle.rt_store.proofs.Prelude.{◌≡◌, ◌<◌, Some, length, ap, arith, rules, slice_get, FileState, count_later}
use Rattle.rt_store.proofs.Counting.{count_set, there, later_closed, live_within}
use Rattle.rt_store.proofs.files.Files.close.Goals as goal

pub returns-clause-later : goal.returns-clause-later
returns-clause-later c =
    let files = c.self.inside.files.items in
    let old = c.index_mut.result.now in
    let within : c.args.blob.now.place < length files = live_within files c.args.blob.now (search rules) in
    let at : slice_get files c.args.blob.now.place ≡ Some old = there files c.args.blob.now.place old within c.index_mut.ensures.value in
    let set = count_set files c.args.blob.now.place old c.close.new.self at in
    let same = ap (λ (b : FileState). length b.later) c.close.ensures in
    let leaves = later_closed old in
    let view = ap count_later c.self.view_is in
    omega arith
