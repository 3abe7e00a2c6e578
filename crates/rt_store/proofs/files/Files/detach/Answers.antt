use Rattle.rt_store.proofs.Prelude.{◌≡◌, ◌<◌, Some, length, ap, arith, rules, slice_get, FileState, count_later}
use Rattle.rt_store.proofs.Counting.{count_set, there, later_detached}
use Rattle.rt_store.proofs.files.Files.detach.Goals as goal

pub returns-clause-later : goal.returns-clause-later
returns-clause-later c =
    let files = c.self.inside.files.items in
    let old = c.index_mut.result.now in
    let within : c.args.place < length files = search rules in
    let at : slice_get files c.args.place ≡ Some old = there files c.args.place old within c.index_mut.ensures.value in
    let set = count_set files c.args.place old c.detach.new.self at in
    let same = ap (λ (b : FileState). length b.later) c.detach.ensures.detached in
    let none = later_detached old in
    let view = ap count_later c.self.view_is in
    omega (arith, c.detach.ensures.later)
