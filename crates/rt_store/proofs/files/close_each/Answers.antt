use Rattle.rt_store.proofs.Prelude.{◌<◌, List, length, get_or, ap, ◌∙◌, rules, FileState, closed}
use Rattle.std.specs.Prelude.{slice_set}
use Rattle.rt_store.proofs.Counting.{close_step}
use Rattle.rt_store.proofs.files.close_each.Goals as goal

pub loop-file-preserved : goal.loop-file-preserved
loop-file-preserved c =
    let fs = c.args.files.now in
    let i = c.loop-file.file-index in
    let lt : i < length fs = search rules in
    let step = close_step fs i c.file-item.result lt in
    ap (λ (b : FileState). slice_set c.loop-file.files i b) c.close.ensures
    ∙ ap (λ (gs : List FileState). slice_set gs i (closed (get_or gs i c.file-item.result))) c.loop-file.invariant
    ∙ step
