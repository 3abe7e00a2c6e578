use Rattle.rt_store.proofs.Prelude.{◌≡◌, List, Some, true, ap, sym, ◌∙◌, arith, rules, Option, is_some, slice_get, FileState, mutated, at_blob, count_later, live}
use Rattle.std.specs.Prelude.{slice_set}
use Rattle.rt_store.proofs.Counting.{count_set, there, live_within, live_is}
use Rattle.rt_store.proofs.files.Files.mutate.Goals as goal

pub returns-clause-later : goal.returns-clause-later
returns-clause-later g c =
    let files = c.self.inside.files.items in
    let blob = c.args.blob.now in
    let old = c.index_mut-file.result.now in
    let is-open : is_some (live files blob) ≡ true = search rules in
    let at : slice_get files blob.place ≡ Some old = there files blob.place old (live_within files blob is-open) c.index_mut-file.ensures.value in
    let set = count_set files blob.place old c.mutate.new.self at in
    let view = ap count_later c.self.view_is in
    let later = c.in_ok-more.ensures.later in
    ((omega (arith, later.0)), (omega (arith, later.1)))

pub returns-clause-after : goal.returns-clause-after
returns-clause-after g c =
    let files = c.self.inside.files.items in
    let blob = c.args.blob.now in
    let old = c.index_mut-file.result.now in
    let is-open : is_some (live files blob) ≡ true = search rules in
    let at : slice_get files blob.place ≡ Some old = there files blob.place old (live_within files blob is-open) c.index_mut-file.ensures.value in
    let done : slice_set files blob.place c.mutate.new.self ≡ at_blob files blob.place (mutated c.args.mutation) (live files blob) =
    ap (λ (b : FileState). slice_set files blob.place b) c.in_ok-more.ensures.after
    ∙ sym (ap (λ (o : Option FileState). at_blob files blob.place (mutated c.args.mutation) o) (live_is files blob old is-open at)) in
    done ∙ ap (λ (fs : List FileState). at_blob fs blob.place (mutated c.args.mutation) (live fs blob)) c.self.view_is
