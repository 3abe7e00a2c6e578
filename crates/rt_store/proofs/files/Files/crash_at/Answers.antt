use Rattle.rt_store.proofs.Prelude.{◌≡◌, ◌≤◌, ◌<◌, [], List, None, Some, length, append-nil, ap, refl, sym, subst, ◌∙◌, arith, rules, Option, slice_get, Choice, Chooses, later_of, FileState, crashed, at_blob, count_later}
use Rattle.std.specs.Prelude.{slice_set}
use Rattle.rt_store.proofs.Counting.{count_set, count_at, past_all, there}
use Rattle.rt_store.proofs.files.Files.crash_at.Goals as goal

pub returns-then-place-len-clause-gives : goal.returns-then-place-len-clause-gives
returns-then-place-len-clause-gives g c =
    let files = c.args.self.now in
    let record-of = g.E.Env.noted c.args.env.now in
    let out : length files ≤ c.args.place = search rules in
    let none : slice_get files c.args.place ≡ None = past_all files c.args.place out in
    let no : List Choice = [] in (
      no,
      subst (λ (o : Option FileState). Chooses c.args.faults.now (later_of o) no record-of record-of) (sym none) refl,
      sym (append-nil c.args.choices.now.items),
      sym (ap (λ (o : Option FileState). at_blob files c.args.place (crashed no) o) none),
    )

pub crash-requires-clause-draws : goal.crash-requires-clause-draws
crash-requires-clause-draws g c =
    let within : c.args.place < length c.self.inside.files.items = search rules in
    let at : slice_get c.self.inside.files.items c.args.place ≡ Some c.index_mut.result.now = there c.self.inside.files.items c.args.place c.index_mut.result.now within c.index_mut.ensures.value in
    let few = count_at c.self.inside.files.items c.args.place c.index_mut.result.now at in
    let view = ap count_later c.self.view_is in
    omega (arith, c.requires.draws)

pub crash-requires-clause-places : goal.crash-requires-clause-places
crash-requires-clause-places g c =
    let within : c.args.place < length c.self.inside.files.items = search rules in
    let at : slice_get c.self.inside.files.items c.args.place ≡ Some c.index_mut.result.now = there c.self.inside.files.items c.args.place c.index_mut.result.now within c.index_mut.ensures.value in
    let few = count_at c.self.inside.files.items c.args.place c.index_mut.result.now at in
    let view = ap count_later c.self.view_is in
    omega (arith, c.requires.places)

pub returns-clause-gives : goal.returns-clause-gives
returns-clause-gives g c =
    let files = c.args.self.now in
    let i = c.args.place in
    let old = c.index_mut.result.now in
    let within : i < length c.self.inside.files.items = search rules in
    let at : slice_get files i ≡ Some old = ap (λ (fs : List FileState). slice_get fs i) (sym c.self.view_is) ∙ there c.self.inside.files.items i old within c.index_mut.ensures.value in
    let h = c.crash.ensures.gives in
    let cs : List Choice = h.0 in (
      cs,
      subst (λ (o : Option FileState). Chooses c.args.faults.now (later_of o) cs (g.E.Env.noted c.args.env.now) (g.E.Env.noted c.crash.new.env)) (sym at) h.1,
      h.2,
      ap (λ (b : FileState). slice_set c.self.inside.files.items i b) h.3
          ∙ ap (λ (fs : List FileState). slice_set fs i (crashed cs old)) c.self.view_is
          ∙ sym (ap (λ (o : Option FileState). at_blob files i (crashed cs) o) at),
    )

pub returns-clause-later : goal.returns-clause-later
returns-clause-later g c =
    let files = c.self.inside.files.items in
    let old = c.index_mut.result.now in
    let within : c.args.place < length files = search rules in
    let at : slice_get files c.args.place ≡ Some old = there files c.args.place old within c.index_mut.ensures.value in
    let set = count_set files c.args.place old c.crash.new.self at in
    let none = ap (λ (b : FileState). length b.later) c.crash.ensures.gives.3 in
    let view = ap count_later c.self.view_is in
    omega (arith, c.crash.ensures.later)
