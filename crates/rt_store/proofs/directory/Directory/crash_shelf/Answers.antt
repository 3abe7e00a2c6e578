use Rattle.rt_store.proofs.Prelude.{◌≡◌, [], List, None, append-nil, ap, refl, sym, subst, rules, Option, slice_get, Choice, ChoosesAll, all_crashed, Names, numbers_of}
use Rattle.rt_store.proofs.directory.Directory.crash_shelf.Goals as goal

pub returns-in-None-clause-gives : goal.returns-in-None-clause-gives
returns-in-None-clause-gives g c =
    let files = c.args.files.now in
    let now = g.E.Env.noted c.args.env.now in
    let no : List Choice = [] in
    let none : slice_get c.args.self.now.shelves c.args.shelf ≡ None = search rules in (
      no,
      subst (λ (o : Option Names). ChoosesAll c.args.faults.now (numbers_of o) files no now now) (sym none) refl,
      sym (append-nil c.args.choices.now.items),
      sym (ap (λ (o : Option Names). all_crashed (numbers_of o) no files) none),
    )
