use Rattle.rt_store.proofs.Prelude.{◌≡◌, ◌++◌, ℕ, [], List, ap, refl, subst, arith, rules, Option, slice_get, Choice, Noted, ChoosesAll, all_crashed, all_numbers, named_numbers, numbers, numbers_of, FileState}
use Rattle.rt_store.proofs.Crashing.{shelf_step, crash_end}
use Rattle.rt_store.proofs.directory.Directory.crash.Goals as goal

pub loop-shelf-init : goal.loop-shelf-init
loop-shelf-init g c =
    let shelves = c.args.self.now.shelves in
    let f = c.args.faults.now in
    let now = g.E.Env.noted c.args.env.now in
    let e : c.into_iter-shelf-iterator.result ≡ numbers c.args.self.now.shelf = search rules in (
      (λ cs new h. (
        cs,
        subst (λ (r : List ℕ). ChoosesAll f (all_numbers shelves r) c.args.files.now cs now new) e h,
        refl,
        ap (λ (r : List ℕ). all_crashed (all_numbers shelves r) cs c.args.files.now) e,
      )),
      (omega arith),
      (omega arith),
      (omega arith),
      refl,
      (λ start h. h),
    )

pub loop-shelf-preserved : goal.loop-shelf-preserved
loop-shelf-preserved g c =
    let shelves = c.args.self.now.shelves in
    let is = named_numbers c.args.self.now in
    let Done : List Choice → List FileState → Option (List Noted) → Type 0 = λ ks fs new.
    (all : List Choice) × ChoosesAll c.args.faults.now is c.args.files.now all (g.E.Env.noted c.args.env.now) new
    × (ks ≡ c.args.choices.now.items ++ all) × (fs ≡ all_crashed is all c.args.files.now) in
    let here = c.crash_shelf-fewer.ensures.gives in
    let e : all_numbers shelves c.loop-shelf.shelf-iterator ≡ numbers_of (slice_get shelves c.in-Some.shelf.now) ++ all_numbers shelves c.next.new.self =
    ap (λ (r : List ℕ). all_numbers shelves r) c.in-Some.ensures.steps in
    let step = shelf_step c.args.faults.now Done (all_numbers shelves c.loop-shelf.shelf-iterator) (numbers_of (slice_get shelves c.in-Some.shelf.now)) (all_numbers shelves c.next.new.self)
    c.loop-shelf.files c.crash_shelf-fewer.new.files here.0 c.loop-shelf.choices.items c.crash_shelf-fewer.new.choices.items
    (g.E.Env.noted c.loop-shelf.env) (g.E.Env.noted c.crash_shelf-fewer.new.env) e here.1 here.3 here.2 c.loop-shelf.invariant.0 in
    (step, (omega (arith, c.crash_shelf-fewer.ensures.later)), (omega (arith, c.crash_shelf-fewer.ensures.spent)), (omega (arith, c.crash_shelf-fewer.ensures.used)), (search rules), (λ start h. c.crash_shelf-fewer.ensures.lasts start (c.loop-shelf.invariant.5 start h)))

pub returns-clause-gives : goal.returns-clause-gives
returns-clause-gives g c =
    let is = named_numbers c.args.self.now in
    let Done : List Choice → List FileState → Option (List Noted) → Type 0 = λ ks fs new.
    (all : List Choice) × ChoosesAll c.args.faults.now is c.args.files.now all (g.E.Env.noted c.args.env.now) new
    × (ks ≡ c.args.choices.now.items ++ all) × (fs ≡ all_crashed is all c.args.files.now) in
    let e : all_numbers c.args.self.now.shelves c.loop-shelf.shelf-iterator ≡ [] = ap (λ (r : List ℕ). all_numbers c.args.self.now.shelves r) c.in-None.ensures.steps.0 in
    crash_end c.args.faults.now Done (all_numbers c.args.self.now.shelves c.loop-shelf.shelf-iterator) c.loop-shelf.files c.loop-shelf.choices.items (g.E.Env.noted c.loop-shelf.env)
    e c.loop-shelf.invariant.0
