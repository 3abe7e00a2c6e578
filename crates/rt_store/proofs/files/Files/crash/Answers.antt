use Rattle.rt_store.proofs.Prelude.{◌≡◌, ◌++◌, List, arith, rules, Option, Choice, Noted, ChoosesAll, all_crashed, numbers, FileState}
use Rattle.rt_store.proofs.Crashing.{crash_step, crash_end}
use Rattle.rt_store.proofs.files.Files.crash.Goals as goal

pub loop-place-preserved : goal.loop-place-preserved
loop-place-preserved g c =
    let is = numbers c.args.names.now in
    let Done : List Choice → List FileState → Option (List Noted) → Type 0 = λ ks fs new.
    (all : List Choice) × ChoosesAll c.args.faults.now is c.args.self.now all (g.E.Env.noted c.args.env.now) new
    × (ks ≡ c.args.choices.now.items ++ all) × (fs ≡ all_crashed is all c.args.self.now) in
    let here = c.crash_at-fewer.ensures.gives in
    let step = crash_step c.args.faults.now Done c.loop-place.place-iterator c.next.new.self c.in-Some.place.now c.loop-place.self c.crash_at-fewer.new.self
    here.0 c.loop-place.choices.items c.crash_at-fewer.new.choices.items (g.E.Env.noted c.loop-place.env) (g.E.Env.noted c.crash_at-fewer.new.env)
    c.in-Some.ensures.steps here.1 here.3 here.2 c.loop-place.invariant.0 in
    (step, (omega (arith, c.crash_at-fewer.ensures.later)), (omega (arith, c.crash_at-fewer.ensures.spent)), (omega (arith, c.crash_at-fewer.ensures.used)), (search rules), (λ start h. c.crash_at-fewer.ensures.lasts start (c.loop-place.invariant.5 start h)))

pub returns-clause-gives : goal.returns-clause-gives
returns-clause-gives g c =
    let is = numbers c.args.names.now in
    let Done : List Choice → List FileState → Option (List Noted) → Type 0 = λ ks fs new.
    (all : List Choice) × ChoosesAll c.args.faults.now is c.args.self.now all (g.E.Env.noted c.args.env.now) new
    × (ks ≡ c.args.choices.now.items ++ all) × (fs ≡ all_crashed is all c.args.self.now) in
    crash_end c.args.faults.now Done c.loop-place.place-iterator c.loop-place.self c.loop-place.choices.items (g.E.Env.noted c.loop-place.env)
    c.in-None.ensures.steps.0 c.loop-place.invariant.0
