use Rattle.rt_store.proofs.Prelude.{rules, ◌≡◌, ◌++◌, ℕ, List, vec_capacity, All-rest, Option, Choice, Noted, mutations, HasRoom, Chooses, replay}
use Rattle.rt_store.proofs.Redone.{redo_step, redo_end}
use Rattle.rt_store.proofs.crash.redo.Goals as goal

pub loop-change-preserved : goal.loop-change-preserved
loop-change-preserved g c =
    let Done : List Choice → List ℕ → Option (List Noted) → Type 0 = λ ks bytes new.
    (all : List Choice) × Chooses c.args.faults.now (mutations c.args.later.now) all (g.E.Env.noted c.args.env.now) new
    × (ks ≡ c.args.choices.now.items ++ all) × (bytes ≡ replay (mutations c.args.later.now) all c.args.content.now.items) in
    let step = redo_step c.args.faults.now Done c.loop-change.rest.now c.in-Some.tail.now c.in-Some.change.now c.choose-choice.result
    (g.E.Env.noted c.loop-change.env) (g.E.Env.noted c.choose-choice.new.env) c.loop-change.content.items c.replay_one.new.content.items
    c.loop-change.choices.items c.push_reserved.new.self.items
    c.in-Some.ensures.cases.0 c.choose-choice.ensures.gives c.replay_one.ensures.bytes c.push_reserved.ensures.items c.loop-change.invariant.0 in
    (step, All-rest (HasRoom (vec_capacity c.args.content.now)) c.in-Some.change.now c.in-Some.tail.now c.loop-change.rest.now c.in-Some.ensures.cases.0 c.loop-change.invariant.1, (search rules), (search rules), (search rules), (search rules), (λ start h. c.choose-choice.ensures.lasts start (c.loop-change.invariant.6 start h)))

pub returns-clause-gives : goal.returns-clause-gives
returns-clause-gives g c =
    let Done : List Choice → List ℕ → Option (List Noted) → Type 0 = λ ks bytes new.
    (all : List Choice) × Chooses c.args.faults.now (mutations c.args.later.now) all (g.E.Env.noted c.args.env.now) new
    × (ks ≡ c.args.choices.now.items ++ all) × (bytes ≡ replay (mutations c.args.later.now) all c.args.content.now.items) in
    redo_end c.args.faults.now Done c.loop-change.rest.now (g.E.Env.noted c.loop-change.env) c.loop-change.content.items c.loop-change.choices.items
    c.in_default.ensures.cases c.loop-change.invariant.0
