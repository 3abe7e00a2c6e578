use Rattle.rt_scripts.proofs.Prelude.{◌≡◌, sym, ◌∙◌, None, Some, find, spends-on, spent-nothing}
use Rattle.rt_scripts.proofs.script.Script.release.Goals as goal

pub returns-in_default-clause-steps : goal.returns-in_default-clause-steps
returns-in_default-clause-steps g c =
    let none : find c.args.at c.self.inside.held.items ≡ None = sym c.take.ensures.state ∙ c.in_default.is in
    rw (← c.self.view_is, none) (spends-on _ _ _ (spent-nothing _))

pub returns-clause-steps : goal.returns-clause-steps
returns-clause-steps g c =
    let some : find c.args.at c.self.inside.held.items ≡ Some c.in-Some.held = sym c.take.ensures.state ∙ c.in-Some.is in
    rw (← c.self.view_is, some) c.give_up.ensures.steps
