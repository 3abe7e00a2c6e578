use Rattle.rt_scripts.proofs.Prelude.{◌≡◌, sym, ◌∙◌, None, find, spends-on, spent-nothing}
use Rattle.rt_scripts.proofs.script.stop_waiting.Goals as goal

pub returns-in-Nothing-clause-steps : goal.returns-in-Nothing-clause-steps
returns-in-Nothing-clause-steps g c = rw c.in-Nothing.is (spends-on _ _ _ (spent-nothing _))

pub returns-in_default-clause-steps : goal.returns-in_default-clause-steps
returns-in_default-clause-steps g c =
    let none : find c.in-Limits.at c.args.held.items ≡ None = sym c.take.ensures.state ∙ c.in_default.is in
    rw (c.in-Limits.is, none) (spends-on _ _ _ (spent-nothing _))

pub returns-in-Chooses-clause-steps : goal.returns-in-Chooses-clause-steps
returns-in-Chooses-clause-steps g c = rw c.in-Chooses.is (spends-on _ _ _ (spent-nothing _))
