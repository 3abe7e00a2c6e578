use Rattle.rt_scripts.proofs.Prelude.{◌≡◌, sym, ◌∙◌, Ok, sleeps, sleep_in}
use Rattle.rt_scripts.proofs.script.Script.sleep.Goals as goal

pub returns-in-Over-clause-steps : goal.returns-in-Over-clause-steps
unfolding sleeps
returns-in-Over-clause-steps g c on =
    let begins : sleep_in c.self.inside.waits c.args.fresh ≡ Ok c.in-Ok.sleep = rw c.replace-waits.ensures.value at (sym c.sleep_in.ensures ∙ c.in-Ok.is) in
    rw (← c.self.view_is, begins)
    (record { leads = λ end answer left walked. (rw (c.of.ensures.over c.in-Over.is) at c.poll.ensures.steps).onward _ _ _ _ (rw c.pass-in-Over.ensures at walked) })
