use Rattle.rt_scripts.proofs.Prelude.{sym, subst, Ends, Reads}
use Rattle.rt_scripts.proofs.simulate.run_bytes.Goals as goal

pub returns-in-Ok-clause-ends : goal.returns-in-Ok-clause-ends
returns-in-Ok-clause-ends g c =
    let held = g.K.Sink8.held in
    subst (λ said. Ends (Reads said) c.run_scenario.result (held c.args.sink.now) (held c.run_scenario.new.sink)) (sym c.in-Ok.ensures.says) c.run_scenario.ensures.ends
