use Rattle.rt_machine.proofs.Prelude.{◌≡◌, ◌∙◌, sym, ap, Clock, State, begun, after_all, time-within, own}
use Rattle.rt_machine.proofs.machine.Machine.time.Goals as goal

pub returns-clause-within : goal.returns-clause-within
returns-clause-within c =
    let told = c.self.inside.journal.told in
    let within = time-within told.begin (own told) c.self.invariant.within c.facts.ensures.lawful in
    let same : c.self.inside.time ≡ (after_all (begun told.begin) (own told)).clock.time =
    sym (ap (λ (k : Clock). k.time) c.self.invariant.clock_is) ∙ ap (λ (s : State). s.clock.time) c.facts.ensures.state
    in rw same within
