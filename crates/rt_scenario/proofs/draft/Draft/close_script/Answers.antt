use Rattle.rt_scenario.proofs.Prelude.{length, subst, sym, rules, HasPlaces, IsBegun}
use Rattle.rt_scenario.proofs.Placed.{closed_has}
use Rattle.rt_scenario.proofs.draft.Draft.close_script.Goals as goal

pub declare-requires-clause-places : goal.declare-requires-clause-places
declare-requires-clause-places c =
    let scripts = length c.self.inside.closed in
    let begun : IsBegun scripts c.in-Some.current = search rules in
    subst (λ s. HasPlaces scripts s) (sym c.in_ok-script-in-Some.ensures) (closed_has scripts c.in-Some.current begun)
