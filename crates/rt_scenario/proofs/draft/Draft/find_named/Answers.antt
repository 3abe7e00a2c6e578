use Rattle.rt_scenario.proofs.Prelude.{◌≡◌, ◌∙◌, Some, None, refl, sym, script_at}
use Rattle.rt_scenario.proofs.Scripts.{place_found, script_at_bound}
use Rattle.rt_scenario.proofs.draft.Draft.find_named.Goals as goal

pub returns-in-Some-clause-found : goal.returns-in-Some-clause-found
returns-in-Some-clause-found c =
    let closed = c.self.inside.closed in
    let name = c.args.name.now in
    let found = place_found c.self.inside.names.keys name c.short_name.result closed c.get_index_of.result c.get_index_of.ensures.index c.short_name.ensures c.self.invariant.0 in
    let here : script_at closed name ≡ Some c.in-Some.place = sym found ∙ c.in-Some.is in
    rw (← c.self.view_is, here) refl

pub returns-in-Some-clause-there : goal.returns-in-Some-clause-there
returns-in-Some-clause-there c =
    let closed = c.self.inside.closed in
    let name = c.args.name.now in
    let found = place_found c.self.inside.names.keys name c.short_name.result closed c.get_index_of.result c.get_index_of.ensures.index c.short_name.ensures c.self.invariant.0 in
    rw (← c.self.view_is) (script_at_bound closed name c.in-Some.place (sym found ∙ c.in-Some.is))

pub returns-in-None-clause-found : goal.returns-in-None-clause-found
returns-in-None-clause-found c =
    let closed = c.self.inside.closed in
    let name = c.args.name.now in
    let found = place_found c.self.inside.names.keys name c.short_name.result closed c.get_index_of.result c.get_index_of.ensures.index c.short_name.ensures c.self.invariant.0 in
    let none : script_at closed name ≡ None = sym found ∙ c.in-None.is in
    rw (← c.self.view_is, none) refl
