use Rattle.rt_scenario.proofs.Prelude.{◌∙◌, [], sym, same_text, get_or_from_slice_get}
use Rattle.rt_scenario.proofs.handles.Handles.index_of.Goals as goal

pub returns-clause-index : goal.returns-clause-index
returns-clause-index c =
    let stored = c.in_ok-index.ensures.stored in
    get_or_from_slice_get c.insert_full.new.self.keys c.in_ok-index.index stored.0 [] stored.1 ∙ sym (same_text c.short_name.result stored.0 (sym stored.2)) ∙ c.short_name.ensures
