use Rattle.rt_core.proofs.Prelude.{◌≡◌, ap, sym, ◌∙◌, length, map, length-map, aborted}
use Rattle.rt_core.proofs.Choosing.{goes-all, written-back}
use Rattle.rt_core.proofs.select.let_go.Goals as goal

pub returns-clause-steps : goal.returns-clause-steps
returns-clause-steps g c =
    let items = c.args.handles.items in
    let is : c.abort_all.new.handles ≡ map aborted items = rw c.as_mut_slice.ensures.value at c.abort_all.ensures.handles in
    let all : c.args.handles.len ≡ length c.abort_all.new.handles = c.args.handles.ok.0 ∙ sym (ap length is ∙ length-map items aborted) in
    goes-all _ _ _ _ _ _ is (rw c.as_mut_slice.ensures.value at c.abort_all.ensures.steps) (rw (written-back c.args.handles.len c.abort_all.new.handles items all) at c.give_all_up.ensures.steps)
