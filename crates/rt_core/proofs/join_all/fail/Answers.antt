use Rattle.rt_core.proofs.Prelude.{◌≡◌, ap, sym, ◌∙◌, length, map, length-map, Clock, kept-kept, aborted}
use Rattle.rt_core.proofs.Choosing.{written-back}
use Rattle.rt_core.proofs.Grouping.{fails-goes}
use Rattle.rt_core.proofs.join_all.fail.Goals as goal

pub returns-then-is_lack-clause-kept : goal.returns-then-is_lack-clause-kept
returns-then-is_lack-clause-kept g c =
    kept-kept _ _ _ (kept-kept _ _ _ c.abort.ensures.kept c.abort_all.ensures.kept) (kept-kept _ _ _ c.give_up.ensures.kept c.end.ensures.kept)

pub returns-then-is_lack-clause-steps : goal.returns-then-is_lack-clause-steps
returns-then-is_lack-clause-steps g c =
    let items = c.group.inside.handles.items in
    let is : c.abort_all.new.handles ≡ map aborted items = rw c.make_contiguous.ensures.value at c.abort_all.ensures.handles in
    let all : c.group.inside.handles.len ≡ length c.abort_all.new.handles = c.group.inside.handles.ok.0 ∙ sym (ap length is ∙ length-map items aborted) in
    let last = rw (written-back c.group.inside.handles.len c.abort_all.new.handles items all, is) at c.end.ensures.steps in
    rw (← c.group.view_is) (fails-goes _ _ _ _ _ _ _ _ _ _ _ _ _ c.abort.ensures.steps (rw c.make_contiguous.ensures.value at c.abort_all.ensures.steps) (rw c.abort.ensures.handle at c.give_up.ensures.steps) (rw (sym c.is_lack.ensures ∙ c.if-is_lack.true) last))

pub returns-clause-kept : goal.returns-clause-kept
returns-clause-kept g c =
    kept-kept _ _ _ (kept-kept _ _ _ c.abort.ensures.kept c.abort_all.ensures.kept) (kept-kept _ _ _ c.give_up.ensures.kept c.drain.ensures.kept)

pub returns-clause-steps : goal.returns-clause-steps
returns-clause-steps g c =
    let before = kept-kept _ _ _ (kept-kept _ _ _ c.abort.ensures.kept c.abort_all.ensures.kept) c.give_up.ensures.kept in
    let time = ap (λ (k : Clock). k.time) before.clock in
    let items = c.group.inside.handles.items in
    let is : c.abort_all.new.handles ≡ map aborted items = rw c.make_contiguous.ensures.value at c.abort_all.ensures.handles in
    let all : c.group.inside.handles.len ≡ length c.abort_all.new.handles = c.group.inside.handles.ok.0 ∙ sym (ap length is ∙ length-map items aborted) in
    let last = rw (written-back c.group.inside.handles.len c.abort_all.new.handles items all, is) at (simp time at c.drain.ensures.steps) in
    rw (← c.group.view_is) (fails-goes _ _ _ _ _ _ _ _ _ _ _ _ _ c.abort.ensures.steps (rw c.make_contiguous.ensures.value at c.abort_all.ensures.steps) (rw c.abort.ensures.handle at c.give_up.ensures.steps) (rw (sym c.is_lack.ensures ∙ c.if-is_lack.false) last))
