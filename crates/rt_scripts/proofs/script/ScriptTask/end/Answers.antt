use Rattle.rt_scripts.proofs.Prelude.{subst, Gives, followed_by, closes, Spent, kept-kept, spent-nothing, Script, choice_in, ended_behind, left_by, range_of, releases_all, stops_waiting, unchosen}
use Rattle.rt_scripts.proofs.script.ScriptTask.end.Goals as goal

pub returns-clause-kept : goal.returns-clause-kept
returns-clause-kept g c =
    kept-kept _ _ _ c.leave_under_way.ensures.kept
    (kept-kept _ _ _ c.give_stop_up.ensures.kept
    (kept-kept _ _ _ c.stop_waiting-held.ensures.kept
    (kept-kept _ _ _ c.release_all.ensures.kept c.close.ensures.kept)))

pub returns-clause-steps : goal.returns-clause-steps
returns-clause-steps g c =
    let s = c.args.self in
    let end = c.close.new.world in
    let waits = c.script.inside.waits in
    let held = c.script.inside.held.items in
    let last = closes c.script.inside.context.node in
    let released = c.release_all.ensures.steps last end (c.close.ensures.closed.ends (Gives tt tt) end (spent-nothing end)) in
    let behind : Spent (ended_behind c.leave_under_way.new.self) c.leave_under_way.new.world end =
    rw (← c.script.view_is, ← c.only_one.ensures.stop)
    (c.give_stop_up.ensures.steps.ends (followed_by (stops_waiting waits held) (releases_all (left_by waits held) last)) end
    (c.stop_waiting-held.ensures.steps.ends (releases_all (left_by waits held) last) end
    (rw c.stop_waiting-held.ensures.left at released))) in
    let left = unchosen (choice_in s.text (range_of s.waits)) s in
    c.leave_under_way.ensures.steps.ends (ended_behind left) end (subst (λ (t : Script). Spent (ended_behind t) c.leave_under_way.new.world end) c.leave_under_way.ensures.state behind)
