use Rattle.rt_scripts.proofs.Prelude.{◌≡◌, ap, subst, ScriptText, Spends, choices_in, Script, leaves_choice, unchosen}
use Rattle.rt_scripts.proofs.Choices.{choice-pending, choice-ready}
use Rattle.rt_scripts.proofs.script.Script.poll_choice.Goals as goal

pub returns-in-Pending-clause-steps : goal.returns-in-Pending-clause-steps
returns-in-Pending-clause-steps g c =
    let s = c.args.self.now in
    let now = c.poll_chosen.new.world in
    choice-pending (choices_in s.text c.args.first c.args.past) s c.poll_chosen.new.self c.args.world.now now now (rw c.in-Pending.is at c.poll_chosen.ensures.steps)

pub returns-in-Ready-clause-steps : goal.returns-in-Ready-clause-steps
returns-in-Ready-clause-steps g c =
    let s = c.args.self.now in
    let mid = c.poll_chosen.new.self in
    let text = ap (λ (x : Script). x.text) c.poll_chosen.ensures.rest in
    let ats = choices_in s.text c.args.first c.args.past in
    let leaves = subst (λ (x : ScriptText). Spends (leaves_choice (choices_in x c.args.first c.args.past) mid.held) c.poll_chosen.new.world c.leave_choice.new.world) text c.leave_choice.ensures.steps in
    let left = subst (λ (x : ScriptText). c.leave_choice.new.self ≡ unchosen (choices_in x c.args.first c.args.past) mid) text c.leave_choice.ensures.state in
    rw left (choice-ready ats s mid c.args.world.now c.poll_chosen.new.world c.leave_choice.new.world c.in-Ready.answer (rw c.in-Ready.is at c.poll_chosen.ensures.steps) leaves)
