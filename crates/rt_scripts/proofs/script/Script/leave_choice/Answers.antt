use Rattle.rt_scripts.proofs.Prelude.{subst, Spends, choices_in, Script, aborted_in, aborts_chosen, releases_chosen}
use Rattle.rt_scripts.proofs.Choices.{spends-both}
use Rattle.rt_scripts.proofs.script.Script.leave_choice.Goals as goal

pub returns-clause-steps : goal.returns-clause-steps
returns-clause-steps g c =
    let s = c.args.self.now in
    let names = choices_in s.text c.args.first c.args.past in
    let given_up = subst (λ (t : Script). Spends (releases_chosen (choices_in t.text c.args.first c.args.past) t.held) c.abort_chosen.new.world c.release_chosen.new.world) c.abort_chosen.ensures.state c.release_chosen.ensures.steps in
    spends-both (aborts_chosen names s.held) (releases_chosen names (aborted_in names s.held)) c.args.world.now c.abort_chosen.new.world c.release_chosen.new.world c.abort_chosen.ensures.steps given_up
