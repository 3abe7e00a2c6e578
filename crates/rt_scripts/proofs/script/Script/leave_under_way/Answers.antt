use Rattle.rt_scripts.proofs.Prelude.{refl, Gives, aborted_in, aborts_chosen, freed_of, releases_chosen}
use Rattle.rt_scripts.proofs.Choices.{spends-both, spends-none}
use Rattle.rt_scripts.proofs.script.Script.leave_under_way.Goals as goal

pub returns-in_default-clause-state : goal.returns-in_default-clause-state
unfolding aborted_in freed_of
returns-in_default-clause-state g c = rw (← c.in_default.ensures) refl

pub returns-in_default-clause-steps : goal.returns-in_default-clause-steps
unfolding aborted_in aborts_chosen releases_chosen
returns-in_default-clause-steps g c =
    let w = c.args.world.now in
    rw (← c.in_default.ensures) (spends-both (Gives tt tt) (Gives tt tt) w w w (spends-none w) (spends-none w))
