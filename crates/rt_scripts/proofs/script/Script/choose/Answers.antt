use Rattle.rt_scripts.proofs.Prelude.{chosen, goes_choosing, refused}
use Rattle.rt_scripts.proofs.Scripts.{advanced-after, refused-advanced}
use Rattle.rt_scripts.proofs.script.Script.choose.Goals as goal

pub returns-in-Ready-Err-clause-steps : goal.returns-in-Ready-Err-clause-steps
unfolding goes_choosing
returns-in-Ready-Err-clause-steps g c on =
    let s = c.poll_choice.new.self in
    let error = c.in-Ready-Err.error in
    let left = c.poll_choice.new.world in
    advanced-after (goes_choosing c.args.self.now on c.args.first c.args.past) (refused s on error) (on c.refuse.new.self) c.args.world.now left left c.refuse.result c.refuse.new.self
    (record { leads = λ end answer last walked. (rw c.in-Ready-Err.field-0-is at c.in-Ready-Err.ensures.steps).onward (chosen on c.args.first c.args.past) end answer last walked })
    (refused-advanced left s c.refuse.new.self on error c.refuse.result c.refuse.ensures.goes c.refuse.ensures.ends)
