use Rattle.rt_scripts.proofs.Prelude.{◌≡◌, ◌≢◌, IfNone, IfSome, LacksMemory, NoMemory, passed, refused, stop_goes, value_of}
use Rattle.rt_scripts.proofs.Scripts.{advanced-after, refused-advanced}
use Rattle.rt_scripts.proofs.script.Script.poll_stop.Goals as goal

pub returns-in-Ready-Err-clause-steps : goal.returns-in-Ready-Err-clause-steps
unfolding stop_goes
returns-in-Ready-Err-clause-steps g c on =
    let s = c.args.self.now in
    let error = c.in-Ready-Err.error in
    let goes : IfNone c.refuse.result ((error ≢ LacksMemory) × (c.refuse.new.self ≡ passed s (value_of error))) = rw c.in-Ready-Err.error-is at c.refuse.ensures.goes in
    let ends : IfSome c.refuse.result (λ answer. (answer ≡ NoMemory) × (error ≡ LacksMemory) × (c.refuse.new.self ≡ s)) = rw c.in-Ready-Err.error-is at c.refuse.ensures.ends in
    advanced-after (stop_goes s on c.args.world.now.told.state.clock.time c.args.cx.now.task c.args.stop) (refused s on error) (on c.refuse.new.self) c.args.world.now c.give_up-in-Ready-Err.new.world c.give_up-in-Ready-Err.new.world c.refuse.result c.refuse.new.self
    (record { leads = λ end answer left walked. (rw c.in-Ready-Err.field-0-is at c.in-Ready-Err.ensures.steps).onward _ _ _ _ (c.give_up-in-Ready-Err.ensures.steps.onward _ _ _ _ walked) })
    (refused-advanced c.give_up-in-Ready-Err.new.world s c.refuse.new.self on error c.refuse.result goes ends)
