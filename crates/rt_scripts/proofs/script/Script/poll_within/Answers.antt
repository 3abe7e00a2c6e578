use Rattle.rt_scripts.proofs.Prelude.{◌≡◌, ◌≢◌, IfNone, IfSome, LacksMemory, IsPending, NoMemory, limited, limits, passed, refused, value_of}
use Rattle.rt_scripts.proofs.Scripts.{advanced-after, refused-advanced}
use Rattle.rt_scripts.proofs.script.Script.poll_within.Goals as goal

pub returns-in-Pending-clause-steps : goal.returns-in-Pending-clause-steps
unfolding limits
returns-in-Pending-clause-steps g c on =
    advanced-after (limits c.args.self.now on c.args.at c.args.sleep c.args.handle) (limited c.args.self.now on c.args.at c.args.sleep IsPending c.poll.new.self) (on c.poll_limit.new.self) c.args.world.now c.poll.new.world c.poll_limit.new.world c.poll_limit.result c.poll_limit.new.self
    (record { leads = λ end answer left walked. c.poll.ensures.steps.onward _ end answer left (rw c.in-Pending.is walked) })
    (c.poll_limit.ensures.steps on)

pub returns-in-Ready-Err-clause-steps : goal.returns-in-Ready-Err-clause-steps
unfolding limits
returns-in-Ready-Err-clause-steps g c on =
    let s = c.args.self.now in
    let error = c.in-Ready-Err.error in
    let goes : IfNone c.refuse.result ((error ≢ LacksMemory) × (c.refuse.new.self ≡ passed s (value_of error))) = rw c.in-Ready-Err.error-is at c.refuse.ensures.goes in
    let ends : IfSome c.refuse.result (λ answer. (answer ≡ NoMemory) × (error ≡ LacksMemory) × (c.refuse.new.self ≡ s)) = rw c.in-Ready-Err.error-is at c.refuse.ensures.ends in
    advanced-after (limits s on c.args.at c.args.sleep c.args.handle) (refused s on error) (on c.refuse.new.self) c.args.world.now c.give_up-in-Ready-Err.new.world c.give_up-in-Ready-Err.new.world c.refuse.result c.refuse.new.self
    (record { leads = λ end answer left walked. (rw c.in-Ready-Err.field-0-is at c.in-Ready-Err.ensures.steps).onward _ _ _ _ (c.give_up-in-Ready-Err.ensures.steps.onward _ _ _ _ walked) })
    (refused-advanced c.give_up-in-Ready-Err.new.world s c.refuse.new.self on error c.refuse.result goes ends)
