use Rattle.rt_scripts.proofs.Prelude.{◌≡◌, sym, ◌≢◌, refl, rules, Some, IfNone, IfSome, to_z-of_z, w64, SFits, LacksMemory, NoMemory, Pending, polled-gives, handle_at, joins, joins_held, loosed, passed, refused, value_of}
use Rattle.rt_scripts.proofs.Scripts.{advanced-after, refused-advanced}
use Rattle.rt_scripts.proofs.script.Script.join.Goals as goal

pub returns-in-Ready-Err-clause-steps : goal.returns-in-Ready-Err-clause-steps
unfolding joins
returns-in-Ready-Err-clause-steps g c on =
    let held : handle_at c.args.self.now c.args.at ≡ Some c.in-Some.handle = sym c.in-Some.ensures.handle in
    let s = loosed c.args.self.now c.args.at in
    let error = c.in-Ready-Err.error in
    let goes : IfNone c.refuse.result ((error ≢ LacksMemory) × (c.refuse.new.self ≡ passed s (value_of error))) = rw c.in-Some.ensures.taken.0 at c.refuse.ensures.goes in
    let ends : IfSome c.refuse.result (λ answer. (answer ≡ NoMemory) × (error ≡ LacksMemory) × (c.refuse.new.self ≡ s)) = rw c.in-Some.ensures.taken.0 at c.refuse.ensures.ends in
    rw held
    (advanced-after (joins_held c.args.self.now on c.args.at (Some c.in-Some.handle)) (refused s on error) (on c.refuse.new.self) c.args.world.now c.give_up-in-Ready-Err.new.world c.give_up-in-Ready-Err.new.world c.refuse.result c.refuse.new.self
    (record { leads = λ end answer left walked. (rw c.in-Ready-Err.field-0-is at c.in-Ready-Err.ensures.steps).onward _ _ _ _ (c.give_up-in-Ready-Err.ensures.steps.onward _ _ _ _ walked) })
    (refused-advanced c.give_up-in-Ready-Err.new.world s c.refuse.new.self on error c.refuse.result goes ends))

pub returns-in-Pending-clause-steps : goal.returns-in-Pending-clause-steps
unfolding joins
returns-in-Pending-clause-steps g c on =
    let held : handle_at c.args.self.now c.args.at ≡ Some c.in-Some.handle = sym c.in-Some.ensures.handle in
    rw (c.keep.ensures, c.in-Some.ensures.taken.0, held) (c.poll.ensures.steps.onward _ c.poll.new.world Pending _ (rw c.in-Pending.is (polled-gives _ _ _ _ refl)))

pub returns-in-Ready-Ok-clause-steps : goal.returns-in-Ready-Ok-clause-steps
unfolding joins
returns-in-Ready-Ok-clause-steps g c on =
    let held : handle_at c.args.self.now c.args.at ≡ Some c.in-Some.handle = sym c.in-Some.ensures.handle in
    let fits : SFits w64 c.in-Ready-Ok.value = (search rules) in
    rw (c.pass-in-Ready-Ok.ensures, to_z-of_z w64 c.in-Ready-Ok.value fits, c.in-Some.ensures.taken.0, held) (record {
      leads = λ end answer left walked.
          c.poll.ensures.steps.onward _ end answer left (rw (c.in-Ready-Ok.is, c.in-Ready-Ok.field-0-is) (c.give_up.ensures.steps.onward _ end answer left walked));
    })
