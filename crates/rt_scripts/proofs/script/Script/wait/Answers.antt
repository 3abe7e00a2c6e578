use Rattle.rt_scripts.proofs.Prelude.{◌≡◌, sym, ◌∙◌, ◌≢◌, ap, subst, Some, IfNone, IfSome, LacksMemory, NoMemory, Script, awaits, awaits_held, bound, passed, put_back, refused, signal_at, value_of, Signal}
use Rattle.rt_scripts.proofs.Scripts.{advanced-after, refused-advanced}
use Rattle.rt_scripts.proofs.script.Script.wait.Goals as goal

pub returns-in-Ready-Err-clause-steps : goal.returns-in-Ready-Err-clause-steps
unfolding awaits
returns-in-Ready-Err-clause-steps g c on =
    let held : signal_at c.args.self.now c.args.at ≡ Some c.in-Some.signal = sym c.in-Some.ensures.signal in
    let signal = Signal c.poll-shown.new.self in
    let s = bound c.args.self.now c.args.at signal in
    let state : c.keep.new.self ≡ s = c.keep.ensures ∙ ap (λ t. put_back t c.args.at signal) c.in-Some.ensures.taken.0 in
    let error = c.in-Ready-Err.error in
    let goes : IfNone c.refuse.result ((error ≢ LacksMemory) × (c.refuse.new.self ≡ passed s (value_of error))) = subst (λ (t : Script). IfNone c.refuse.result ((error ≢ LacksMemory) × (c.refuse.new.self ≡ passed t (value_of error)))) state (rw c.in-Ready-Err.error-is at c.refuse.ensures.goes) in
    let ends : IfSome c.refuse.result (λ answer. (answer ≡ NoMemory) × (error ≡ LacksMemory) × (c.refuse.new.self ≡ s)) = subst (λ (t : Script). IfSome c.refuse.result (λ answer. (answer ≡ NoMemory) × (error ≡ LacksMemory) × (c.refuse.new.self ≡ t))) state (rw c.in-Ready-Err.error-is at c.refuse.ensures.ends) in
    rw held
    (advanced-after (awaits_held c.args.self.now on c.args.at (Some c.in-Some.signal)) (refused s on error) (on c.refuse.new.self) c.args.world.now c.poll-shown.new.world c.poll-shown.new.world c.refuse.result c.refuse.new.self
    (record { leads = λ end answer left walked. (rw c.in-Ready-Err.field-0-is at c.in-Ready-Err.ensures.steps).onward _ _ _ _ walked })
    (refused-advanced c.poll-shown.new.world s c.refuse.new.self on error c.refuse.result goes ends))
