use Rattle.rt_scripts.proofs.Prelude.{◌≡◌, ◌∙◌, ◌≢◌, ap, subst, pos, IfNone, IfSome, LacksMemory, NoMemory, then, asks_stopped, tells, polled-lacking, Script, asks, loosed, passed, put_back, refused, roomed, signaled, value_of, Signal}
use Rattle.rt_scripts.proofs.Scripts.{advanced-after, refused-advanced}
use Rattle.rt_scripts.proofs.script.Script.ask_stopped.Goals as goal

pub returns-in_default-clause-steps : goal.returns-in_default-clause-steps
unfolding asks asks_stopped tells then
returns-in_default-clause-steps g c on =
    let at = c.args.at in
    let next = then asks_stopped (λ made u. signaled (roomed (loosed c.args.self.now at) at) on at made) in
    c.release.ensures.steps.onward next c.lack.new.self NoMemory c.make_room.new.self (polled-lacking c.release.new.world c.lack.new.self next NoMemory c.make_room.new.self c.lack.ensures.state tt)

pub returns-in-Ok-stopped-clause-steps : goal.returns-in-Ok-stopped-clause-steps
unfolding asks
returns-in-Ok-stopped-clause-steps g c on =
    let at = c.args.at in
    let room = roomed (loosed c.args.self.now at) at in
    let roomy = c.in-Ok.ensures.state ∙ ap (λ t. roomed t at) c.release.ensures.state in
    let signal = Signal c.in-Ok-stopped.signal in
    let same : c.pass.new.self ≡ passed (put_back room at signal) (pos 0) = c.pass.ensures ∙ ap (λ t. passed t (pos 0)) (c.keep.ensures ∙ ap (λ t. put_back t at signal) roomy) in
    let next = then asks_stopped (λ made u. signaled room on at made) in
    record { leads = λ end answer left walked. c.release.ensures.steps.onward next end answer left (c.in-Ok-stopped.ensures.steps.onward (λ made u. signaled room on at made) end answer left (rw same at walked)) }

pub returns-in-Err-clause-steps : goal.returns-in-Err-clause-steps
unfolding asks
returns-in-Err-clause-steps g c on =
    let s = c.args.self.now in
    let at = c.args.at in
    let error = c.in-Err.error in
    let room = roomed (loosed s at) at in
    let roomy = c.in-Ok.ensures.state ∙ ap (λ t. roomed t at) c.release.ensures.state in
    let next = then asks_stopped (λ made u. signaled room on at made) in
    let goes : IfNone c.refuse.result ((error ≢ LacksMemory) × (c.refuse.new.self ≡ passed room (value_of error))) = subst (λ (t : Script). IfNone c.refuse.result ((error ≢ LacksMemory) × (c.refuse.new.self ≡ passed t (value_of error)))) roomy c.refuse.ensures.goes in
    let ends : IfSome c.refuse.result (λ answer. (answer ≡ NoMemory) × (error ≡ LacksMemory) × (c.refuse.new.self ≡ room)) = subst (λ (t : Script). IfSome c.refuse.result (λ answer. (answer ≡ NoMemory) × (error ≡ LacksMemory) × (c.refuse.new.self ≡ t))) roomy c.refuse.ensures.ends in
    advanced-after (asks s on at) (refused room on error) (on c.refuse.new.self) c.args.world.now c.stopped.new.world c.stopped.new.world c.refuse.result c.refuse.new.self
    (record { leads = λ end answer left walked. c.release.ensures.steps.onward next end answer left (c.in-Err.ensures.steps.onward (λ made u. signaled room on at made) end answer left walked) })
    (refused-advanced c.stopped.new.world room c.refuse.new.self on error c.refuse.result goes ends)
