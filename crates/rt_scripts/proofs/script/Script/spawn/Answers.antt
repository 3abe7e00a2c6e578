use Rattle.rt_scripts.proofs.Prelude.{◌≡◌, ◌≢◌, ◌∙◌, ap, subst, IfNone, IfSome, Ok, OutOf, NoMemory, then, childs, Advanced, tells, polled-lacking, name_at, Script, loosed, passed, placed, refused, roomed, spawns, value_of}
use Rattle.rt_scripts.proofs.Scripts.{advanced-after, refused-advanced}
use Rattle.rt_scripts.proofs.script.Script.spawn.Goals as goal

pub returns-in_default-clause-steps : goal.returns-in_default-clause-steps
unfolding spawns childs tells then
returns-in_default-clause-steps g c on =
    let s = c.args.self.now in
    let at = c.args.at in
    let next = then (childs s.context (name_at s.text at)) (λ made u. placed (roomed (loosed s at) at) on at c.args.script made) in
    c.release.ensures.steps.onward next c.lack.new.self NoMemory c.make_ready.new.self (polled-lacking c.release.new.world c.lack.new.self next NoMemory c.make_ready.new.self c.lack.ensures.state tt)

pub returns-in-Ok-child-clause-steps : goal.returns-in-Ok-child-clause-steps
unfolding spawns
returns-in-Ok-child-clause-steps g c on =
    let s = c.args.self.now in
    let at = c.args.at in
    let context = c.in-Ok-child.context in
    let room = roomed (loosed s at) at in
    let roomy = c.in-Ok.ensures.state ∙ ap (λ t. roomed t at) c.release.ensures.state in
    let state = c.self.view_is ∙ roomy in
    let label : c.handle_name.result.now ≡ name_at s.text at = c.handle_name.ensures ∙ ap (λ (t : Script). name_at t.text at) state in
    let child = rw (label, ap (λ (t : Script). t.context) state) at c.in-Ok-child.ensures.steps in
    let next = then (childs s.context (name_at s.text at)) (λ made u. placed room on at c.args.script made) in
    advanced-after (spawns s on at c.args.script) (placed room on at c.args.script (Ok context)) (on c.start.new.self) c.args.world.now c.child.new.world c.start.new.world c.start.result c.start.new.self
    (record { leads = λ end answer left walked. c.release.ensures.steps.onward next end answer left (child.onward (λ made u. placed room on at c.args.script made) end answer left walked) })
    (subst (λ (t : Script). Advanced (placed t on at c.args.script (Ok context)) (on c.start.new.self) c.child.new.world c.start.new.world c.start.result c.start.new.self) roomy (c.start.ensures.steps on))

pub returns-in-Err-clause-steps : goal.returns-in-Err-clause-steps
unfolding spawns
returns-in-Err-clause-steps g c on =
    let s = c.args.self.now in
    let at = c.args.at in
    let error = c.in-Err.error in
    let room = roomed (loosed s at) at in
    let roomy = c.in-Ok.ensures.state ∙ ap (λ t. roomed t at) c.release.ensures.state in
    let state = c.self.view_is ∙ roomy in
    let label : c.handle_name.result.now ≡ name_at s.text at = c.handle_name.ensures ∙ ap (λ (t : Script). name_at t.text at) state in
    let child = rw (label, ap (λ (t : Script). t.context) state) at c.in-Err.ensures.steps in
    let next = then (childs s.context (name_at s.text at)) (λ made u. placed room on at c.args.script made) in
    let goes : IfNone c.refuse.result ((error ≢ OutOf) × (c.refuse.new.self ≡ passed room (value_of error))) = subst (λ (t : Script). IfNone c.refuse.result ((error ≢ OutOf) × (c.refuse.new.self ≡ passed t (value_of error)))) roomy c.refuse.ensures.goes in
    let ends : IfSome c.refuse.result (λ answer. (answer ≡ NoMemory) × (error ≡ OutOf) × (c.refuse.new.self ≡ room)) = subst (λ (t : Script). IfSome c.refuse.result (λ answer. (answer ≡ NoMemory) × (error ≡ OutOf) × (c.refuse.new.self ≡ t))) roomy c.refuse.ensures.ends in
    advanced-after (spawns s on at c.args.script) (refused room on error) (on c.refuse.new.self) c.args.world.now c.child.new.world c.child.new.world c.refuse.result c.refuse.new.self
    (record { leads = λ end answer left walked. c.release.ensures.steps.onward next end answer left (child.onward (λ made u. placed room on at c.args.script made) end answer left walked) })
    (refused-advanced c.child.new.world room c.refuse.new.self on error c.refuse.result goes ends)
