use Rattle.rt_scripts.proofs.Prelude.{◌≡◌, sym, ◌∙◌, ◌≢◌, ap, subst, rules, None, IfNone, IfSome, to_z-of_z, w32, SFits, LacksMemory, NoMemory, Clock, then, childs, Advanced, tells, polled-lacking, Script, begun_stop, passed, refused, stop_goes, stops, stops_by, value_of}
use Rattle.rt_scripts.proofs.Scripts.{advanced-after, refused-advanced}
use Rattle.rt_scripts.proofs.script.Script.stop.Goals as goal

pub returns-then-is_err-clause-steps : goal.returns-then-is_err-clause-steps
unfolding stops childs tells then
returns-then-is_err-clause-steps g c on =
    let s : Script = record c.args.self.now { stop = None } in
    let none : c.args.self.now.stop ≡ None = sym (c.only_one.ensures.stop ∙ c.take_stop-room.ensures.stop) ∙ c.in_default.is in
    rw none
    (polled-lacking c.args.world.now c.lack.new.self (stops_by s on c.args.value c.args.limit c.args.world.now.told.state.clock.time c.args.cx.now.task None) NoMemory c.take_stop-room.new.self c.lack.ensures.state tt)

pub returns-in-Ok-clause-steps : goal.returns-in-Ok-clause-steps
unfolding stops
returns-in-Ok-clause-steps g c on =
    let s : Script = record c.args.self.now { stop = None } in
    let time = c.args.world.now.told.state.clock.time in
    let task = c.args.cx.now.task in
    let none : c.args.self.now.stop ≡ None = sym (c.only_one.ensures.stop ∙ c.take_stop-room.ensures.stop) ∙ c.in_default.is in
    let is = c.self.view_is ∙ c.take_stop-room.ensures.state in
    let child = rw (ap (λ (t : Script). t.context) is) at c.in-Ok.ensures.steps in
    let same : c.child.new.world.told.state.clock.time ≡ time = ap (λ (k : Clock). k.time) c.child.ensures.kept.clock in
    let fits : SFits w32 c.args.value = (search rules) in
    let later = c.child.new.world in
    let end = c.poll_stop-in-Ok.new.world in
    let going = subst (λ (t : Script). Advanced (stop_goes t on later.told.state.clock.time task c.stop.result) (on c.poll_stop-in-Ok.new.self) later end c.poll_stop-in-Ok.result c.poll_stop-in-Ok.new.self) c.take_stop-room.ensures.state (c.poll_stop-in-Ok.ensures.steps on) in
    rw none
    (advanced-after (stops_by s on c.args.value c.args.limit time task None) (stop_goes s on time task c.stop.result) (on c.poll_stop-in-Ok.new.self) c.args.world.now later end c.poll_stop-in-Ok.result c.poll_stop-in-Ok.new.self
    (record { leads = λ end answer left walked. child.onward (λ made u. begun_stop s on c.args.value c.args.limit time task made) end answer left (rw (c.stop.ensures, to_z-of_z w32 c.args.value fits) at walked) })
    (subst (λ now. Advanced (stop_goes s on now task c.stop.result) (on c.poll_stop-in-Ok.new.self) later end c.poll_stop-in-Ok.result c.poll_stop-in-Ok.new.self) same going))

pub returns-in-Err-clause-steps : goal.returns-in-Err-clause-steps
unfolding stops
returns-in-Err-clause-steps g c on =
    let s : Script = record c.args.self.now { stop = None } in
    let time = c.args.world.now.told.state.clock.time in
    let task = c.args.cx.now.task in
    let error = c.in-Err.error in
    let none : c.args.self.now.stop ≡ None = sym (c.only_one.ensures.stop ∙ c.take_stop-room.ensures.stop) ∙ c.in_default.is in
    let is = c.self.view_is ∙ c.take_stop-room.ensures.state in
    let child = rw (ap (λ (t : Script). t.context) is) at c.in-Err.ensures.steps in
    let goes : IfNone c.refuse.result ((error ≢ LacksMemory) × (c.refuse.new.self ≡ passed s (value_of error))) = subst (λ (t : Script). IfNone c.refuse.result ((error ≢ LacksMemory) × (c.refuse.new.self ≡ passed t (value_of error)))) c.take_stop-room.ensures.state c.refuse.ensures.goes in
    let ends : IfSome c.refuse.result (λ answer. (answer ≡ NoMemory) × (error ≡ LacksMemory) × (c.refuse.new.self ≡ s)) = subst (λ (t : Script). IfSome c.refuse.result (λ answer. (answer ≡ NoMemory) × (error ≡ LacksMemory) × (c.refuse.new.self ≡ t))) c.take_stop-room.ensures.state c.refuse.ensures.ends in
    rw none
    (advanced-after (stops_by s on c.args.value c.args.limit time task None) (refused s on error) (on c.refuse.new.self) c.args.world.now c.child.new.world c.child.new.world c.refuse.result c.refuse.new.self
    (record { leads = λ end answer left walked. child.onward (λ made u. begun_stop s on c.args.value c.args.limit time task made) end answer left walked })
    (refused-advanced c.child.new.world s c.refuse.new.self on error c.refuse.result goes ends))
