use Rattle.rt_scripts.proofs.Prelude.{◌≡◌, sym, ◌∙◌, ◌≢◌, ap, subst, Some, Err, IfNone, IfSome, LacksMemory, NoMemory, followed_by, task_spends, Script, handle_at, joins_within, limit_in, loosed, passed, refused, value_of, waiting, Nothing}
use Rattle.rt_scripts.proofs.Scripts.{advanced-after, refused-advanced}
use Rattle.rt_scripts.proofs.script.Script.join_within.Goals as goal

pub returns-in-Err-clause-steps : goal.returns-in-Err-clause-steps
unfolding joins_within
returns-in-Err-clause-steps g c on =
    let held : handle_at c.args.self.now c.args.at ≡ Some c.in-Some.handle = sym c.in-Some.ensures.handle in
    let error = c.in-Err.error in
    let loose = loosed c.args.self.now c.args.at in
    let s = waiting loose Nothing in
    let state = c.self.view_is ∙ c.in-Some.ensures.taken.0 in
    let begun : limit_in c.self.inside.waits c.args.fresh ≡ Err error = rw c.replace.ensures.value at (sym c.limit_in.ensures ∙ c.in-Err.is) in
    let late : limit_in c.args.self.now.waits c.args.fresh ≡ Err error = sym (ap (λ (t : Script). limit_in t.waits c.args.fresh) state) ∙ begun in
    let goes : IfNone c.refuse.result ((error ≢ LacksMemory) × (c.refuse.new.self ≡ passed s (value_of error))) = subst (λ (t : Script). IfNone c.refuse.result ((error ≢ LacksMemory) × (c.refuse.new.self ≡ passed t (value_of error)))) state c.refuse.ensures.goes in
    let ends : IfSome c.refuse.result (λ answer. (answer ≡ NoMemory) × (error ≡ LacksMemory) × (c.refuse.new.self ≡ s)) = subst (λ (t : Script). IfSome c.refuse.result (λ answer. (answer ≡ NoMemory) × (error ≡ LacksMemory) × (c.refuse.new.self ≡ waiting t Nothing))) state (rw c.replace.ensures.after at c.refuse.ensures.ends) in
    rw (held, late)
    (advanced-after (followed_by (task_spends c.in-Some.handle) (refused s on error)) (refused s on error) (on c.refuse.new.self) c.args.world.now c.give_up.new.world c.give_up.new.world c.refuse.result c.refuse.new.self
    (record { leads = λ end answer left walked. c.give_up.ensures.steps.onward _ _ _ _ walked })
    (refused-advanced c.give_up.new.world s c.refuse.new.self on error c.refuse.result goes ends))
