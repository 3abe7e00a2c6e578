use Rattle.rt_scripts.proofs.Prelude.{rules, ◌≡◌, ◌∙◌, ap, sym, pos, ℕ, List, Ok, with_task, Script, bound, passed, placed, refused, spawned, started, Held, Handle}
use Rattle.rt_scripts.proofs.Scripts.{advanced-after, refused-advanced, without-none}
use Rattle.rt_scripts.proofs.script.Script.start.Goals as goal

pub returns-in-Ok-clause-steps : goal.returns-in-Ok-clause-steps
returns-in-Ok-clause-steps g c on =
    let s = c.args.self.now in
    let told = c.in-Ok.ensures.steps (started s.program c.args.script) (λ context state post. search rules) in
    let held = Handle c.in-Ok.handle in
    let same : c.pass.new.self ≡ passed (bound s c.args.at held) (pos 0) = c.pass.ensures ∙ ap (λ (t : Script). passed t (pos 0)) c.keep.ensures ∙ ap (λ (l : List (ℕ × Held)). passed (record s { held = with_task c.args.at held l }) (pos 0)) (sym (without-none c.args.at s.held c.requires.free)) in
    record { leads = λ end answer left walked. told.onward (λ told u. spawned s on c.args.at c.args.context told) end answer left (rw same at walked) }

pub returns-in-Err-clause-steps : goal.returns-in-Err-clause-steps
returns-in-Err-clause-steps g c on =
    let s = c.args.self.now in
    let context = c.args.context in
    let error = c.in-Err.refused.error in
    let told = c.in-Err.ensures.steps (started s.program c.args.script) (λ context state post. search rules) in
    advanced-after (placed s on c.args.at c.args.script (Ok context)) (refused s on error) (on c.refuse.new.self) c.args.world.now c.close.new.world c.close.new.world c.refuse.result c.refuse.new.self
    (record { leads = λ end answer left walked. told.onward (λ told u. spawned s on c.args.at context told) end answer left (rw c.in-Err.ensures.back at (c.close.ensures.closed.onward (refused s on error) end answer left walked)) })
    (refused-advanced c.close.new.world s c.refuse.new.self on error c.refuse.result c.refuse.ensures.goes c.refuse.ensures.ends)
