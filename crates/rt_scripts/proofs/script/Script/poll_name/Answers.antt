use Rattle.rt_scripts.proofs.Prelude.{◌≡◌, ◌∙◌, ap, Script, bound, put_back, Handle}
use Rattle.rt_scripts.proofs.Choices.{polls-held, polls-missing}
use Rattle.rt_scripts.proofs.script.Script.poll_name.Goals as goal

pub returns-in_default-clause-steps : goal.returns-in_default-clause-steps
returns-in_default-clause-steps g c =
    rw (c.in_default.ensures.stays, ← c.in_default.ensures.handle) (polls-missing c.args.at c.args.self.now c.args.world.now)

pub returns-clause-steps : goal.returns-clause-steps
returns-clause-steps g c =
    let s = c.args.self.now in
    let same : c.keep.new.self ≡ bound s c.args.at (Handle c.poll-told.new.self) = c.keep.ensures ∙ ap (λ (t : Script). put_back t c.args.at (Handle c.poll-told.new.self)) c.in-Some.ensures.taken.0 in
    rw (same, ← c.in-Some.ensures.handle)
    (polls-held c.args.at s c.in-Some.handle c.poll-told.new.self c.poll-told.result c.args.world.now c.poll-told.new.world c.poll-told.ensures.steps)
