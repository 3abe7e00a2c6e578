use Rattle.rt_world.proofs.Prelude.{◌∙◌, refl, sym, Slots, AbortWait, Done, Noted}
use Rattle.rt_world.proofs.Calling.{seated-quiet}
use Rattle.rt_world.proofs.Slotted.{aborted-slotted}
use Rattle.rt_world.proofs.world.World.abort_wait.Goals as goal

pub invariant_of-self : goal.invariant_of-self
invariant_of-self g c =
    let w = c.self.inside in
    let r = c.remove.ensures in
    let noted : Noted w.out w.machine c.abort_wait.new.self (Slots (AbortWait c.args.slot)) Done = c.abort_wait.ensures.there (sym c.may_abort_wait.ensures ∙ c.if-not-may_abort_wait.false) in
    (seated-quiet w.tasks w.outputs w.out w.out w.machine c.abort_wait.new.self c.self.invariant.0 (Slots (AbortWait c.args.slot)) Done noted refl refl refl, aborted-slotted w.sent c.remove.new.self w.out w.machine c.abort_wait.new.self c.self.invariant.1 c.args.slot r.items r.first r.next r.gone noted)
