use Rattle.rt_world.proofs.Prelude.{◌∙◌, sym, refl, GiveUp, Done}
use Rattle.rt_world.proofs.Calling.{given-up-seated}
use Rattle.rt_world.proofs.Slotted.{slotted-noted}
use Rattle.rt_world.proofs.world.World.give_up.Goals as goal

pub invariant_of-self : goal.invariant_of-self
invariant_of-self g c =
    let w = c.self.inside in
    let noted = c.give_up.ensures.spent.there (sym c.has_result.ensures ∙ c.if-not-has_result.false) in
    (given-up-seated w.tasks w.outputs c.remove.new.self w.out w.out w.machine c.give_up.new.self c.self.invariant.0 c.remove.ensures.first c.remove.ensures.next c.args.task c.remove.ensures.items noted c.give_up.ensures.gone, slotted-noted w.sent w.out w.machine c.give_up.new.self c.self.invariant.1 (GiveUp c.args.task) Done noted refl)
