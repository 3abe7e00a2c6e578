use Rattle.rt_world.proofs.Prelude.{◌∙◌, refl, sym, Join, Pending, Ready, find, Noted, AreThere}
use Rattle.rt_world.proofs.Coming.{none-some}
use Rattle.rt_world.proofs.Calling.{pending-seated, ready-there, ready-seated, ending-runs, pending-calls, ready-calls}
use Rattle.rt_world.proofs.Slotted.{slotted-noted}
use Rattle.rt_world.proofs.world.World.join.Goals as goal

pub invariant_of-self-then-not-branch : goal.invariant_of-self-then-not-branch
invariant_of-self-then-not-branch g c =
    let w = c.self.inside in
    let noted : Noted w.out w.machine c.join.new.self (Join c.args.task) Pending = rw c.if-not-branch.true at c.in_ok-join.ensures.ok in
    (pending-seated w.tasks w.outputs w.out w.out w.machine c.join.new.self c.self.invariant.0 c.args.task noted, slotted-noted w.sent w.out w.machine c.join.new.self c.self.invariant.1 (Join c.args.task) Pending noted refl)

pub returns-then-not-branch-clause-called : goal.returns-then-not-branch-clause-called
returns-then-not-branch-clause-called g c =
    let w = c.self.inside in
    let noted : Noted w.out w.machine c.join.new.self (Join c.args.task) Pending = rw c.if-not-branch.true at c.in_ok-join.ensures.ok in
    rw (← c.self.view_is) (pending-calls w.machine c.join.new.self _ _ w.panic w.out w.rng c.args.task refl noted)

pub unreachable-requires : goal.unreachable-requires
unfolding AreThere
unreachable-requires g c =
    let w = c.self.inside in
    let noted : Noted w.out w.machine c.join.new.self (Join c.args.task) Ready = rw c.if-not-branch.false at c.in_ok-join.ensures.ok in
    let ready = ready-there (find c.args.task w.machine.told.state.stood.results) noted.answers in
    none-some (find c.args.task w.outputs.items) (sym c.take.ensures.state ∙ c.in-None.is) (c.self.invariant.0.there c.args.task ready.0 ready.1 ready.2)

pub invariant_of-self-2 : goal.invariant_of-self-2
invariant_of-self-2 g c =
    let w = c.self.inside in
    let s = w.machine.told.state in
    let noted : Noted w.out w.machine c.join.new.self (Join c.args.task) Ready = rw c.if-not-branch.false at c.in_ok-join.ensures.ok in
    let ready = ready-there (find c.args.task s.stood.results) noted.answers in
    let calls = rw (← c.self.view_is) at c.requires in
    (ready-seated w.tasks w.outputs c.take.new.self w.out w.out w.machine c.join.new.self c.self.invariant.0 c.take.ensures.first c.take.ensures.next c.args.task ready.0 c.take.ensures.items noted ready.1 ready.2 (ending-runs s.phase s.root _ w.out s.running calls c.self.invariant.0.runs), slotted-noted w.sent w.out w.machine c.join.new.self c.self.invariant.1 (Join c.args.task) Ready noted refl)

pub returns-clause-called : goal.returns-clause-called
returns-clause-called g c =
    let w = c.self.inside in
    let noted : Noted w.out w.machine c.join.new.self (Join c.args.task) Ready = rw c.if-not-branch.false at c.in_ok-join.ensures.ok in
    rw (← c.self.view_is) (ready-calls w.machine c.join.new.self _ _ w.panic w.out w.rng c.args.task c.in-Some.value (rw c.take.ensures.items refl) (sym c.take.ensures.state ∙ c.in-Some.is) noted)
