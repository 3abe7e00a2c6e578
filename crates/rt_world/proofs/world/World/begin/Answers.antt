use Rattle.rt_world.proofs.Prelude.{refl, arith, sym, ◌∙◌, begun, after, AreThere}
use Rattle.rt_world.proofs.Coming.{coming-making, open-none}
use Rattle.rt_world.proofs.Follows.{follows-start}
use Rattle.rt_world.proofs.Slotted.{slotted-none}
use Rattle.rt_world.proofs.world.World.begin.Goals as goal

pub invariant_of-result : goal.invariant_of-result
unfolding after begun AreThere
invariant_of-result g c =
    rw (c.in-Ok.ensures.ok, c.new.ensures.items, c.new-in-Ok.ensures.items) (
      record {
        numbers = refl;
        rising = omega (arith, c.new.ensures.first, c.new.ensures.next);
        runs = tt;
        next = c.new.ensures.next;
        first = c.new-in-Ok.ensures.first ∙ sym c.new.ensures.first;
        last = c.new-in-Ok.ensures.next ∙ sym c.new.ensures.next;
        there = λ task r h t. absurd (cc);
        coming = coming-making _ _;
        unset = open-none;
      },
      slotted-none c.new-in-Ok-2.result c.new-in-Ok-2.ensures.items c.new-in-Ok-2.ensures.first c.new-in-Ok-2.ensures.next,
    )

pub returns-in-Ok-clause-agrees : goal.returns-in-Ok-clause-agrees
returns-in-Ok-clause-agrees g c p = rw (c.in-Ok.ensures.ok, c.new.ensures.items, c.new-in-Ok.ensures.items, c.new-in-Ok-2.ensures.items, c.new-in-Ok-3.ensures.items) (follows-start p c.args.begin c.args.journal.entries _ _ _ _)
