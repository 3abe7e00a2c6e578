use Rattle.rt_world.proofs.Prelude.{◌≡◌, ◌∙◌, ap, Seen, closing-ended}
use Rattle.rt_world.proofs.Seats.{rising-without, rising-gone}
use Rattle.rt_world.proofs.Coming.{there-closed, coming-closing, open-ended}
use Rattle.rt_world.proofs.world.World.task_ended.Goals as goal

pub invariant_of-self : goal.invariant_of-self
invariant_of-self g c =
    let w = c.self.inside in
    let s = w.machine.told.state in
    let i = c.self.invariant.0 in
    let task = c.args.task in
    let phase = rw (← c.self.view_is) at c.requires.phase in
    let out = rw (← c.self.view_is) at c.requires.out in
    let state : c.task_ended.new.self.told.state ≡ _ = ap (λ (m : Seen). m.told.state) c.task_ended.ensures ∙ closing-ended s task _ phase in
    rw state (
      record {
        numbers = rw out at i.numbers;
        rising = rising-without task w.tasks.first w.tasks.next s.running i.rising;
        runs = tt;
        next = i.next;
        first = i.first;
        last = i.last;
        there = there-closed s.stood.results w.outputs.items i.there task;
        coming = rw phase (coming-closing _ _ _);
        unset = open-ended s.running s.stood.results i.unset task _ (rising-gone task w.tasks.first w.tasks.next s.running i.rising);
      },
      c.self.invariant.1,
    )
