use Rattle.rt_world.proofs.Prelude.{◌≡◌, ◌∙◌, refl, sym, Some, None, false, arith, inl, NoMemory, Spawn, TaskAt, Noted, Spawning, is_closing}
use Rattle.rt_audit.specs.declared.reply.CallReply.TheVariants.{Closed}
use Rattle.rt_world.specs.declared.spawning.Spawned.TheVariants.{Runs, Closed as IsClosed}
use Rattle.rt_world.proofs.Seats.{grows-more, not-closing, some-none}
use Rattle.rt_world.proofs.Drawn.{drew-same}
use Rattle.rt_world.proofs.Lasting.{lasts-of}
use Rattle.rt_world.proofs.Walked.{stays-same}
use Rattle.rt_world.proofs.Calling.{refused-calls, refused-spawn, spawned-calls, spawned-seated, made-noted, spawns-next, ending-runs}
use Rattle.rt_world.proofs.Slotted.{slotted-noted}
use Rattle.rt_world.proofs.world.World.spawn.Goals as goal

pub returns-in-Err-clause-err : goal.returns-in-Err-clause-err
returns-in-Err-clause-err g c made =
    let w = c.self.inside in
    rw (← c.self.view_is) (refused-spawn w.machine c.spawn.new.self _ _ w.panic w.out w.rng c.args.node c.args.execution made c.in-Err.error (rw (c.reserve_places-reserved.ensures.tasks, c.reserve_places-reserved.ensures.outputs, c.reserve_places-reserved.ensures.executions) refl) c.in-Err.ensures.err)

pub returns-in-Err-clause-called : goal.returns-in-Err-clause-called
returns-in-Err-clause-called g c made by =
    let w = c.self.inside in
    rw (← c.self.view_is) (refused-calls w.machine c.spawn.new.self _ _ w.panic w.out w.rng c.args.node c.args.execution made (c.in-Err.error, c.args.maker) (rw (c.reserve_places-reserved.ensures.tasks, c.reserve_places-reserved.ensures.outputs, c.reserve_places-reserved.ensures.executions) refl) c.in-Err.ensures.err)

pub returns-in-Ok-None-clause-called : goal.returns-in-Ok-None-clause-called
returns-in-Ok-None-clause-called g c made by =
    let w = c.self.inside in
    rw (← c.self.view_is) (spawned-calls w.machine c.spawn.new.self _ _ w.panic w.out w.rng c.args.node c.args.execution made (IsClosed c.args.maker) (made-noted w.machine c.spawn.new.self _ _ w.panic w.out w.rng (Spawning c.args.node c.args.execution made) Closed (rw c.in-Ok-None.field-0-is at c.in-Ok-None.ensures.ok) (rw (c.reserve_places-reserved.ensures.tasks, c.reserve_places-reserved.ensures.outputs, c.reserve_places-reserved.ensures.executions) refl)))

pub invariant_of-self-in-Ok-Some : goal.invariant_of-self-in-Ok-Some
invariant_of-self-in-Ok-Some g c =
    let w = c.self.inside in
    let s = w.machine.told.state in
    let i = c.self.invariant.0 in
    let r = c.reserve_places-reserved.ensures in
    let noted : Noted w.out w.machine c.spawn.new.self (Spawn c.args.node) (TaskAt c.in-Ok-Some.task c.in-Ok-Some.number) = rw c.in-Ok-Some.field-0-is at c.in-Ok-Some.ensures.ok in
    let task : c.in-Ok-Some.task ≡ w.tasks.next = spawns-next s c.args.node c.in-Ok-Some.task c.in-Ok-Some.number noted.answers ∙ sym i.next in
    let calls = rw (← c.self.view_is) at c.requires.calling in (
      spawned-seated w.tasks c.add.new.self w.outputs c.skip.new.self w.out w.machine c.spawn.new.self c.args.node c.in-Ok-Some.number c.make-state.result i
          (rw (← task) noted)
          (c.add.ensures.items ∙ rw (r.tasks_next, r.tasks) refl)
          (c.add.ensures.first ∙ r.tasks_first)
          (c.add.ensures.next ∙ rw r.tasks_next refl)
          (c.skip.ensures.items ∙ r.outputs)
          (c.skip.ensures.first ∙ r.outputs_first)
          (c.skip.ensures.next ∙ rw r.outputs_next refl)
          (c.facts.ensures.fresh w.tasks.next (omega (arith, i.next)))
          (ending-runs s.phase s.root _ w.out s.running calls i.runs),
      slotted-noted w.sent w.out w.machine c.spawn.new.self c.self.invariant.1 (Spawn c.args.node) (TaskAt c.in-Ok-Some.task c.in-Ok-Some.number) noted refl,
    )

pub returns-in-Ok-Some-clause-kept : goal.returns-in-Ok-Some-clause-kept
returns-in-Ok-Some-clause-kept g c =
    let w = c.self.inside in
    let s = w.machine.told.state in
    let noted : Noted w.out w.machine c.spawn.new.self (Spawn c.args.node) (TaskAt c.in-Ok-Some.task c.in-Ok-Some.number) = rw c.in-Ok-Some.field-0-is at c.in-Ok-Some.ensures.ok in
    let going : is_closing s.phase ≡ false = not-closing (is_closing s.phase) (λ closing. some-none (rw c.in-Ok-Some.field-0-is at (c.in-Ok-Some.ensures.closing closing))) in
    rw (← c.self.view_is)
    record {
      begin = noted.begin;
      given = noted.given;
      past = noted.past;
      phase = noted.phase;
      clock = noted.clock;
      root = noted.root;
      panic = refl;
      out = refl;
      lasts = lasts-of g.G.Rng.stream _ _ (rw noted.running (grows-more s.phase c.in-Ok-Some.task s.running going)) (stays-same _ _ noted.lacked) (drew-same g.G.Rng.stream _ _ refl noted.drawn);
    }

pub returns-in-Ok-Some-clause-called : goal.returns-in-Ok-Some-clause-called
returns-in-Ok-Some-clause-called g c made by =
    let w = c.self.inside in
    let r = c.reserve_places-reserved.ensures in
    let noted : Noted w.out w.machine c.spawn.new.self (Spawn c.args.node) (TaskAt c.in-Ok-Some.task c.in-Ok-Some.number) = rw c.in-Ok-Some.field-0-is at c.in-Ok-Some.ensures.ok in
    let task : c.in-Ok-Some.task ≡ w.tasks.next = spawns-next w.machine.told.state c.args.node c.in-Ok-Some.task c.in-Ok-Some.number noted.answers ∙ sym c.self.invariant.0.next in
    let state : c.make-state.result ≡ made c.in-Ok-Some.number = by c.in-Ok-Some.number c.make-state.result c.make-state.ensures in
    rw (← c.self.view_is)
    (spawned-calls w.machine c.spawn.new.self _ _ w.panic w.out w.rng {M = Unit {0}} c.args.node c.args.execution made (Runs c.in-Ok-Some.task c.in-Ok-Some.number)
    (made-noted w.machine c.spawn.new.self _ _ w.panic w.out w.rng (Spawning c.args.node c.args.execution made) (TaskAt c.in-Ok-Some.task c.in-Ok-Some.number) noted
    (rw (c.add.ensures.items, c.skip.ensures.items, c.push_reserved.ensures.items, r.outputs, r.tasks, r.executions, r.tasks_next, ← task, state) refl)))

pub returns-in_default-clause-called : goal.returns-in_default-clause-called
returns-in_default-clause-called g c made by =
    let w = c.self.inside in
    let r = c.reserve_places-reserved.ensures in
    rw (← c.self.view_is) (refused-calls w.machine c.lack.new.self _ _ w.panic w.out w.rng c.args.node c.args.execution made (NoMemory, c.args.maker) (rw (r.tasks, r.outputs, r.executions) refl) (inl (refl, c.lack.ensures)))
