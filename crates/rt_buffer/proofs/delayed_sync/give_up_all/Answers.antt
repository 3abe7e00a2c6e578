use Rattle.rt_buffer.proofs.Prelude.{List, sym, subst, Stage, GivesUpAll, GivesUpLast}
use Rattle.rt_buffer.proofs.Holding.{gives_up_none, gives_up_snoc}
use Rattle.rt_buffer.proofs.delayed_sync.give_up_all.Goals as goal

pub loop-stage-preserved-in-Passed : goal.loop-stage-preserved-in-Passed
loop-stage-preserved-in-Passed g c =
    let k = g.S.Storage in
    let here : GivesUpLast k c.in-Some.stage c.loop-stage.inner c.give_up_sync.new.self =
    subst (λ (t : Stage). GivesUpLast k t c.loop-stage.inner c.give_up_sync.new.self) (sym c.in-Passed.is) (c.give_up_sync.ensures.gives, c.give_up_sync.ensures.one, c.give_up_sync.ensures.others) in (
      c.give_up_sync.ensures.callable,
      λ new behind. c.loop-stage.invariant.1 new
          (subst (λ (ts : List Stage). GivesUpAll k ts c.loop-stage.inner new) (sym c.in-Some.ensures.items)
          (gives_up_snoc k c.pop.new.self.items c.in-Some.stage c.loop-stage.inner c.give_up_sync.new.self new here behind)),
    )

pub loop-stage-preserved : goal.loop-stage-preserved
loop-stage-preserved g c =
    let k = g.S.Storage in
    let here : GivesUpLast k c.in-Some.stage c.loop-stage.inner c.loop-stage.inner = gives_up_none k c.in-Some.stage c.loop-stage.inner c.in-Held.is in (
      c.loop-stage.invariant.0,
      λ new behind. c.loop-stage.invariant.1 new
          (subst (λ (ts : List Stage). GivesUpAll k ts c.loop-stage.inner new) (sym c.in-Some.ensures.items)
          (gives_up_snoc k c.pop.new.self.items c.in-Some.stage c.loop-stage.inner c.loop-stage.inner new here behind)),
    )
