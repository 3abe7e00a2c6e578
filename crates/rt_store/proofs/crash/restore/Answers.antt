use Rattle.rt_store.proofs.Prelude.{rules, vec_capacity, All-pop, HasRoom}
use Rattle.std.specs.Prelude.{Some}
use Rattle.rt_store.proofs.Redone.{restore_step}
use Rattle.rt_store.proofs.crash.restore.Goals as goal

pub loop-last-preserved : goal.loop-last-preserved
loop-last-preserved c = (
  restore_step _ _ _ _ _ _ c.in-Some.ensures.cases.0 c.undo.ensures.bytes c.loop-last.invariant.0,
  (All-pop (HasRoom (vec_capacity c.args.content.now)) c.loop-last.rest.now c.in-Some.before.now (Some c.in-Some.last.now) c.in-Some.ensures.cases.0 c.loop-last.invariant.1).0,
  (search rules),
)
