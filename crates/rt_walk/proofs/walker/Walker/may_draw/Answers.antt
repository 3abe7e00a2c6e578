use Rattle.rt_walk.proofs.Prelude.{only-rounds, round-draws}
use Rattle.rt_walk.proofs.walker.Walker.may_draw.Goals as goal

pub returns : goal.returns
returns c = (
  λ t. round-draws c.args.self.now.phase c.args.self.now c.args.value (c.may_round.ensures.0 t),
  λ m. c.may_round.ensures.1 (only-rounds c.args.self.now.phase c.args.self.now c.args.value m),
)
