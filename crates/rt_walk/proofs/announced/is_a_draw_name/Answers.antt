use Rattle.rt_walk.proofs.OfCall.{name-alone}
use Rattle.rt_walk.proofs.announced.is_a_draw_name.Goals as goal

pub returns-then-len-eq1 : goal.returns-then-len-eq1
returns-then-len-eq1 c =
    name-alone c.names_a_draw.result c.args.fields.now c.in-Some.name.now (rw c.in-Some.is at c.get.ensures.some) (rw c.len.ensures at c.if-len-eq1.true) c.names_a_draw.ensures
