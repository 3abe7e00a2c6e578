use Rattle.rt_walk.proofs.OfCall.{value-alone}
use Rattle.rt_walk.proofs.announced.is_a_value.Goals as goal

pub returns-then-len-eq1 : goal.returns-then-len-eq1
returns-then-len-eq1 c =
    rw c.is_some.ensures (value-alone c.args.fields.now c.in-Some.field.now c.value_of.result (rw c.in-Some.is at c.get.ensures.some) (rw c.len.ensures at c.if-len-eq1.true) c.value_of.ensures.some c.value_of.ensures.none)
