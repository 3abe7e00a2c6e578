use Rattle.rt_store.proofs.Prelude.{inr, refl, arith}
use Rattle.rt_store.proofs.Collected.{AreSlots, fits_whole, collected, not_collected}
use Rattle.rt_store.proofs.collecting.collect_reads.Goals as goal

pub returns-then-len-ranges-clause-refused : goal.returns-then-len-ranges-clause-refused
returns-then-len-ranges-clause-refused c = inr (refl, λ w. let fits = fits_whole c.args.ranges c.args.reads.items w in absurd (omega arith))

pub returns-clause-ok : goal.returns-clause-ok
returns-clause-ok c =
    let e = c.in_ok-slots_of.ensures in
    let s : AreSlots c.args.ranges c.args.reads.items c.in_ok-slots_of.field-0.items = (e.below, e.length, e.last) in
    collected c.args.ranges c.args.reads.items c.in_ok-slots_of.field-0.items c.all_there.result s c.all_there.ensures.ok

pub returns-clause-refused : goal.returns-clause-refused
returns-clause-refused c =
    let e = c.in_ok-slots_of.ensures in
    let s : AreSlots c.args.ranges c.args.reads.items c.in_ok-slots_of.field-0.items = (e.below, e.length, e.last) in
    not_collected c.args.ranges c.args.reads.items c.in_ok-slots_of.field-0.items c.all_there.result s c.all_there.ensures.refused
