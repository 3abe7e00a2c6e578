use Rattle.rt_super.proofs.Prelude.{◌≡◌, leb, true, false, arith, refl, nat_tests}
use Rattle.rt_super.proofs.AlarmLemmas.{due_first_is}
use Rattle.rt_super.proofs.alarms.Alarms.due.Goals as goal

pub returns-then-key-now-clause-first : goal.returns-then-key-now-clause-first
returns-then-key-now-clause-first c =
    let is : leb c.in_ok-key.key.0 c.args.now ≡ true = let h = c.if-key-now.true in grind (arith, nat_tests) in
    rw (← c.self.view_is, due_first_is c.self.inside.tasks _ c.args.now c.in_ok-key.ensures.first, is) refl

pub returns-else-key-now-clause-first : goal.returns-else-key-now-clause-first
returns-else-key-now-clause-first c =
    let is : leb c.in_ok-key.key.0 c.args.now ≡ false = let h = c.if-key-now.false in grind (arith, nat_tests) in
    rw (← c.self.view_is, due_first_is c.self.inside.tasks _ c.args.now c.in_ok-key.ensures.first, is) refl
