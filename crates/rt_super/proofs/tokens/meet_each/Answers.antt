use Rattle.rt_super.proofs.Prelude.{◌≤◌, ◌∷◌, ◌++◌, [], ◌∙◌, sym, ap, arith, length, length-append, append_assoc, append-nil, nil_from_length, IsLeft, wait_of, waits_in}
use Rattle.rt_super.proofs.TokenLemmas.{all-met, left-step, waits-met, unwaited-met}
use Rattle.rt_super.proofs.tokens.meet_each.Goals as goal

pub meet_one-requires : goal.meet_one-requires
meet_one-requires c =
    let left : IsLeft c.args.group (c.in-Some.number.now ∷ c.in-Some.tail.now) c.loop-number.table.items = rw (← c.in-Some.ensures.cases.0) c.loop-number.invariant.left in
    let first = waits-met c.args.group c.in-Some.number.now c.in-Some.tail.now c.loop-number.table.items left.rising left.ascending left.stand in
    let all = ap length c.loop-number.invariant.woken in
    let one : length (c.loop-number.woken.items ++ wait_of c.args.group c.in-Some.number.now c.loop-number.table.items) ≤ length (c.loop-number.woken.items ++ waits_in c.args.group c.loop-number.table.items) = rw (first, length-append, length-append, length-append) (omega arith) in
    record { room = omega (arith, all, one, c.requires.room, c.loop-number.invariant.room) }

pub loop-number-preserved : goal.loop-number-preserved
loop-number-preserved c =
    let left : IsLeft c.args.group (c.in-Some.number.now ∷ c.in-Some.tail.now) c.loop-number.table.items = rw (← c.in-Some.ensures.cases.0) c.loop-number.invariant.left in
    let first = waits-met c.args.group c.in-Some.number.now c.in-Some.tail.now c.loop-number.table.items left.rising left.ascending left.stand in
    record {
      left = rw (c.meet_one.ensures.items) (left-step _ _ _ _ left);
      items = rw (c.meet_one.ensures.items) (unwaited-met _ _ c.loop-number.table.items ∙ c.loop-number.invariant.items);
      woken = rw (c.meet_one.ensures.items, c.meet_one.ensures.woken) (append_assoc c.loop-number.woken.items _ _ ∙ ap (λ xs. c.loop-number.woken.items ++ xs) (sym first) ∙ c.loop-number.invariant.woken);
      next = c.meet_one.ensures.next ∙ c.loop-number.invariant.next;
      spare = c.meet_one.ensures.spare ∙ c.loop-number.invariant.spare;
      room = c.meet_one.ensures.room ∙ c.loop-number.invariant.room;
    }

pub returns-clause-items : goal.returns-clause-items
returns-clause-items c =
    let left : IsLeft c.args.group [] c.loop-number.table.items = rw (← nil_from_length _ c.in_default.ensures.cases) c.loop-number.invariant.left in
    let met = all-met c.args.group c.loop-number.table.items left.rising left.stand in
    sym met.0 ∙ c.loop-number.invariant.items

pub returns-clause-woken : goal.returns-clause-woken
returns-clause-woken c =
    let left : IsLeft c.args.group [] c.loop-number.table.items = rw (← nil_from_length _ c.in_default.ensures.cases) c.loop-number.invariant.left in
    let met = all-met c.args.group c.loop-number.table.items left.rising left.stand in
    sym (append-nil c.loop-number.woken.items) ∙ ap (λ xs. c.loop-number.woken.items ++ xs) (sym met.1) ∙ c.loop-number.invariant.woken
