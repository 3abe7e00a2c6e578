use Rattle.rt_super.proofs.Prelude.{◌≡◌, ◌∙◌, sym, refl, arith, append_assoc, append-nil, get_or_past, owners}
use Rattle.rt_super.proofs.TokenLemmas.{left-first, left-step, waits-met, unwaited-met, owners-unwaited, met-few, none-met, list-at, count-lists}
use Rattle.rt_super.proofs.tokens.Tokens.meet.Goals as goal

pub meet_each-requires-clause-left : goal.meet_each-requires-clause-left
meet_each-requires-clause-left c =
    let all = left-first _ _ _ _ c.args.group c.self.invariant.tied c.facts.ensures.rising in
    let list = list-at _ c.args.group _ (omega (arith, c.if-group-len.true, c.len.ensures)) c.index.ensures in
    rw (c.deref.ensures.value, ← list, c.meet_one.ensures.items) (left-step _ _ _ _ all)

pub meet_each-requires-clause-room : goal.meet_each-requires-clause-room
meet_each-requires-clause-room c =
    let all = left-first _ _ _ _ c.args.group c.self.invariant.tied c.facts.ensures.rising in
    let first = waits-met _ _ _ c.self.inside.table.items all.rising all.ascending all.stand in
    let few = met-few c.args.woken.now.items c.args.group c.self.inside.table.items in
    let room = rw (← c.self.view_is) at c.requires.room in
    rw (c.meet_one.ensures.woken, c.meet_one.ensures.items, c.meet_one.ensures.room, append_assoc, ← first) (omega (arith, few, c.facts.ensures.few, room))

pub invariant_of-self : goal.invariant_of-self
invariant_of-self c =
    let os : owners c.meet_each.new.table.items ≡ owners c.self.inside.table.items = rw (c.meet_each.ensures.items, c.meet_one.ensures.items, unwaited-met) (owners-unwaited c.args.group c.self.inside.table.items) in
    record { tied = rw (os, c.meet_each.ensures.next, c.meet_one.ensures.next) c.self.invariant.tied }

pub returns-then-group-len-clause-items : goal.returns-then-group-len-clause-items
returns-then-group-len-clause-items c = rw (← c.self.view_is, c.meet_each.ensures.items, c.meet_one.ensures.items) (unwaited-met _ _ c.self.inside.table.items)

pub returns-then-group-len-clause-woken : goal.returns-then-group-len-clause-woken
returns-then-group-len-clause-woken c =
    let all = left-first _ _ _ _ c.args.group c.self.invariant.tied c.facts.ensures.rising in
    let first = waits-met _ _ _ c.self.inside.table.items all.rising all.ascending all.stand in
    rw (← c.self.view_is, c.meet_each.ensures.woken, c.meet_one.ensures.woken, c.meet_one.ensures.items, append_assoc, ← first) refl

pub returns-then-group-len-clause-few : goal.returns-then-group-len-clause-few
returns-then-group-len-clause-few c =
    let all = left-first _ _ _ _ c.args.group c.self.invariant.tied c.facts.ensures.rising in
    let first = waits-met _ _ _ c.self.inside.table.items all.rising all.ascending all.stand in
    let few = met-few c.args.woken.now.items c.args.group c.self.inside.table.items in
    rw (← c.self.view_is, c.meet_each.ensures.woken, c.meet_one.ensures.woken, c.meet_one.ensures.items, append_assoc, ← first) (omega (arith, few, c.facts.ensures.few))

pub returns-else-group-len-clause-items : goal.returns-else-group-len-clause-items
returns-else-group-len-clause-items c =
    let past = get_or_past c.self.inside.live.items c.args.group 0 (omega (arith, c.if-group-len.false, c.len.ensures, c.self.invariant.tied.lives, c.self.invariant.tied.lists, count-lists c.self.inside.later.items)) in
    let none = none-met c.args.group c.self.inside.table.items (sym (c.self.invariant.tied.counted c.args.group) ∙ past) in
    rw (← c.self.view_is) (sym none.0)

pub returns-else-group-len-clause-woken : goal.returns-else-group-len-clause-woken
returns-else-group-len-clause-woken c =
    let past = get_or_past c.self.inside.live.items c.args.group 0 (omega (arith, c.if-group-len.false, c.len.ensures, c.self.invariant.tied.lives, c.self.invariant.tied.lists, count-lists c.self.inside.later.items)) in
    let none = none-met c.args.group c.self.inside.table.items (sym (c.self.invariant.tied.counted c.args.group) ∙ past) in
    rw (← c.self.view_is, none.1, append-nil) refl
