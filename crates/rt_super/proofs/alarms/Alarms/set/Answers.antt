use Rattle.rt_super.proofs.Prelude.{◌≡◌, ◌+◌, length, ap, sym, ◌∙◌, arith, refl, length_push, Alarm, with_alarm, due_at, waker_of, alarms_of}
use Rattle.rt_super.proofs.AlarmLemmas.{set_in_place, AreOnce-with_alarm, dues_set, given_set, in_order, at_number}
use Rattle.rt_super.proofs.alarms.Alarms.set.Goals as goal

pub invariant_of-self-2 : goal.invariant_of-self-2
invariant_of-self-2 c =
    let new : Alarm = record { due = c.args.due; number = c.len-number.result; task = waker_of c.args.task } in
    let is = c.len-number.ensures in
    let fresh = c.self.invariant.set.given c.len-number.result (omega arith) in
    let all : alarms_of c.insert.new.self ≡ with_alarm new (alarms_of c.self.inside.tasks) = ap (λ es. alarms_of es) c.in_ok-insert.ensures.entries ∙ set_in_place c.self.inside.tasks c.args.due c.len-number.result c.args.task fresh in
    let more = c.push_reserved.ensures.len in
    let kept = c.reserve.ensures.len in
    let number : length c.self.inside.dues.items ≡ c.len-number.result = sym (is ∙ c.self.invariant.counted) in
    record {
      set = record {
        ordered = in_order c.insert.new.self c.in_ok-insert.ensures.ordered;
        given = λ n past. rw all (given_set new _ n fresh (c.self.invariant.set.given n (omega arith)) (omega arith));
        once = rw all (AreOnce-with_alarm new _ fresh c.self.invariant.set.once);
      };
      counted = rw (more, kept, c.push_reserved.ensures.items, c.reserve.ensures.items, length_push c.self.inside.dues.items c.args.due) (ap (λ n. n + 1) c.self.invariant.counted);
      dues = λ n due at. rw (c.push_reserved.ensures.items, c.reserve.ensures.items) (at_number c.self.inside.dues.items c.args.due n due (due_at (alarms_of c.self.inside.tasks) n) (c.self.invariant.dues n due) (rw number (dues_set new _ n fresh ∙ (rw all at at))));
    }

pub returns-clause-added : goal.returns-clause-added
returns-clause-added c =
    let new : Alarm = record { due = c.args.due; number = c.len-number.result; task = waker_of c.args.task } in
    let is = c.len-number.ensures in
    let fresh = c.self.invariant.set.given c.len-number.result (omega arith) in
    let all : alarms_of c.insert.new.self ≡ with_alarm new (alarms_of c.self.inside.tasks) = ap (λ es. alarms_of es) c.in_ok-insert.ensures.entries ∙ set_in_place c.self.inside.tasks c.args.due c.len-number.result c.args.task fresh in
    rw (all, is, c.push_reserved.ensures.len, c.reserve.ensures.len, ← c.self.view_is) refl
