use Rattle.rt_super.proofs.Prelude.{◌≡◌, sym, ap, ◌∙◌, None, map, refl, option_map, alarm_at, waking, waker_of, alarms_of}
use Rattle.rt_super.proofs.AlarmLemmas.{set_value_waking, waking_none, alarm_at-waking, dues-waking, AreOnce-waking, none_from_due, in_order}
use Rattle.rt_super.proofs.alarms.Alarms.rewake.Goals as goal

pub returns-in_default : goal.returns-in_default
returns-in_default c =
    let none : alarm_at c.args.self.now.alarms c.args.alarm ≡ None = none_from_due _ (sym c.due_of.ensures.due ∙ c.in_default.is) in
    let same = waking_none c.args.alarm (waker_of c.args.task) c.args.self.now.alarms none in
    rw same refl

pub invariant_of-self : goal.invariant_of-self
invariant_of-self c =
    let at = sym (rw (← c.self.view_is) at c.due_of.ensures.due) ∙ c.in-Some.is in
    let all : alarms_of c.rewake.new.self ≡ map (waking c.args.alarm (waker_of c.args.task)) (alarms_of c.self.inside.tasks) = ap (λ es. alarms_of es) c.rewake.ensures.entries ∙ set_value_waking c.self.inside.tasks c.in-Some.due c.args.alarm c.args.task c.self.invariant.set.once at in
    record {
      set = record {
        ordered = in_order c.rewake.new.self c.rewake.ensures.ordered;
        given = λ n past. rw all (alarm_at-waking c.args.alarm (waker_of c.args.task) n _ ∙ ap (λ o. option_map (waking c.args.alarm (waker_of c.args.task)) o) (c.self.invariant.set.given n past));
        once = rw all (AreOnce-waking c.args.alarm (waker_of c.args.task) _ c.self.invariant.set.once);
      };
      counted = c.self.invariant.counted;
      dues = λ n due at. c.self.invariant.dues n due (rw (all, alarm_at-waking c.args.alarm (waker_of c.args.task) n (alarms_of c.self.inside.tasks), dues-waking c.args.alarm (waker_of c.args.task) (alarm_at (alarms_of c.self.inside.tasks) n)) at at);
    }

pub returns : goal.returns
returns c =
    let at = sym (rw (← c.self.view_is) at c.due_of.ensures.due) ∙ c.in-Some.is in
    let all : alarms_of c.rewake.new.self ≡ map (waking c.args.alarm (waker_of c.args.task)) (alarms_of c.self.inside.tasks) = ap (λ es. alarms_of es) c.rewake.ensures.entries ∙ set_value_waking c.self.inside.tasks c.in-Some.due c.args.alarm c.args.task c.self.invariant.set.once at in
    rw (all, ← c.self.view_is) refl
