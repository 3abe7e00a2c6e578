use Rattle.rt_super.proofs.Prelude.{ap, alarms_of}
use Rattle.rt_super.proofs.AlarmLemmas.{tail_none, due_in_tail}
use Rattle.rt_super.proofs.alarms.Alarms.pop_due.Goals as goal

pub invariant_of-self-2 : goal.invariant_of-self-2
invariant_of-self-2 c =
    let all = ap (λ es. alarms_of es) c.in_ok-number.ensures.removal in
    let once = rw all at c.self.invariant.set.once in
    let ordered = rw all at c.self.invariant.set.ordered in
    record {
      set = record {
        ordered = ordered.1;
        given = λ n past. tail_none _ _ n (rw all at (c.self.invariant.set.given n past));
        once = once.1;
      };
      counted = c.self.invariant.counted;
      dues = λ n due at. c.self.invariant.dues n due (rw all (due_in_tail _ _ n due once.0 at));
    }
