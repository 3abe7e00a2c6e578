use Rattle.rt_super.proofs.Prelude.{◌≡◌, true, false, sym, ◌∙◌, get_or_from_slice_get, is_at, lookup, is_some, key_cmp}
use Rattle.rt_super.proofs.AlarmLemmas.{due_by_key, key_of_due, none_unless}
use Rattle.rt_super.proofs.alarms.Alarms.due_of.Goals as goal

pub returns-then-contains-clause-due : goal.returns-then-contains-clause-due
returns-then-contains-clause-due c =
    rw (← c.self.view_is) (sym (due_by_key c.self.inside.tasks c.in_ok-due.field-0.now c.args.alarm c.self.invariant.set.once (sym c.contains.ensures ∙ c.if-contains.true)))

pub returns-else-contains-clause-due : goal.returns-else-contains-clause-due
returns-else-contains-clause-due c =
    rw (← c.self.view_is) (sym (none_unless _ (λ due at.
    let kept = get_or_from_slice_get c.self.inside.dues.items c.args.alarm due c.in_ok-due.field-0.now (c.self.invariant.dues c.args.alarm due at) in
    let same : c.in_ok-due.field-0.now ≡ due = c.in_ok-due.ensures.lookup.1 ∙ rw c.deref.ensures.value kept in
    let missing : is_some (lookup (is_at (key_cmp (c.in_ok-due.field-0.now, c.args.alarm))) c.self.inside.tasks) ≡ false = sym c.contains.ensures ∙ c.if-contains.false in
    let both : true ≡ false = sym (key_of_due c.self.inside.tasks due c.args.alarm at) ∙ rw same at missing in
    cc)))
