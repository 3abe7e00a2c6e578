use Rattle.rt_super.proofs.Prelude.{◌≡◌, false, None, rules, sym, is_at, lookup, set_value, key_cmp}
use Rattle.rt_super.proofs.AlarmLemmas.{set_value_none}
use Rattle.rt_super.proofs.QueueLemmas.{set_later}
use Rattle.rt_super.proofs.alarms.queue.Queue.rewake.Goals.{in-Some-get_mut, in_default-get_mut}
use Rattle.rt_super.proofs.alarms.queue.Queue.rewake.Goals as goal

pub returns-clause-entries : goal.returns-clause-entries
returns-clause-entries c =
    let apart : is_at (key_cmp c.args.key) c.in-Some.first.0 ≡ false = search rules in
    elim c.match-get_mut.branch [
      | in-Some-get_mut w ↦ rw (w.self-inside-is, ← c.self.view_is) (set_later c.self.inside.first c.in-Some.first c.self.inside.later.entries _ _ c.args.task c.in-Some.is apart (c.get_mut.follows.holds c.args.task).0)
      | in_default-get_mut w ↦
          let none : lookup (is_at (key_cmp c.args.key)) c.self.inside.later.entries ≡ None = sym w.in_default-get_mut.ensures.value in
          let same : c.self.inside.later.entries ≡ set_value (is_at (key_cmp c.args.key)) c.self.inside.later.entries c.args.task = sym (set_value_none (is_at (key_cmp c.args.key)) c.self.inside.later.entries c.args.task none) in
          rw (w.self-inside-is, c.get_mut.follows.holds-at-none, ← c.self.view_is) (set_later c.self.inside.first c.in-Some.first c.self.inside.later.entries c.self.inside.later.entries _ c.args.task c.in-Some.is apart same)
    ]
