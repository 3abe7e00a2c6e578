use Rattle.rt_machine.proofs.Entries.{all-digested, push-kept, push-told, more-lacked}
use Rattle.rt_machine.proofs.run_journal.RunJournal.push.Goals as goal

pub invariant_of-self : goal.invariant_of-self
invariant_of-self c =
    rw c.push.ensures.entries (push-kept _ _ _ _ _ _ c.self.invariant _ (cc) (rw (← c.self.view_is) at c.requires.may) (rw (← c.self.view_is) at c.requires.drawn) (all-digested _ _ _ _ _ _ c.self.invariant (rw (← c.self.view_is) at c.requires.digested)))

pub returns-clause-told : goal.returns-clause-told
returns-clause-told c = rw (c.push.ensures.entries, ← c.self.view_is) (push-told _ _ _ _ _ _ c.self.invariant _ (cc))

pub returns-clause-lacked : goal.returns-clause-lacked
returns-clause-lacked c = rw (c.push.ensures.entries, ← c.self.view_is) (more-lacked _ _ _ _ _ _ c.self.invariant)
