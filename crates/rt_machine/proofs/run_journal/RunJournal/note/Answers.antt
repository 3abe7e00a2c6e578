use Rattle.rt_machine.proofs.Entries.{all-digested, note-kept, note-told, more-lacked}
use Rattle.rt_machine.proofs.run_journal.RunJournal.note.Goals as goal

pub invariant_of-self : goal.invariant_of-self
invariant_of-self c =
    rw c.push.ensures.entries (note-kept _ _ _ _ _ _ c.self.invariant (rw (← c.self.view_is) at c.requires.may) c.requires.call (rw (← c.self.view_is) at c.requires.drawn) (all-digested _ _ _ _ _ _ c.self.invariant (rw (← c.self.view_is) at c.requires.digested)))

pub returns-clause-told : goal.returns-clause-told
returns-clause-told c = rw (c.push.ensures.entries, ← c.self.view_is) (note-told _ _ _ _ _ _ c.self.invariant)

pub returns-clause-lacked : goal.returns-clause-lacked
returns-clause-lacked c = rw (c.push.ensures.entries, ← c.self.view_is) (more-lacked _ _ _ _ _ _ c.self.invariant)
