use Rattle.rt_machine.proofs.Prelude.{refl}
use Rattle.rt_machine.proofs.Entries.{joined}
use Rattle.rt_machine.proofs.run_journal.RunJournal.facts.Goals as goal

pub returns-clause-lawful : goal.returns-clause-lawful
returns-clause-lawful c =
    let i = c.self.inside in
    rw (← c.self.view_is, joined i.journal.entries i.start i.mark c.self.invariant.start_first c.self.invariant.mark_within) c.self.invariant.lawful

pub returns-clause-drawn : goal.returns-clause-drawn
returns-clause-drawn c =
    let i = c.self.inside in
    rw (← c.self.view_is, joined i.journal.entries i.start i.mark c.self.invariant.start_first c.self.invariant.mark_within) c.self.invariant.drawn

pub returns-clause-state : goal.returns-clause-state
returns-clause-state c =
    let i = c.self.inside in
    rw (← c.self.view_is, joined i.journal.entries i.start i.mark c.self.invariant.start_first c.self.invariant.mark_within) refl

pub returns-clause-digested : goal.returns-clause-digested
returns-clause-digested c =
    let i = c.self.inside in
    rw (← c.self.view_is, joined i.journal.entries i.start i.mark c.self.invariant.start_first c.self.invariant.mark_within) c.self.invariant.digested
