use Rattle.rt_machine.proofs.Prelude.{refl, take-append-drop}
use Rattle.rt_machine.proofs.Entries.{joined}
use Rattle.rt_machine.proofs.run_journal.RunJournal.auditor.Goals as goal

pub returns : goal.returns
returns c =
    let i = c.self.inside in
    rw (c.auditor.ensures, ← c.self.view_is, joined i.journal.entries i.start i.mark c.self.invariant.start_first c.self.invariant.mark_within, take-append-drop i.start i.journal.entries) refl
