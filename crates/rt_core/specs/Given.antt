-- The entries of the runs before.
use Rattle.std.specs.Prelude.{List, [], Option, Some, None}
use Rattle.rt_audit.specs.declared.entry.Entry.{Entry}
use Rattle.rt_audit.specs.Journal.{Kept}

abbrev pub entries_of : Option Kept → List Entry
entries_of None = []
entries_of (Some journal) = journal.entries
