-- What a change of a tree does to its record.
use Rattle.std.specs.Prelude.{[]}
use Rattle.rt_super.specs.Ancestry.{TreeRecord, with_new, with_task, with_release, with_end, with_flag_taken}
use Rattle.rt_super.specs.declared.history.Change.{Change}
use Rattle.rt_super.specs.declared.history.Change.TheVariants.{Added, Registered, Released, Ended, FlagTaken}

-- no node yet
abbrev pub no_history : TreeRecord
no_history = record { nodes = []; ends = []; flags = [] }

abbrev pub after : Change → TreeRecord → TreeRecord
after (Added number parent born_ended) r = with_new r number parent born_ended
after (Registered node task) r = with_task r node task
after (Released node) r = with_release r node
after (Ended node) r = with_end r node
after FlagTaken r = with_flag_taken r
