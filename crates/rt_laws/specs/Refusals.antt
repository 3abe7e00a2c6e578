-- A call of the root in its first poll, answered so.
use Rattle.std.specs.Prelude.{List, [], ◌∷◌, ◌++◌, Some}
use Rattle.rt_audit.specs.declared.call.Call.{Call as CallOf}
use Rattle.rt_audit.specs.declared.reply.CallReply.{CallReply}
use Rattle.rt_audit.specs.declared.entry.Entry.{Entry}
use Rattle.rt_audit.specs.declared.entry.Entry.TheVariants.{Call}
use Rattle.rt_laws.specs.Examples.{opening, visiting_root}

abbrev pub asked : CallOf → CallReply → List Entry
asked call reply = opening ++ visiting_root ++ (Call (Some 0) call reply ∷ [])
