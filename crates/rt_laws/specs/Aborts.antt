-- Which task an abort names.
use Rattle.std.specs.Prelude.{◌≡◌, ℕ}
use Rattle.rt_audit.specs.declared.call.Call.TheVariants.{Abort, AbortTask}
use Rattle.rt_audit.specs.declared.reply.CallReply.TheVariants.{Done}
use Rattle.rt_audit.specs.declared.entry.Entry.{Entry}
use Rattle.rt_audit.specs.declared.entry.Entry.TheVariants.{Call}

-- the entry is an abort of this task, through its handle or by its number
abbrev pub IsAbortOf : ℕ → Entry → Type 0
IsAbortOf task (Call by (Abort other) Done) = other ≡ task
IsAbortOf task (Call by (AbortTask other) Done) = other ≡ task
IsAbortOf task _ = ⊥
