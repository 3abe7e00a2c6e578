-- The events that an auditor digests.
use Rattle.std.specs.Prelude.{◌≡◌, ℕ, List, [], ◌∷◌, ◌++◌, codes}
use Rattle.std.specs.Int.{w32, w128, cast_unsigned, to_be_bytes}
use Rattle.rt_audit.specs.declared.call.Call.{Call}
use Rattle.rt_audit.specs.declared.call.Call.TheVariants.{Stop, Stopped, NextU32, NextU64, FillBytes}
use Rattle.rt_audit.specs.declared.reply.CallReply.{CallReply}
use Rattle.rt_model.specs.State.{Announced, Stood}

abbrev pub process_task : List ℕ
process_task = codes "process_task"

-- the fields of a visit's event: the task's number in 16 bytes, the highest first, and its label. The root's label is empty
abbrev pub task_fields : ℕ → List ℕ → List (List ℕ)
task_fields task label = to_be_bytes w128 task ∷ label ∷ []

-- the event of a call that draws, by which call it is
abbrev pub drawing : List ℕ → List Announced
drawing name = record { label = codes "rand"; fields = name ∷ [] } ∷ []

-- the events of a call with its reply, which are directly before it, by what was there then
abbrev pub announced_by : Stood → Call → CallReply → List Announced
announced_by stood (Stop value) reply = record { label = codes "stop"; fields = to_be_bytes w32 (cast_unsigned w32 value) ∷ [] } ∷ []
announced_by stood Stopped reply = record { label = codes "stopped"; fields = [] } ∷ []
announced_by stood NextU32 reply = drawing (codes "next_u32")
announced_by stood NextU64 reply = drawing (codes "next_u64")
announced_by stood (FillBytes len) reply = drawing (codes "fill_bytes")
announced_by stood _ reply = []

-- after these events this one is the next of a call
abbrev pub IsOfCall : Stood → List Announced → List ℕ → List (List ℕ) → Type 0
IsOfCall stood announced label fields =
    (call : Call) × (reply : CallReply) × (announced_by stood call reply ≡ announced ++ record { label = label; fields = fields } ∷ [])
