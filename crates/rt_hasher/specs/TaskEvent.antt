-- The event of a task's visit, whose first field is the task's number.
use Rattle.std.specs.Prelude.{ℕ, List, [], ◌∷◌, ◌++◌, codes}
use Rattle.std.specs.Int.{w64, to_be_bytes}
use Rattle.rt_hasher.specs.Framing.{framed}

-- its name
abbrev pub task_event : List ℕ
task_event = codes "process_task"

-- a number of sixteen bytes whose high eight are zeros
abbrev pub small_number : List ℕ → List ℕ
small_number low = 0 ∷ 0 ∷ 0 ∷ 0 ∷ 0 ∷ 0 ∷ 0 ∷ 0 ∷ low

-- its framed bytes after this digest, up to the low bytes of such a number
abbrev pub task_front : List ℕ → List ℕ
task_front digest = framed (digest ∷ task_event ∷ []) ++ (to_be_bytes w64 16 ++ small_number [])
