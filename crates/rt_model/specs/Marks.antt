-- Flags: who is to end at the next visit, and whom a flag wakes. The marks are those of the spawned tasks that run.
use Rattle.std.specs.Prelude.{ℕ, List, [], ◌∷◌, ◌++◌, Option, Bool, true, false}
use Rattle.std.specs.Option.{option_map_or}
use Rattle.rt_super.specs.Ancestry.{TreeRecord, is_ended}
use Rattle.rt_model.specs.declared.mark.Mark.{Mark}
use Rattle.rt_model.specs.Lists.{find, replaced}

-- a task that was spawned on this node
abbrev pub new_mark : ℕ → Mark
new_mark node = record { node = node; left = false; flagged = false }

abbrev pub is_flagged : Option Mark → Bool
is_flagged m = option_map_or (λ m. m.flagged) m false

-- it was left pending since a flag last woke it
abbrev pub is_left : Option Mark → Bool
is_left m = option_map_or (λ m. m.left) m false

-- the node of a task is ended. The root has none of its own
abbrev pub is_ended_at : TreeRecord → Option Mark → Bool
is_ended_at nodes m = option_map_or (λ m. is_ended nodes m.node) m true

-- the flag of a running task is set. It wakes a task that was left pending
abbrev pub flagged : Mark → Mark
flagged m = record m { left = false; flagged = true }

abbrev pub flag : ℕ → List (ℕ × Mark) → List (ℕ × Mark)
flag k ms = replaced flagged k ms

abbrev pub due_if : Bool → ℕ → List ℕ
due_if true k = k ∷ []
due_if false k = []

abbrev pub due_of : ℕ → List (ℕ × Mark) → List ℕ
due_of k ms = due_if (is_left (find k ms)) k

-- one after another
abbrev pub flag_all : List ℕ → List (ℕ × Mark) → List (ℕ × Mark)
flag_all [] ms = ms
flag_all (k ∷ ks) ms = flag_all ks (flag k ms)

abbrev pub due_all : List ℕ → List (ℕ × Mark) → List ℕ
due_all [] ms = []
due_all (k ∷ ks) ms = due_of k ms ++ due_all ks (flag k ms)

-- the task was left pending
abbrev pub leave : ℕ → List (ℕ × Mark) → List (ℕ × Mark)
leave k ms = replaced (λ m. record m { left = true }) k ms
