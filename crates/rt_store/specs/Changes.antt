-- How a blob goes back to its base: bytes that a change cuts are held further on, after those of the blob, and each
-- later change is kept with the bytes that it wrote over.
use Rattle.std.specs.Prelude.{ℕ, ◌+◌, ◌-◌, ◌≤◌, max, List, [], ◌∷◌, length, take, map, replicate}
use Rattle.rt_store.specs.declared.change.Before.{Before}
use Rattle.rt_store.specs.declared.change.Change.{Change}
use Rattle.rt_store.specs.declared.mutation.Mutation.{Mutation}
use Rattle.rt_store.specs.declared.mutation.Mutation.TheVariants.{Write, Resize}
use Rattle.rt_store.specs.Content.{written}

-- the bytes from one place up to another become zero
abbrev pub zeroed : ℕ → ℕ → List ℕ → List ℕ
zeroed from to held = written from (replicate (to - from) 0) held

-- the held bytes after a change of a blob that has the first `len` of them
abbrev pub laid : Mutation → ℕ → List ℕ → List ℕ
laid (Write at bytes durable) len held = written at bytes (zeroed len at held)
laid (Resize to) len held = zeroed len to held

-- how many bytes the blob has then
abbrev pub len_after : Mutation → ℕ → ℕ
len_after (Write at bytes durable) len = max len (at + length bytes)
len_after (Resize to) len = to

-- the held bytes before a change, from those after it
abbrev pub undone : Before → List ℕ → List ℕ
undone b new = take b.held (written b.at b.saved.items new)

-- how many bytes a blob had before all changes, if it has so many now
abbrev pub len_before : List Change → ℕ → ℕ
len_before [] len = len
len_before (u ∷ us) len = u.before.len

-- the held bytes before all changes, the last of which is undone first
abbrev pub all_undone : List Change → List ℕ → List ℕ
all_undone [] new = new
all_undone (u ∷ us) new = undone u.before (all_undone us new)

-- the end of the bytes that a change writes
abbrev pub end_of : Mutation → ℕ
end_of (Write at bytes durable) = at + length bytes
end_of (Resize len) = len

-- there is room to do a change again and to undo it
abbrev pub HasRoom : ℕ → Change → Type 0
HasRoom room u = (end_of u.mutation ≤ room) × (u.before.at + length u.before.saved.items ≤ room)

abbrev pub mutations : List Change → List Mutation
mutations us = map (λ u. u.mutation) us
