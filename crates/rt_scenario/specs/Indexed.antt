-- Lines as they are kept while a script is open: the place of a handle or a signal is the index of its name among the
-- names, each of which is there once.
use Rattle.std.specs.Prelude.{ℕ, ◌+◌, ◌<◌, ◌≤◌, List, [], ◌∷◌, fold, slice_index, slice_index_or, Option, Some, None, length}
use Rattle.std.specs.Option.{IfSome}
use Rattle.std.specs.Borrow.{Bor}
use Rattle.std.specs.BTreeSet.{insert_key}
use Rattle.std.specs.Str.{bytes_eq}
use Rattle.indexmap.specs.IndexSet.{insert_key as insert_last}
use Rattle.rt_base.specs.Attributes.{text_cmp}
use Rattle.rt_scenario.specs.Scripts.{handle_of}
use Rattle.rt_scenario.specs.declared.line.Line.{Line}
use Rattle.rt_scenario.specs.declared.line.Line.TheVariants as step
use Rattle.rt_scenario.specs.declared.named_line.NamedLine.{NamedLine}
use Rattle.rt_scenario.specs.declared.named_line.NamedLine.TheVariants.{Plain, Spawn, Abort, Drop, Join, Within, Stopped, Wait}

-- the line with its name, which the text lends
abbrev pub read : NamedLine (Bor (List ℕ)) → NamedLine (List ℕ)
read (Plain line) = Plain line
read (Spawn handle script) = Spawn handle.now script
read (Abort handle) = Abort handle.now
read (Drop handle) = Drop handle.now
read (Join handle) = Join handle.now
read (Within handle limit) = Within handle.now limit
read (Stopped signal) = Stopped signal.now
read (Wait signal) = Wait signal.now

-- the name of the handle or signal, if the line has one, has at most 32 bytes
abbrev pub HasShortName : NamedLine (List ℕ) → Type 0
HasShortName line = IfSome (handle_of line) (λ name. length name ≤ 32)

-- the name of this index
abbrev pub name_at : List (List ℕ) → ℕ → List ℕ
name_at names index = slice_index_or names index []

-- the line with its name, by the names
abbrev pub named_by : List (List ℕ) → Line → NamedLine (List ℕ)
named_by names (step.Spawn index script) = Spawn (name_at names index) script
named_by names (step.Abort index) = Abort (name_at names index)
named_by names (step.Drop index) = Drop (name_at names index)
named_by names (step.Join index) = Join (name_at names index)
named_by names (step.Within index limit) = Within (name_at names index) limit
named_by names (step.Stopped index) = Stopped (name_at names index)
named_by names (step.Wait index) = Wait (name_at names index)
named_by names line = Plain line

-- the index is that of one of so many names
abbrev pub HasIndex : ℕ → Line → Type 0
HasIndex names (step.Spawn index script) = index < names
HasIndex names (step.Abort index) = index < names
HasIndex names (step.Drop index) = index < names
HasIndex names (step.Join index) = index < names
HasIndex names (step.Within index limit) = index < names
HasIndex names (step.Stopped index) = index < names
HasIndex names (step.Wait index) = index < names
HasIndex names line = Unit {0}

-- a name goes after the others, unless it is there
abbrev pub with_name : List (List ℕ) → Option (List ℕ) → List (List ℕ)
with_name names None = names
with_name names (Some name) = insert_last bytes_eq names name

-- the names in byte order
abbrev pub in_order : List (List ℕ) → List (List ℕ)
in_order names = fold (insert_key text_cmp) [] names

-- the names with their indices, from n on
abbrev pub numbered_from : ℕ → List (List ℕ) → List (List ℕ × ℕ)
numbered_from n [] = []
numbered_from n (name ∷ names) = (name, n) ∷ numbered_from (n + 1) names

-- the line with the place of its name, by the places of the names
abbrev pub placed_at : List ℕ → Line → Line
placed_at places (step.Spawn index script) = step.Spawn (slice_index places index) script
placed_at places (step.Abort index) = step.Abort (slice_index places index)
placed_at places (step.Drop index) = step.Drop (slice_index places index)
placed_at places (step.Join index) = step.Join (slice_index places index)
placed_at places (step.Within index limit) = step.Within (slice_index places index) limit
placed_at places (step.Stopped index) = step.Stopped (slice_index places index)
placed_at places (step.Wait index) = step.Wait (slice_index places index)
placed_at places line = line
