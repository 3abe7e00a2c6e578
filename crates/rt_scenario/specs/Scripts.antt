-- A script while its lines come, and as it is given; and how many tasks scripts make.
use Rattle.std.specs.Prelude.{ℕ, ◌+◌, List, [], ◌∷◌, ◌++◌, length, fold, map, slice_index, Option, Some, None}
use Rattle.std.specs.List.{filter}
use Rattle.std.specs.Ordering.{is_lt}
use Rattle.std.specs.BTreeSet.{insert_key}
use Rattle.rt_base.specs.Attributes.{text_cmp}
use Rattle.rt_scenario.specs.declared.line.Line.{Line}
use Rattle.rt_scenario.specs.declared.line.Line.TheVariants as step
use Rattle.rt_scenario.specs.declared.named_line.NamedLine.{NamedLine}
use Rattle.rt_scenario.specs.declared.named_line.NamedLine.TheVariants.{Plain, Spawn, Abort, Drop, Join, Within, Stopped, Wait}
use Rattle.rt_scenario.specs.declared.scenario.ScriptText.{ScriptText}

-- a script without its `done`; handles and signals are in its lines and choices by their names
pub record Begun : Type 0 where
  pub name : List ℕ
  pub lines : List (NamedLine (List ℕ))
  pub words : List (List ℕ)
  pub choices : List (List ℕ)

-- the name of the handle or signal of a line
abbrev pub handle_of : NamedLine (List ℕ) → Option (List ℕ)
handle_of (Plain line) = None
handle_of (Spawn handle script) = Some handle
handle_of (Abort handle) = Some handle
handle_of (Drop handle) = Some handle
handle_of (Join handle) = Some handle
handle_of (Within handle limit) = Some handle
handle_of (Stopped signal) = Some signal
handle_of (Wait signal) = Some signal

-- a name goes to its place in byte order, unless it is there
abbrev pub with_handle : List (List ℕ) → Option (List ℕ) → List (List ℕ)
with_handle names None = names
with_handle names (Some name) = insert_key text_cmp names name

abbrev pub with_handles : List (List ℕ) → List (NamedLine (List ℕ)) → List (List ℕ)
with_handles names [] = names
with_handles names (line ∷ lines) = with_handles (with_handle names (handle_of line)) lines

-- the names of what the lines hold, each once, in byte order
abbrev pub handles_of : List (NamedLine (List ℕ)) → List (List ℕ)
handles_of lines = with_handles [] lines

-- the same with those of choices
abbrev pub all_names : List (NamedLine (List ℕ)) → List (List ℕ) → List (List ℕ)
all_names lines choices = fold (insert_key text_cmp) (handles_of lines) choices

abbrev pub names_of : Begun → List (List ℕ)
names_of s = all_names s.lines s.choices

-- the place of a name among these: as many are before it
abbrev pub place_of : List (List ℕ) → List ℕ → ℕ
place_of names name = length (filter (λ other. is_lt (text_cmp other name)) names)

-- the line with the place of its name among these
abbrev pub placed : List (List ℕ) → NamedLine (List ℕ) → Line
placed names (Plain line) = line
placed names (Spawn handle script) = step.Spawn (place_of names handle) script
placed names (Abort handle) = step.Abort (place_of names handle)
placed names (Drop handle) = step.Drop (place_of names handle)
placed names (Join handle) = step.Join (place_of names handle)
placed names (Within handle limit) = step.Within (place_of names handle) limit
placed names (Stopped signal) = step.Stopped (place_of names signal)
placed names (Wait signal) = step.Wait (place_of names signal)

abbrev pub closed_script : Begun → ScriptText
closed_script s =
    record { name = s.name; lines = map (placed (names_of s)) s.lines; handles = names_of s; words = s.words; choices = map (place_of (names_of s)) s.choices }

-- the places of the scripts that the lines spawn
abbrev pub spawned_in : List Line → List ℕ
spawned_in [] = []
spawned_in (step.Spawn handle script ∷ lines) = script ∷ spawned_in lines
spawned_in (line ∷ lines) = spawned_in lines

-- the tasks of the scripts at these places, by the tasks of each script
abbrev pub tasks_at : List ℕ → List ℕ → ℕ
tasks_at tasks [] = 0
tasks_at tasks (place ∷ places) = slice_index tasks place + tasks_at tasks places

-- the tasks of each script, after those of scripts above: one for itself, and those of each spawn
abbrev pub tasks_after : List ℕ → List ScriptText → List ℕ
tasks_after tasks [] = tasks
tasks_after tasks (s ∷ ss) = tasks_after (tasks ++ (1 + tasks_at tasks (spawned_in s.lines)) ∷ []) ss

abbrev pub tasks_of : List ScriptText → List ℕ
tasks_of scripts = tasks_after [] scripts
