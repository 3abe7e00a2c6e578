-- The places that lines hold lie within their lists.
use Rattle.std.specs.Prelude.{ℕ, ◌<◌, ◌≤◌, List, length}
use Rattle.std.specs.List.{All}
use Rattle.rt_scenario.specs.Scripts.{Begun}
use Rattle.rt_scenario.specs.declared.line.Line.{Line}
use Rattle.rt_scenario.specs.declared.line.Line.TheVariants as step
use Rattle.rt_scenario.specs.declared.named_line.NamedLine.{NamedLine}
use Rattle.rt_scenario.specs.declared.named_line.NamedLine.TheVariants.{Plain, Spawn}
use Rattle.rt_scenario.specs.declared.scenario.ScriptText.{ScriptText}

-- a name's place and a word's lie among those of the script, and a script's among so many; so do a choice's names
abbrev pub IsWithin : ℕ → ScriptText → Line → Type 0
IsWithin scripts s (step.Panic word) = word < length s.words
IsWithin scripts s (step.Spawn handle script) = (handle < length s.handles) × (script < scripts)
IsWithin scripts s (step.Abort handle) = handle < length s.handles
IsWithin scripts s (step.Drop handle) = handle < length s.handles
IsWithin scripts s (step.Join handle) = handle < length s.handles
IsWithin scripts s (step.Within handle limit) = handle < length s.handles
IsWithin scripts s (step.Select start past) = (start < past) × (past ≤ length s.choices) × All (λ place. place < length s.handles) s.choices
IsWithin scripts s (step.Stopped signal) = signal < length s.handles
IsWithin scripts s (step.Wait signal) = signal < length s.handles
IsWithin scripts s line = Unit {0}

abbrev pub HasPlaces : ℕ → ScriptText → Type 0
HasPlaces scripts s = All (IsWithin scripts s) s.lines

-- each line of each script
abbrev pub HavePlaces : List ScriptText → Type 0
HavePlaces scripts = All (HasPlaces (length scripts)) scripts

-- a line that is plain has no handle and no signal
abbrev pub IsClear : NamedLine (List ℕ) → Type 0
IsClear (Plain (step.Spawn handle script)) = ⊥
IsClear (Plain (step.Abort handle)) = ⊥
IsClear (Plain (step.Drop handle)) = ⊥
IsClear (Plain (step.Join handle)) = ⊥
IsClear (Plain (step.Within handle limit)) = ⊥
IsClear (Plain (step.Stopped signal)) = ⊥
IsClear (Plain (step.Wait signal)) = ⊥
IsClear line = Unit {0}

-- a line without a word or a choice, whose name has no place yet, and whose script is among so many
abbrev pub IsFree : ℕ → NamedLine (List ℕ) → Type 0
IsFree scripts (Plain (step.Panic word)) = ⊥
IsFree scripts (Plain (step.Select start past)) = ⊥
IsFree scripts (Spawn handle script) = script < scripts
IsFree scripts line = IsClear line

-- such a line, or one whose word or choice is among so many
abbrev pub IsNamed : ℕ → ℕ → ℕ → NamedLine (List ℕ) → Type 0
IsNamed scripts words choices (Plain (step.Panic word)) = word < words
IsNamed scripts words choices (Plain (step.Select start past)) = (start < past) × (past ≤ choices)
IsNamed scripts words choices line = IsFree scripts line

abbrev pub IsBegun : ℕ → Begun → Type 0
IsBegun scripts s = All (IsNamed scripts (length s.words) (length s.choices)) s.lines
