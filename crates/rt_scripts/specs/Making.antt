-- What the maker of a scenario's root does.
use Rattle.std.specs.Prelude.{ℕ, ℤ, List, [], ◌∷◌, Result, Ok, Err}
use Rattle.rt_base.specs.declared.error.Error.{Error}
use Rattle.rt_base.specs.declared.error.Error.TheVariants.{NoMemory as LacksMemory}
use Rattle.rt_base.specs.declared.no_memory.NoMemory.{NoMemory}
use Rattle.rt_audit.specs.declared.call.Call.TheVariants.{CloseNode}
use Rattle.rt_model.specs.Turns.{Plainly}
use Rattle.rt_model.specs.Walk.{Step, Spends, Gives, then, followed_by}
use Rattle.rt_world.specs.World.{World}
use Rattle.rt_world.specs.Walked.{Rooted}
use Rattle.rt_core.specs.Contexts.{Context, childs, spawns, root_context}
use Rattle.rt_core.specs.Handles.{TaskHandle, task_spends}
use Rattle.rt_scenario.specs.declared.scenario.ScriptText.{ScriptText}
use Rattle.rt_scenario.specs.Texts.{text_at}
use Rattle.rt_scripts.specs.Script.{Script, started}

-- the scripts of a scenario, the place of the root's, and those of the scripts that are spawned beside it
pub record Maker : Type 0 where
  pub program : List ScriptText
  pub root : ℕ
  pub with : List ℕ

abbrev pub Making : Type 0
Making = Step Script Script ℤ (Unit {0})

-- the script that a maker makes: at its first line, on node 0
abbrev pub begun : Maker → Script
begun m = started m.program m.root root_context

-- a refusal is passed over. Out of memory the root's context is closed, and there is no root
abbrev pub passed_over : Context → Making → Error → Making
passed_over context next LacksMemory = Spends (Plainly (CloseNode context.node)) next
passed_over context next error = next

-- a script was spawned on a child: its handle is given up, or the child is closed
abbrev pub spawned_beside : Context → Making → Context → Result (TaskHandle ℤ) Error → Making
spawned_beside context next child (Ok handle) = followed_by (task_spends handle) next
spawned_beside context next child (Err error) = Spends (Plainly (CloseNode child.node)) (passed_over context next error)

abbrev pub placed_beside : Context → List ScriptText → ℕ → Making → Result Context Error → Making
placed_beside context program at next (Ok child) = then (spawns child (started program at)) (λ told u. spawned_beside context next child told)
placed_beside context program at next (Err error) = passed_over context next error

-- a script is spawned beside the root, on a child that has its name
unfoldable pub beside : Context → List ScriptText → ℕ → Making → Making
beside context program at next = then (childs context (text_at program at).name) (λ made u. placed_beside context program at next made)

-- one script after another
unfoldable pub besides : Context → List ScriptText → List ℕ → Making → Making
besides context program [] next = next
besides context program (at ∷ places) next = beside context program at (besides context program places next)

abbrev pub making : Maker → Making
making m = besides root_context m.program m.with (Gives tt (begun m))

-- a part of a maker hands its context back and goes on as others do, or was out of memory
abbrev pub Prepares : {G : Type 0} → Making → Making → World Script ℤ G → World Script ℤ G → Result Context NoMemory → Type 0
Prepares step next old new (Ok context) = (end : World Script ℤ _) (root : Result Script NoMemory) → Rooted next new end root → Rooted step old end root
Prepares step next old new (Err lack) = Rooted step old new (Err lack)
