-- Numbers of tasks as they are kept: `u64::MAX` means each that is past it.
use Rattle.std.specs.Prelude.{ℕ, ◌-◌, ◌^◌, List, map, min}
use Rattle.rt_scenario.specs.Scripts.{tasks_of}
use Rattle.rt_scenario.specs.declared.scenario.ScriptText.{ScriptText}

abbrev pub capped : ℕ → ℕ
capped n = min n (2 ^ 64 - 1)

abbrev pub capped_tasks : List ScriptText → List ℕ
capped_tasks scripts = map capped (tasks_of scripts)
