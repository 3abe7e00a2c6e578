-- What a simulation has run.
use Rattle.std.specs.Prelude.{◌≡◌, ◌≢◌, ◌<◌, ◌+◌, ◌++◌, ℕ, ℤ, Bool, true, false, List, [], ◌∷◌, length, slice_get, Option, Some, None, unwrap_or}
use Rattle.std.specs.List.{All}
use Rattle.rand_chacha.specs.ChaCha.{ChaCha}
use Rattle.rt_audit.specs.declared.entry.Entry.{Entry}
use Rattle.rt_audit.specs.Journal.{digest_of, last_time, rounds_in}
use Rattle.rt_model.specs.Tied.{Steps, with_first}
use Rattle.rt_core.specs.declared.run_error.RunError.TheVariants.{NoMemory}
use Rattle.rt_core.specs.Starting.{Starting, Kept, first_begin, resumed, seeded, default_seed, chacha_stream}
use Rattle.rt_core.specs.Outcome.{Completes, Fails}
use Rattle.rt_scenario.specs.declared.scenario.RunLine.{RunLine}
use Rattle.rt_scenario.specs.declared.scenario.Scenario.{Scenario}
use Rattle.rt_scenario.specs.declared.scenario.Settings.{Settings}
use Rattle.rt_scenario.specs.declared.scenario.ScriptText.{ScriptText}
use Rattle.rt_scripts.specs.declared.simulate.Came.{Came}
use Rattle.rt_scripts.specs.declared.simulate.Came.TheVariants.{Completed, Failed as HasFailed, Lacked}
use Rattle.rt_scripts.specs.declared.outcome.RunResult.{RunResult}
use Rattle.rt_scripts.specs.declared.outcome.RunResult.TheVariants.{Ok, Failed}
use Rattle.rt_scripts.specs.declared.outcome.RunReport.{RunReport}
use Rattle.rt_scripts.specs.declared.outcome.Outcome.{Outcome}
use Rattle.rt_scripts.specs.Script.{Script, script_steps}
use Rattle.rt_scripts.specs.Making.{Maker, making}

-- scripts of which this maker makes the root and those beside it
abbrev pub root_steps : Maker → Steps Script ℤ
root_steps m = with_first script_steps (λ now. making m)

-- how the first run of a scenario begins
abbrev pub starting : Settings → Starting ChaCha
starting s = record {
  begin = first_begin (unwrap_or s.cycle 1000000) (unwrap_or s.start 0) s.timeout (unwrap_or s.catch false) (unwrap_or s.next 0);
  given = [];
  rng = seeded (unwrap_or s.seed default_seed);
}

-- the scripts that a line runs are among these
abbrev pub HasScripts : List ScriptText → RunLine → Type 0
HasScripts scripts line = (line.root < length scripts) × All (λ place. place < length scripts) line.with

-- this maker makes the root that a line `run` names, whose script is this one, and those beside it
pub record Makes (scripts : List ScriptText) (line : RunLine) (script : ScriptText) (m : Maker) : Type 0 where
  pub there : slice_get scripts line.root ≡ Some script
  pub program : m.program ≡ scripts
  pub at : m.root ≡ line.root
  pub with : m.with ≡ line.with

abbrev pub maker_of : List ScriptText → RunLine → Maker
maker_of scripts line = record { program = scripts; root = line.root; with = line.with }

-- these entries are a run, which came to this at this moment. Where it gave an output this is kept of it
abbrev pub Comes : Maker → Starting ChaCha → List Entry → ℕ → RunResult → Option (Kept ChaCha) → Type 0
Comes m s entries time (Ok output) (Some kept) =
    (kept.journal ≡ s.given ++ entries) × (kept.time ≡ time) × Completes chacha_stream (root_steps m) s output kept
Comes m s entries time (Failed error) None =
    (error ≢ NoMemory) × (last_time (s.given ++ entries) ≡ time) × Fails chacha_stream (root_steps m) s (s.given ++ entries) error
Comes m s entries time result kept = ⊥

-- these entries are those of a run that ran out of memory
pub record Halts (scripts : List ScriptText) (line : RunLine) (from : Starting ChaCha) (entries : List Entry) : Type 0 where
  pub script : ScriptText
  pub maker : Maker
  pub makes : Makes scripts line script maker
  pub lacks : Fails chacha_stream (root_steps maker) from (from.given ++ entries) NoMemory

-- the report of a run of these entries, which are in the journal after those that were given
abbrev pub report_of : List ℕ → RunResult → ℕ → List Entry → List Entry → RunReport
report_of root result time given entries = record {
  root = root;
  result = result;
  from = length given;
  to = length given + length entries;
  digest = digest_of (given ++ entries);
  time = time;
  rounds = rounds_in entries;
}

-- the run of a line from this beginning, with these entries, is reported so, and this is kept of it
pub record IsReported (scripts : List ScriptText) (line : RunLine) (from : Starting ChaCha) (entries : List Entry) (run : RunReport) (kept : Option (Kept ChaCha)) : Type 0 where
  pub script : ScriptText
  pub maker : Maker
  pub makes : Makes scripts line script maker
  pub comes : Comes maker from entries run.time run.result kept
  pub is : run ≡ report_of script.name run.result run.time from.given entries

-- the run of a line from this beginning has come to this, and these are all entries
abbrev pub CameOf : List ScriptText → RunLine → Starting ChaCha → Came → Type 0
CameOf scripts line from (Completed run kept) = (own : List Entry) × (kept.journal ≡ from.given ++ own) × IsReported scripts line from own run (Some kept)
CameOf scripts line from (HasFailed run journal) = (own : List Entry) × (journal.entries ≡ from.given ++ own) × IsReported scripts line from own run None
CameOf scripts line from (Lacked journal) = (own : List Entry) × (journal.entries ≡ from.given ++ own) × Halts scripts line from own

-- after a run that gave an output this is so of the next one's beginning, and after one that failed that
abbrev pub Behind : (Starting ChaCha → Type 0) → Type 0 → Option (Kept ChaCha) → Type 0
Behind next none (Some kept) = next (resumed kept)
Behind next none None = none

-- what comes after the runs that are reported: no line and no entry, or the entries of a run that ran out of memory
abbrev pub Tail : Bool → List ScriptText → Starting ChaCha → List RunLine → List Entry → Type 0
Tail true scripts from lines entries = (lines ≡ []) × (entries ≡ [])
Tail false scripts from (line ∷ lines) entries = Halts scripts line from entries
Tail false scripts from [] entries = ⊥

-- the runs of these lines are reported one after another, and have these entries. The first begins so, and each later one goes on from
-- what was kept of the one before. A run that failed is the last
abbrev pub Chain : Bool → List ScriptText → Starting ChaCha → List RunLine → List RunReport → List Entry → Type 0
Chain whole scripts from lines [] entries = Tail whole scripts from lines entries
Chain whole scripts from [] (run ∷ runs) entries = ⊥
Chain whole scripts from (line ∷ lines) (run ∷ runs) entries =
    (own : List Entry) × (rest : List Entry) × (kept : Option (Kept ChaCha)) × (entries ≡ own ++ rest) × IsReported scripts line from own run kept × Behind (λ next. Chain whole scripts next lines runs rest) ((whole ≡ true) × (runs ≡ []) × (rest ≡ [])) kept

abbrev pub status_of : RunResult → ℕ
status_of (Ok output) = 0
status_of (Failed error) = 6

-- the status after these reports: the last one's
abbrev pub last_status : List RunReport → ℕ
last_status [] = 0
last_status (run ∷ []) = status_of run.result
last_status (run ∷ next ∷ runs) = last_status (next ∷ runs)

-- the scenario's runs are reported, and the journal has their entries
pub record Simulates (s : Scenario) (o : Outcome) : Type 0 where
  pub chain : Chain true s.scripts (starting s.settings) s.runs o.runs o.journal.entries
  pub status : o.status ≡ last_status o.runs
