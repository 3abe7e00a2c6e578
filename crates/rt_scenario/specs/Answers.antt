-- What calls of the reader return, out of memory apart.
use Rattle.std.specs.Prelude.{◌≡◌, ℕ, true, false, if◌then◌else◌, List, Option, Some, None, Result, Ok, Err}
use Rattle.std.specs.Borrow.{Bor}
use Rattle.rt_scenario.specs.Scenario.{Draft, Reading, Whole, BrokenAt, ending, is_name, script_at, scripts_at}
use Rattle.rt_scenario.specs.declared.scenario.ScriptText.{ScriptText}
use Rattle.rt_scenario.specs.declared.kind.Kind.{Kind}
use Rattle.rt_scenario.specs.declared.kind.Kind.TheVariants.{NoRun, Name, Missing}
use Rattle.rt_scenario.specs.declared.scenario.Scenario.{Scenario}
use Rattle.rt_scenario.specs.declared.reader.Refusal.{Refusal}
use Rattle.rt_scenario.specs.declared.reader.Refusal.TheVariants.{Broken as Breaks', NoMemory as NoMemory'}
use Rattle.rt_scenario.specs.declared.word.Word.{Word}
use Rattle.rt_scenario.specs.declared.word.Word.TheVariants.{Seed, Next, Cycle, Start, Timeout, Catch, Yield, Draw, Pend, Done}
use Rattle.rt_scenario.specs.declared.stop.Stop.{Stop}
use Rattle.rt_scenario.specs.declared.stop.Stop.TheVariants.{Breaks, NoMemory}

-- the call leaves the draft that is wanted, or names the rule that is broken
abbrev pub Answers : Result Draft Kind → Result (Unit {0}) Stop → Draft → Type 0
Answers want (Ok done) new = want ≡ Ok new
Answers want (Err (Breaks k)) new = want ≡ Err k
Answers want (Err NoMemory) new = Unit {0}

-- a line that is its first word alone
abbrev pub IsBare : Word → Type 0
IsBare Yield = Unit {0}
IsBare Draw = Unit {0}
IsBare Pend = Unit {0}
IsBare Done = Unit {0}
IsBare word = ⊥

-- a line that gives a setting
abbrev pub IsSetting : Word → Type 0
IsSetting Seed = Unit {0}
IsSetting Next = Unit {0}
IsSetting Cycle = Unit {0}
IsSetting Start = Unit {0}
IsSetting Timeout = Unit {0}
IsSetting Catch = Unit {0}
IsSetting word = ⊥

-- the word is this name, or no name
abbrev pub Named : List ℕ → Result (Bor (List ℕ)) Stop → Type 0
Named word (Ok name) = (is_name word ≡ true) × (name.now ≡ word)
Named word (Err (Breaks k)) = (is_name word ≡ false) × (k ≡ Name)
Named word (Err NoMemory) = ⊥

abbrev pub or_missing : Option ℕ → Result ℕ Kind
or_missing None = Err Missing
or_missing (Some place) = Ok place

-- the place of the script that the word names
abbrev pub found_at : List ScriptText → List ℕ → Result ℕ Kind
found_at scripts word = if is_name word then or_missing (script_at scripts word) else Err Name

-- one of the words names no script
abbrev pub Lacks : List ScriptText → List (List ℕ) → Stop → Type 0
Lacks scripts words (Breaks k) = (scripts_at scripts words ≡ None) × (k ≡ Missing)
Lacks scripts words NoMemory = Unit {0}

-- the scenario that a draft makes after its last line, if it makes one
abbrev pub Finishes : Draft → Option Scenario → Type 0
Finishes d None = (n : ℕ) → ending n d ≡ BrokenAt n NoRun
Finishes d (Some s) = (n : ℕ) → ending n d ≡ Whole s

-- the reader returns what the bytes say
abbrev pub Reads : Reading → Result Scenario Refusal → Type 0
Reads said (Ok s) = said ≡ Whole s
Reads said (Err (Breaks' b)) = said ≡ BrokenAt b.line b.kind
Reads said (Err NoMemory') = Unit {0}
