-- The text of a report.
use Rattle.std.specs.Prelude.{◌≡◌, ◌≤◌, ℕ, List, [], ◌∷◌, ◌++◌, slice_range, Option, codes}
use Rattle.std.specs.Fmt.{decimal, signed_decimal}
use Rattle.hex.specs.Hex.{encode_lower}
use Rattle.rt_base.specs.Outside.{Appends}
use Rattle.rt_audit.specs.declared.entry.Entry.{Entry}
use Rattle.rt_audit.specs.Lines.{line_of}
use Rattle.rt_core.specs.declared.run_error.RunError.{RunError}
use Rattle.rt_core.specs.declared.run_error.RunError.TheVariants.{Timeout, Stalled, TaskPanicked, TimeOverflow, TooManyTasks, NoMemory}
use Rattle.rt_scenario.specs.KindWords.{kind_word}
use Rattle.rt_scenario.specs.declared.kind.Kind.{Kind}
use Rattle.rt_scripts.specs.declared.outcome.RunResult.{RunResult}
use Rattle.rt_scripts.specs.declared.outcome.RunResult.TheVariants.{Ok, Failed}
use Rattle.rt_scripts.specs.declared.outcome.RunReport.{RunReport}

abbrev pub word_of : RunError → List ℕ
word_of Timeout = codes "timeout"
word_of Stalled = codes "stalled"
word_of (TaskPanicked text) = codes "panicked"
word_of TimeOverflow = codes "overflow"
word_of TooManyTasks = codes "tasks"
word_of NoMemory = codes "nomemory"

-- after the word a panic has its text
abbrev pub detail_of : RunError → List ℕ
detail_of (TaskPanicked text) = codes " " ++ text
detail_of error = []

abbrev pub result_text : RunResult → List ℕ
result_text (Ok value) = codes "result ok " ++ (signed_decimal value ++ codes "\n")
result_text (Failed error) = (codes "result " ++ (word_of error ++ detail_of error)) ++ codes "\n"

abbrev pub numbers_text : RunReport → List ℕ
numbers_text run = codes "time " ++ (decimal run.time ++ (codes "\nrounds " ++ (decimal run.rounds ++ (codes "\ndigest " ++ (encode_lower run.digest ++ codes "\n")))))

-- a line for each entry
abbrev pub entries_text : List Entry → List ℕ
entries_text [] = []
entries_text (entry ∷ entries) = (line_of entry ++ codes "\n") ++ entries_text entries

abbrev pub report_text : RunReport → List Entry → List ℕ
report_text run entries = (codes "run " ++ (run.root ++ codes "\n")) ++ (entries_text entries ++ (result_text run.result ++ numbers_text run))

-- one report after another, each with its own entries of the journal
abbrev pub reports_text : List RunReport → List Entry → List ℕ
reports_text [] entries = []
reports_text (run ∷ runs) entries = report_text run (slice_range entries run.from run.to) ++ reports_text runs entries

-- the entries of a run are among so many
abbrev pub StandsIn : ℕ → RunReport → Type 0
StandsIn entries run = (run.from ≤ run.to) × (run.to ≤ entries)

-- a text was written from the one place to the other, up to what is still in the buffer
abbrev pub IsWritten : Option (List ℕ) → List ℕ → Option (List ℕ) → List ℕ → Type 0
IsWritten before text after buffer = (written : List ℕ) × Appends before written after × (written ++ buffer ≡ text)

-- the first bytes of a text were written from the one place to the other
abbrev pub IsPart : Option (List ℕ) → List ℕ → Option (List ℕ) → Type 0
IsPart before text after = (rest : List ℕ) × IsWritten before text after rest

-- the line for words that are no command
abbrev pub usage_text : List ℕ
usage_text = codes "usage: rt_sim run | gen N | load N | workers N\n"

-- the line for an input with too many bytes
abbrev pub too_long_text : List ℕ
too_long_text = codes "error too long\n"

-- the line for a scenario that is broken at a line
abbrev pub refusal_text : ℕ → Kind → List ℕ
refusal_text line kind = codes "error " ++ (decimal line ++ (codes " " ++ (kind_word kind ++ codes "\n")))
