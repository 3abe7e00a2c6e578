-- What the program is asked for, and how its call ends.
use Rattle.std.specs.Prelude.{◌≡◌, ◌⊎◌, ℕ, nat_lt, Bool, false, if◌then◌else◌, List, [], ◌∷◌, length, codes, Option, IfSome}
use Rattle.rt_audit.specs.declared.entry.Entry.{Entry}
use Rattle.rt_base.specs.Outside.{Appends}
use Rattle.rt_scenario.specs.Words.{is_text}
use Rattle.rt_scenario.specs.Scenario.{Reading, Whole, BrokenAt, scenario_of}
use Rattle.rt_scripts.specs.Ran.{Simulates, Chain, starting, last_status}
use Rattle.rt_scripts.specs.Report.{IsPart, reports_text, usage_text, too_long_text, refusal_text}
use Rattle.rt_scripts.specs.declared.outcome.RunReport.{RunReport}
use Rattle.rt_scripts.specs.declared.outcome.Outcome.{Outcome}

-- the words are no command, the input has too many bytes, or this is how it is read
pub data Asked : Type 0 where
  NoCommand : Asked
  TooLong : Asked
  Reads : Reading → Asked

-- the words are the command that there is
abbrev pub says_run : List (List ℕ) → Bool
says_run (word ∷ []) = is_text word (codes "run")
says_run words = false

abbrev pub asked_of : List (List ℕ) → List ℕ → Asked
asked_of words bytes =
    if says_run words
    then (if nat_lt 1048576 (length bytes) then TooLong else Reads (scenario_of bytes))
    else NoCommand

-- the words ask for this of an input, whose bytes are these where it tells them
abbrev pub IsAsked : List (List ℕ) → Option (List ℕ) → Asked → Type 0
IsAsked words told asked = (bytes : List ℕ) × IfSome told (λ left. bytes ≡ left) × (asked ≡ asked_of words bytes)

-- a refusal has this status, and nothing was run
abbrev pub Refuses : ℕ → Outcome → Type 0
Refuses status o = (o.status ≡ status) × (o.runs ≡ []) × (o.journal.entries ≡ [])

-- these runs are reported, with these entries
abbrev pub Reports : List RunReport → List Entry → Outcome → Type 0
Reports runs entries o = (o.status ≡ last_status runs) × (o.runs ≡ runs) × (o.journal.entries ≡ entries)

-- the outcome where nothing fails
abbrev pub Answers : Asked → Outcome → Type 0
Answers NoCommand o = Refuses 2 o
Answers TooLong o = Refuses 3 o
Answers (Reads (BrokenAt line kind)) o = Refuses 3 o
Answers (Reads (Whole s)) o = Simulates s o

-- the text that is written where nothing fails
abbrev pub text_of : Asked → Outcome → List ℕ
text_of NoCommand o = usage_text
text_of TooLong o = too_long_text
text_of (Reads (BrokenAt line kind)) o = refusal_text line kind
text_of (Reads (Whole s)) o = reports_text o.runs o.journal.entries

-- nothing failed
abbrev pub IsDone : (Outcome → Type 0) → List ℕ → Outcome → Option (List ℕ) → Option (List ℕ) → Type 0
IsDone is text o before after = is o × Appends before text after

-- a write failed, or the rest of the text was out of memory: all but the status is as where nothing fails
abbrev pub IsCut : (Outcome → Type 0) → List ℕ → Outcome → Option (List ℕ) → Option (List ℕ) → Type 0
IsCut is text o before after =
    ((o.status ≡ 5) ⊎ (o.status ≡ 7)) × ((status : ℕ) × is (record o { status = status })) × IsPart before text after

-- a read failed, or it was out of memory: nothing was run and nothing written
abbrev pub IsBare : Outcome → Option (List ℕ) → Option (List ℕ) → Type 0
IsBare o before after = ((o.status ≡ 4) ⊎ (o.status ≡ 7)) × (o.runs ≡ []) × (o.journal.entries ≡ []) × (after ≡ before)

-- how a call ends that has such an outcome and writes this text where nothing fails
abbrev pub EndsAs : (Outcome → Type 0) → List ℕ → Outcome → Option (List ℕ) → Option (List ℕ) → Type 0
EndsAs is text o before after = IsDone is text o before after ⊎ (IsCut is text o before after ⊎ IsBare o before after)

-- after these runs of what was asked one ran out of memory, and these are all entries
abbrev pub Lacks : Asked → List RunReport → List Entry → Type 0
Lacks (Reads (Whole s)) runs entries = Chain false s.scripts (starting s.settings) s.runs runs entries
Lacks asked runs entries = ⊥

-- a run ran out of memory: its entries are in the journal after those of the runs before it, and nothing was written
abbrev pub IsHalted : Asked → Outcome → Option (List ℕ) → Option (List ℕ) → Type 0
IsHalted asked o before after = (o.status ≡ 7) × Lacks asked o.runs o.journal.entries × (after ≡ before)

abbrev pub Ends : Asked → Outcome → Option (List ℕ) → Option (List ℕ) → Type 0
Ends asked o before after = EndsAs (Answers asked) (text_of asked o) o before after ⊎ IsHalted asked o before after
