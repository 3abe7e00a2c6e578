-- How a scenario is read: line by line from the top, up to the first line that breaks a rule.
use Rattle.std.specs.Prelude.{◌≡◌, ◌<◌, ℕ, ◌+◌, ◌-◌, ◌==◌, ◌&&◌, ◌||◌, not, nat_lt, nat_le, Bool, true, if◌then◌else◌, List, [], ◌∷◌, ◌++◌, length, take, slice_index, codes, Option, Some, None, is_some, is_none, Result, Ok, Err, ℤ}
use Rattle.std.specs.Option.{option_map, unwrap_or}
use Rattle.std.specs.List.{All, list_all, list_any}
use Rattle.rt_base.specs.Label.{is_label}
use Rattle.rt_base.specs.declared.time.TheConstants.{MAX_TIME}
use Rattle.rt_scenario.specs.Lines.{lines_of, words_of}
use Rattle.rt_scenario.specs.Numbers.{number_of, small_number_of, small_value_of, value_of}
use Rattle.rt_scenario.specs.Scripts.{Begun, closed_script, tasks_at, tasks_of}
use Rattle.rt_scenario.specs.Words.{is_text, switch_of, word_of}
use Rattle.rt_scenario.specs.declared.kind.Kind.{Kind}
use Rattle.rt_scenario.specs.declared.kind.Kind.TheVariants as kind
use Rattle.rt_scenario.specs.declared.line.Line.TheVariants as step
use Rattle.rt_scenario.specs.declared.named_line.NamedLine.{NamedLine}
use Rattle.rt_scenario.specs.declared.named_line.NamedLine.TheVariants.{Plain, Spawn, Abort, Drop, Join, Within, Stopped, Wait}
use Rattle.rt_scenario.specs.declared.scenario.RunLine.{RunLine}
use Rattle.rt_scenario.specs.declared.scenario.Scenario.{Scenario}
use Rattle.rt_scenario.specs.declared.scenario.ScriptText.{ScriptText}
use Rattle.rt_scenario.specs.declared.scenario.Settings.{Settings}
use Rattle.rt_scenario.specs.declared.word.Word.{Word}
use Rattle.rt_scenario.specs.declared.word.Word.TheVariants.{Seed, Next, Cycle, Start, Timeout, Catch, Script, Sleep, Until, Yield, Draw, Pend, End, Panic, Spawn as SpawnWord, Abort as AbortWord, Drop as DropWord, Join as JoinWord, Within as WithinWord, Select as SelectWord, Stopped as StoppedWord, Wait as WaitWord, Stop as StopWord, Done, Run}

-- what the lines so far say: the settings, the scripts, the one whose `done` hasn't come, and the runs
pub record Draft : Type 0 where
  pub settings : Settings
  pub scripts : List ScriptText
  pub current : Option Begun
  pub runs : List RunLine

abbrev pub no_settings : Settings
no_settings = record { seed = None; next = None; cycle = None; start = None; timeout = None; catch = None }

abbrev pub blank : Draft
blank = record { settings = no_settings; scripts = []; current = None; runs = [] }

-- the place of the script of this name
abbrev pub script_at : List ScriptText → List ℕ → Option ℕ
script_at [] name = None
script_at (s ∷ ss) name = if is_text s.name name then Some 0 else option_map (λ n. n + 1) (script_at ss name)

abbrev pub onto_places : Option ℕ → Option (List ℕ) → Option (List ℕ)
onto_places None places = None
onto_places (Some place) places = option_map (λ ps. place ∷ ps) places

-- the places of the scripts of these names, if all are there
abbrev pub scripts_at : List ScriptText → List (List ℕ) → Option (List ℕ)
scripts_at scripts [] = Some []
scripts_at scripts (name ∷ names) = onto_places (script_at scripts name) (scripts_at scripts names)

-- a name has at most 32 bytes
abbrev pub is_name : List ℕ → Bool
is_name word = is_label word && nat_le (length word) 32

-- no script is open, and nothing is run
abbrev pub is_between : Draft → Bool
is_between d = is_none d.current && length d.runs == 0

-- and no script is above
abbrev pub is_first : Draft → Bool
is_first d = is_between d && length d.scripts == 0

-- where each word is allowed: settings before the first script, steps within a script, scripts and runs
-- outside of scripts, and nothing but runs after a run
abbrev pub is_placed : Draft → Word → Bool
is_placed d Seed = is_first d
is_placed d Next = is_first d
is_placed d Cycle = is_first d
is_placed d Start = is_first d
is_placed d Timeout = is_first d
is_placed d Catch = is_first d
is_placed d Script = is_between d
is_placed d Run = is_none d.current
is_placed d word = is_some d.current

-- what each word does with its numbers, names and values, or the rule that it breaks

-- the value of a setting after a line, or the rule that the line breaks: it may be given once, and a word that isn't its value
-- is wrong
abbrev pub once : {A : Type 0} → Option A → Option A → Kind → Result (Option A) Kind
once stood None wrong = Err wrong
once stood (Some value) wrong = if is_some stood then Err kind.Twice else Ok (Some value)

abbrev pub setting_row : {A : Type 0} → Draft → (A → Settings) → Result A Kind → Result Draft Kind
setting_row d put (Err k) = Err k
setting_row d put (Ok value) = Ok (record d { settings = put value })

abbrev pub script_row : Draft → List ℕ → Result Draft Kind
script_row d name =
    if not (is_name name) then Err kind.Name
    else (if is_some (script_at d.scripts name) then Err kind.Twice
    else Ok (record d { current = Some (record { name = name; lines = []; words = []; choices = [] }) }))

abbrev pub with_line : NamedLine (List ℕ) → Begun → Begun
with_line line s = record s { lines = s.lines ++ line ∷ [] }

abbrev pub step_row : Draft → NamedLine (List ℕ) → Result Draft Kind
step_row d line = Ok (record d { current = option_map (with_line line) d.current })

abbrev pub sleep_row : Draft → Option ℕ → Result Draft Kind
sleep_row d None = Err kind.Number
sleep_row d (Some n) = step_row d (Plain (step.Sleep n))

abbrev pub until_row : Draft → Option ℕ → Result Draft Kind
until_row d None = Err kind.Number
until_row d (Some n) = step_row d (Plain (step.Until n))

abbrev pub value_row : Draft → Option ℤ → Result Draft Kind
value_row d None = Err kind.Number
value_row d (Some v) = step_row d (Plain (step.End v))

abbrev pub end_row : Draft → List ℕ → Result Draft Kind
end_row d word = if is_text word (codes "last") then step_row d (Plain step.EndLast) else value_row d (value_of word)

-- a panic's word goes after those before it
abbrev pub with_panic : List ℕ → Begun → Begun
with_panic word s = record s { lines = s.lines ++ Plain (step.Panic (length s.words)) ∷ []; words = s.words ++ word ∷ [] }

abbrev pub panic_row : Draft → List ℕ → Result Draft Kind
panic_row d word = Ok (record d { current = option_map (with_panic word) d.current })

abbrev pub spawned_row : Draft → List ℕ → Option ℕ → Result Draft Kind
spawned_row d handle None = Err kind.Missing
spawned_row d handle (Some place) = step_row d (Spawn handle place)

abbrev pub spawn_row : Draft → List ℕ → List ℕ → Result Draft Kind
spawn_row d handle name = if not (is_name handle && is_name name) then Err kind.Name else spawned_row d handle (script_at d.scripts name)

-- a step with a handle or a signal
abbrev pub handle_row : Draft → (List ℕ → NamedLine (List ℕ)) → List ℕ → Result Draft Kind
handle_row d line handle = if not (is_name handle) then Err kind.Name else step_row d (line handle)

-- a join with a limit
abbrev pub limited_row : Draft → Option ℕ → List ℕ → Result Draft Kind
limited_row d None handle = Err kind.Number
limited_row d (Some limit) handle = step_row d (Within handle limit)

abbrev pub within_row : Draft → Option ℕ → List ℕ → Result Draft Kind
within_row d limit handle = if not (is_name handle) then Err kind.Name else limited_row d limit handle

abbrev pub abort_row : Draft → List ℕ → Result Draft Kind
abort_row d word = if is_text word (codes "self") then step_row d (Plain step.AbortSelf) else handle_row d Abort word

-- names that are chosen go after those before them
abbrev pub with_choices : List (List ℕ) → Begun → Begun
with_choices names s = record s { choices = s.choices ++ names }

abbrev pub with_select : List (List ℕ) → Begun → Begun
with_select names s = with_line (Plain (step.Select (length s.choices) (length s.choices + length names))) (with_choices names s)

-- a choice among what has these names
abbrev pub select_row : Draft → List (List ℕ) → Result Draft Kind
select_row d names = if not (list_all is_name names) then Err kind.Name else Ok (record d { current = option_map (with_select names) d.current })

-- a shutdown that is waited for to its end
abbrev pub stop_row : Draft → Option ℤ → Result Draft Kind
stop_row d None = Err kind.Number
stop_row d (Some v) = step_row d (Plain (step.Stop v))

-- a shutdown that is waited for at most so long
abbrev pub limited_stop_row : Draft → Option ℤ → Option ℕ → Result Draft Kind
limited_stop_row d None limit = Err kind.Number
limited_stop_row d (Some v) None = Err kind.Number
limited_stop_row d (Some v) (Some limit) = step_row d (Plain (step.StopWithin v limit))

abbrev pub with_closed : Draft → Option Begun → Draft
with_closed d None = d
with_closed d (Some s) = record d { scripts = d.scripts ++ closed_script s ∷ []; current = None }

abbrev pub done_row : Draft → Result Draft Kind
done_row d = Ok (with_closed d d.current)

abbrev pub takes_time : Option ℕ → Bool
takes_time None = true
takes_time (Some cycle) = nat_lt 0 cycle

-- the cycle isn't 0; and the start, which is 0 where none is given, is at most MAX_TIME, also with the timeout added
abbrev pub is_runnable : Settings → Bool
is_runnable s = takes_time s.cycle && nat_le (unwrap_or s.start 0 + unwrap_or s.timeout 0) MAX_TIME

-- the script at this place can be run: it is there, and the settings can be kept
abbrev pub CanRun : List ScriptText → Settings → ℕ → Type 0
CanRun scripts settings place = (place < length scripts) × (is_runnable settings ≡ true)

-- and so can the scripts that a line runs
abbrev pub CanRunLine : List ScriptText → Settings → RunLine → Type 0
CanRunLine scripts settings line = CanRun scripts settings line.root × All (CanRun scripts settings) line.with

-- the places of the scripts that are run, the root first
abbrev pub run_at : List ℕ → List RunLine
run_at [] = []
run_at (root ∷ with) = record { root = root; with = with } ∷ []

-- a run has at most 100,000 tasks
abbrev pub found_row : Draft → Option (List ℕ) → Result Draft Kind
found_row d None = Err kind.Missing
found_row d (Some places) =
    if nat_lt 100000 (tasks_at (tasks_of d.scripts) places) then Err kind.Tasks
    else (if is_runnable d.settings then Ok (record d { runs = d.runs ++ run_at places }) else Err kind.Config)

-- the names in a run, `NAME` or `NAME with NAME ..`
abbrev pub names_run : List (List ℕ) → Option (List (List ℕ))
names_run [] = None
names_run (root ∷ []) = Some (root ∷ [])
names_run (root ∷ word ∷ names) = if is_text word (codes "with") && nat_lt 0 (length names) then Some (root ∷ names) else None

abbrev pub run_row : Draft → Option (List (List ℕ)) → Result Draft Kind
run_row d None = Err kind.Count
run_row d (Some names) = if not (list_all is_name names) then Err kind.Name else found_row d (scripts_at d.scripts names)

-- the rows with their numbers of words
abbrev pub row : Draft → Word → List (List ℕ) → Result Draft Kind
row d Seed (w ∷ []) = setting_row d (λ value. record d.settings { seed = value }) (once d.settings.seed (small_number_of w) kind.Number)
row d Next (w ∷ []) = setting_row d (λ value. record d.settings { next = value }) (once d.settings.next (small_number_of w) kind.Number)
row d Cycle (w ∷ []) = setting_row d (λ value. record d.settings { cycle = value }) (once d.settings.cycle (number_of w) kind.Number)
row d Start (w ∷ []) = setting_row d (λ value. record d.settings { start = value }) (once d.settings.start (number_of w) kind.Number)
row d Timeout (w ∷ []) = setting_row d (λ value. record d.settings { timeout = value }) (once d.settings.timeout (number_of w) kind.Number)
row d Catch (w ∷ []) = setting_row d (λ value. record d.settings { catch = value }) (once d.settings.catch (switch_of w) kind.Name)
row d Script (w ∷ []) = script_row d w
row d Sleep (w ∷ []) = sleep_row d (number_of w)
row d Until (w ∷ []) = until_row d (number_of w)
row d Yield [] = step_row d (Plain step.Yield)
row d Draw [] = step_row d (Plain step.Draw)
row d Pend [] = step_row d (Plain step.Pend)
row d End (w ∷ []) = end_row d w
row d Panic (w ∷ []) = panic_row d w
row d SpawnWord (h ∷ w ∷ []) = spawn_row d h w
row d AbortWord (w ∷ []) = abort_row d w
row d DropWord (h ∷ []) = handle_row d Drop h
row d JoinWord (h ∷ []) = handle_row d Join h
row d WithinWord (w ∷ h ∷ []) = within_row d (number_of w) h
row d SelectWord (h ∷ hs) = select_row d (h ∷ hs)
row d StoppedWord (g ∷ []) = handle_row d Stopped g
row d WaitWord (g ∷ []) = handle_row d Wait g
row d StopWord (v ∷ []) = stop_row d (small_value_of v)
row d StopWord (v ∷ w ∷ []) = limited_stop_row d (small_value_of v) (number_of w)
row d Done [] = done_row d
row d Run ws = run_row d (names_run ws)
row d word args = Err kind.Count

-- the rules of a line, in the order in which they are tested
abbrev pub known_words : Draft → Option Word → List (List ℕ) → Result Draft Kind
known_words d None args = Err kind.Unknown
known_words d (Some word) args = if is_placed d word then row d word args else Err kind.Place

abbrev pub after_words : Draft → List (List ℕ) → Result Draft Kind
after_words d [] = Ok d
after_words d (w ∷ ws) = known_words d (word_of w) ws

abbrev pub is_printable : ℕ → Bool
is_printable b = nat_le 32 b && nat_le b 126

-- empty lines and those that begin with '#' are skipped
abbrev pub is_passed_over : List ℕ → Bool
is_passed_over text = length text == 0 || slice_index text 0 == 35

abbrev pub has_stray_space : List ℕ → Bool
has_stray_space text = not (length text == 0) && list_any (λ word. length word == 0) (words_of text)

abbrev pub after_text : Draft → List ℕ → Result Draft Kind
after_text d text =
    if nat_lt 4096 (length text) then Err kind.Long
    else (if not (list_all is_printable text) then Err kind.Byte
    else (if has_stray_space text then Err kind.Space
    else (if is_passed_over text then Ok d
    else after_words d (words_of text))))

abbrev pub after_line : Draft → List ℕ → Result Draft Kind
after_line d line =
    if slice_index line (length line - 1) == 10 then after_text d (take (length line - 1) line) else Err kind.Cut

-- a scenario, or the number of the first broken line and its kind
pub data Reading : Type 0 where
  Whole : Scenario → Reading
  BrokenAt : ℕ → Kind → Reading

abbrev pub run_or_none : ℕ → Draft → List RunLine → Reading
run_or_none n d [] = BrokenAt n kind.NoRun
run_or_none n d (run ∷ runs) = Whole (record { settings = d.settings; scripts = d.scripts; runs = run ∷ runs })

-- after the last line, whose number is below n
abbrev pub ending : ℕ → Draft → Reading
ending n d = if is_some d.current then BrokenAt n kind.NoRun else run_or_none n d d.runs

abbrev pub reading_on : ℕ → Result Draft Kind → (Draft → Reading) → Reading
reading_on n (Ok d) rest = rest d
reading_on n (Err k) rest = BrokenAt n k

-- the lines from number n on
abbrev pub reading : ℕ → Draft → List (List ℕ) → Reading
reading n d [] = ending n d
reading n d (l ∷ ls) = reading_on n (after_line d l) (λ e. reading (n + 1) e ls)

abbrev pub scenario_of : List ℕ → Reading
scenario_of bytes = reading 1 blank (lines_of bytes)
