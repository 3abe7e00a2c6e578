-- What a script holds, by places.
use Rattle.std.specs.Prelude.{ℕ, zero, suc, ◌+◌, ◌-◌, List, [], ◌∷◌, Option, slice_get, slice_index, slice_index_or}
use Rattle.rt_scenario.specs.declared.line.Line.{Line}
use Rattle.rt_scenario.specs.declared.scenario.ScriptText.{ScriptText}

abbrev pub line_at : ScriptText → ℕ → Option Line
line_at text place = slice_get text.lines place

abbrev pub name_at : ScriptText → ℕ → List ℕ
name_at text handle = slice_index_or text.handles handle []

abbrev pub word_at : ScriptText → ℕ → List ℕ
word_at text at = slice_index_or text.words at []

abbrev pub choice_at : ScriptText → ℕ → ℕ
choice_at text at = slice_index text.choices at

-- so many from a place on, and those before another place
abbrev pub some_choices : ScriptText → ℕ → ℕ → List ℕ
some_choices text first zero = []
some_choices text first (suc count) = choice_at text first ∷ some_choices text (first + 1) count

abbrev pub choices_in : ScriptText → ℕ → ℕ → List ℕ
choices_in text first past = some_choices text first (past - first)
