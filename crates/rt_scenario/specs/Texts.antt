-- Scripts by their places, and the lines of each apart from what else it has.
use Rattle.std.specs.Global.{Global}
use Rattle.std.specs.Prelude.{ℕ, List, [], ◌∷◌, Box, Option, Some, None, slice_index_or}
use Rattle.rt_scenario.specs.declared.line.Line.{Line}
use Rattle.rt_scenario.specs.declared.scenario.ScriptText.{ScriptText}
use Rattle.rt_scenario.specs.declared.script_texts.More.{More}
use Rattle.rt_scenario.specs.declared.script_texts.Parts.{Parts}

-- a place without a script has one without lines
abbrev pub no_text : ScriptText
no_text = record { name = []; lines = []; handles = []; words = []; choices = [] }

abbrev pub text_at : List ScriptText → ℕ → ScriptText
text_at scripts at = slice_index_or scripts at no_text

abbrev pub handles_in : Option (Box More Global) → List (List ℕ)
handles_in None = []
handles_in (Some more) = more.value.handles

abbrev pub panic_words_in : Option (Box More Global) → List (List ℕ)
panic_words_in None = []
panic_words_in (Some more) = more.value.words

abbrev pub choices_in : Option (Box More Global) → List ℕ
choices_in None = []
choices_in (Some more) = more.value.choices

abbrev pub whole : Parts → List Line → ScriptText
whole parts lines = record { name = parts.name; lines = lines; handles = handles_in parts.more; words = panic_words_in parts.more; choices = choices_in parts.more }

-- each script with the lines at its place
abbrev pub wholes : List Parts → List (List Line) → List ScriptText
wholes [] lines = []
wholes (p ∷ parts) [] = whole p [] ∷ wholes parts []
wholes (p ∷ parts) (own ∷ lines) = whole p own ∷ wholes parts lines
