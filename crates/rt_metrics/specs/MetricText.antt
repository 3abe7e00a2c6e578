-- The text of a registry, in the form of OpenMetrics without units. Names and helps stand in it as they are.
use Rattle.std.specs.Prelude.{ℕ, ◌==◌, if◌then◌else◌, List, [], ◌∷◌, ◌++◌, codes}
use Rattle.std.specs.List.{flat_map}
use Rattle.std.specs.Option.{option_map_or}
use Rattle.std.specs.Fmt.{decimal, signed_decimal}
use Rattle.rt_metrics.specs.declared.kind.Kind.{Kind}
use Rattle.rt_metrics.specs.declared.kind.Kind.TheVariants.{Counter, Gauge, CounterFamily, GaugeFamily}
use Rattle.rt_metrics.specs.declared.sample.Sample.{Sample}
use Rattle.rt_metrics.specs.declared.sample.Sample.TheVariants.{Count, Level}
use Rattle.rt_metrics.specs.Registry.{Pairs, RegistryState, FamilyState, metric_of, value_of}

abbrev pub kind_word : Kind → List ℕ
kind_word Counter = codes "counter"
kind_word Gauge = codes "gauge"
kind_word CounterFamily = codes "counter"
kind_word GaugeFamily = codes "gauge"

abbrev pub kind_suffix : Kind → List ℕ
kind_suffix Counter = codes "_total"
kind_suffix Gauge = []
kind_suffix CounterFamily = codes "_total"
kind_suffix GaugeFamily = []

-- a backslash, a quote and a newline are written with a backslash
abbrev pub escape : ℕ → List ℕ
escape b = if b == 92 then 92 ∷ 92 ∷ [] else if b == 34 then 92 ∷ 34 ∷ [] else if b == 10 then 92 ∷ 110 ∷ [] else b ∷ []

abbrev pub escaped : List ℕ → List ℕ
escaped bs = flat_map escape bs

-- key="value"
abbrev pub label_text : List ℕ → List ℕ → List ℕ
label_text key value = key ++ codes "=\"" ++ escaped value ++ codes "\""

abbrev pub more_labels : Pairs → List ℕ
more_labels [] = []
more_labels (p ∷ ps) = codes "," ++ label_text p.0 p.1 ++ more_labels ps

-- labels, joined by commas
abbrev pub labels_text : Pairs → List ℕ
labels_text [] = []
labels_text (p ∷ ps) = label_text p.0 p.1 ++ more_labels ps

-- the attributes, and then the text of the labels of a child, in braces where there are any
abbrev pub in_braces : Pairs → List ℕ → List ℕ
in_braces [] [] = []
in_braces [] (b ∷ bs) = codes "{" ++ (b ∷ bs) ++ codes "}"
in_braces (p ∷ ps) [] = codes "{" ++ labels_text (p ∷ ps) ++ codes "}"
in_braces (p ∷ ps) (b ∷ bs) = codes "{" ++ labels_text (p ∷ ps) ++ codes "," ++ (b ∷ bs) ++ codes "}"

abbrev pub sample_text : Sample → List ℕ
sample_text (Count n) = decimal n
sample_text (Level z) = signed_decimal z

-- the name of a metric and of its samples
abbrev pub sample_name : List ℕ → Kind → List ℕ
sample_name name kind = name ++ kind_suffix kind

abbrev pub sample_line : List ℕ → Pairs → List ℕ → Sample → List ℕ
sample_line name attributes labels value = name ++ in_braces attributes labels ++ codes " " ++ sample_text value ++ codes "\n"

-- the line of a sample, where there is one of this number
abbrev pub line_of : RegistryState → List ℕ → Pairs → List ℕ → ℕ → List ℕ
line_of r name attributes labels id = option_map_or (sample_line name attributes labels) (value_of r id) []

-- the lines of the children, by the text of their labels
abbrev pub children_lines : RegistryState → List ℕ → Pairs → List (List ℕ × ℕ) → List ℕ
children_lines r name attributes children = flat_map (λ c. line_of r name attributes c.0 c.1) children

-- the lines of a metric: its own sample, and those of its children
abbrev pub metric_lines : RegistryState → List ℕ → ℕ → List ℕ
metric_lines r name id =
    option_map_or (λ m. line_of r name m.attributes [] id ++ children_lines r name m.attributes m.children) (metric_of r id) []

abbrev pub header : List ℕ → FamilyState → List ℕ
header name f =
    codes "# HELP " ++ name ++ codes " " ++ f.help ++ codes ".\n"
    ++ codes "# TYPE " ++ name ++ codes " " ++ kind_word f.kind ++ codes "\n"

-- the lines under their header; without a line there is none
abbrev pub headed : List ℕ → List ℕ → List ℕ
headed head [] = []
headed head (b ∷ bs) = head ++ (b ∷ bs)

abbrev pub members_lines : RegistryState → List ℕ → List (Pairs × ℕ) → List ℕ
members_lines r name members = flat_map (λ e. metric_lines r name e.1) members

abbrev pub family_text : RegistryState → List ℕ → FamilyState → List ℕ
family_text r name f = headed (header name f) (members_lines r (sample_name name f.kind) f.members)

abbrev pub families_text : RegistryState → List (List ℕ × FamilyState) → List ℕ
families_text r families = flat_map (λ e. family_text r e.0 e.1) families

-- the families by name, and the end
abbrev pub registry_text : RegistryState → List ℕ
registry_text r = families_text r r.families ++ codes "# EOF\n"
