-- The registry: its metrics by their numbers, which numbers each name has, and the value of each sample.
use Rattle.std.specs.Prelude.{◌≡◌, ℕ, ◌+◌, ◌-◌, ◌^◌, ◌%◌, ℤ, pos, ◌+ℤ◌, ◌-ℤ◌, Bool, true, false, not, ◌&&◌, nat_eq, nat_le, if◌then◌else◌, List, [], ◌∷◌, Option, Some, None, is_some, option_map, Result, Ok, Err}
use Rattle.std.specs.List.{fold}
use Rattle.std.specs.Option.{option_map_or, unwrap_or}
use Rattle.std.specs.Int.{int_wrap, int_max, w64}
use Rattle.std.specs.Map.{lookup, set_value, remove_entry, values_of}
use Rattle.std.specs.BTreeMap.{is_at}
use Rattle.std.specs.BTreeMap as tree
use Rattle.std.specs.Cmp.Lexicographic.{pointwise}
use Rattle.indexmap.specs.IndexMap as ordered
use Rattle.rt_base.specs.Attributes.{text_cmp}
use Rattle.rt_base.specs.Label.{is_label, prefixed}
use Rattle.rt_base.specs.declared.metric_error.MetricError.{MetricError}
use Rattle.rt_base.specs.declared.metric_error.MetricError.TheVariants.{BadLabel, OtherHelp, OtherType}
use Rattle.rt_base.specs.InMemory.{counted_up}
use Rattle.rt_metrics.specs.declared.kind.Kind.{Kind}
use Rattle.rt_metrics.specs.declared.kind.Kind.TheVariants.{Counter, Gauge, CounterFamily, GaugeFamily}
use Rattle.rt_metrics.specs.declared.sample.Sample.{Sample}
use Rattle.rt_metrics.specs.declared.sample.Sample.TheVariants.{Count, Level}

-- attributes: keys and values
abbrev pub Pairs : Type 0
Pairs = List (List ℕ × List ℕ)

abbrev pub same_pairs : Pairs → Pairs → Bool
same_pairs = pointwise (λ p q. pointwise nat_eq p.0 q.0 && pointwise nat_eq p.1 q.1)

-- the metrics of one name: their help, their kind, and the number of each by its attributes, in the order of the text
pub record FamilyState : Type 0 where
  pub help : List ℕ
  pub kind : Kind
  pub members : List (Pairs × ℕ)

-- a metric: its key, how often it is claimed, and the numbers of its children by the text of their labels
pub record MetricState : Type 0 where
  pub name : List ℕ
  pub attributes : Pairs
  pub claims : ℕ
  pub children : List (List ℕ × ℕ)

-- the families by name, in byte order; the metrics by number; the value of each counter and gauge, a child or not, by
-- number; and the next number
pub record RegistryState : Type 0 where
  pub families : List (List ℕ × FamilyState)
  pub metrics : List (ℕ × MetricState)
  pub values : List (ℕ × Sample)
  pub next : ℕ

abbrev pub first_registry : RegistryState
first_registry = record { families = []; metrics = []; values = []; next = 0 }

-- what is there

abbrev pub family_of : RegistryState → List ℕ → Option FamilyState
family_of r name = lookup (is_at (text_cmp name)) r.families

abbrev pub metric_of : RegistryState → ℕ → Option MetricState
metric_of r id = lookup (nat_eq id) r.metrics

abbrev pub value_of : RegistryState → ℕ → Option Sample
value_of r id = lookup (nat_eq id) r.values

abbrev pub is_held : RegistryState → ℕ → Bool
is_held r id = is_some (metric_of r id)

abbrev pub claims_of : RegistryState → ℕ → ℕ
claims_of r id = option_map_or (λ m. m.claims) (metric_of r id) 0

-- the number of the metric with this name and these attributes
abbrev pub member_in : List (List ℕ × FamilyState) → List ℕ → Pairs → Option ℕ
member_in families name attributes = option_map_or (λ f. lookup (same_pairs attributes) f.members) (lookup (is_at (text_cmp name)) families) None

abbrev pub member_of : RegistryState → List ℕ → Pairs → Option ℕ
member_of r name attributes = member_in r.families name attributes

-- values

abbrev pub first_sample : Kind → Option Sample
first_sample Counter = Some (Count 0)
first_sample Gauge = Some (Level (pos 0))
first_sample CounterFamily = None
first_sample GaugeFamily = None

-- the values with the first of a kind, if it has one
abbrev pub with_first : Kind → List (ℕ × Sample) → ℕ → List (ℕ × Sample)
with_first kind values id = option_map_or (ordered.insert_entry nat_eq values id) (first_sample kind) values

abbrev pub number_in : Sample → ℤ
number_in (Count n) = pos n
number_in (Level z) = z

abbrev pub count_in : Sample → ℕ
count_in (Count n) = n
count_in (Level z) = 0

abbrev pub level_in : Sample → ℤ
level_in (Count n) = pos 0
level_in (Level z) = z

abbrev pub with_count : ℕ → Sample → Sample
with_count change (Count n) = Count ((n + change) % 2 ^ 64)
with_count change (Level z) = Level z

abbrev pub with_level : ℤ → Sample → Sample
with_level change (Count n) = Count n
with_level change (Level z) = Level (int_wrap w64 (z +ℤ change))

abbrev pub with_less : ℤ → Sample → Sample
with_less change (Count n) = Count n
with_less change (Level z) = Level (int_wrap w64 (z -ℤ change))

abbrev pub with_level_at : ℤ → Sample → Sample
with_level_at value (Count n) = Count n
with_level_at value (Level z) = Level value

abbrev pub count_of : RegistryState → ℕ → ℕ
count_of r id = option_map_or count_in (value_of r id) 0

abbrev pub level_of : RegistryState → ℕ → ℤ
level_of r id = option_map_or level_in (value_of r id) (pos 0)

-- the registry with this value changed, where it is there
abbrev pub changed : (Sample → Sample) → RegistryState → ℕ → RegistryState
changed change r id = record r {
  values = option_map_or (λ v. set_value (nat_eq id) r.values (change v)) (value_of r id) r.values;
}

abbrev pub counted : RegistryState → ℕ → ℕ → RegistryState
counted r id change = changed (with_count change) r id

abbrev pub levelled : RegistryState → ℕ → ℤ → RegistryState
levelled r id change = changed (with_level change) r id

abbrev pub lowered : RegistryState → ℕ → ℤ → RegistryState
lowered r id change = changed (with_less change) r id

abbrev pub levelled_at : RegistryState → ℕ → ℤ → RegistryState
levelled_at r id value = changed (with_level_at value) r id

-- a gauge is set to a converted value, and its value before is returned; the conversion's error is handed on
abbrev pub Sets : {E : Type 0} → RegistryState → ℕ → Result ℤ E → Result ℤ E → RegistryState → Type 0
Sets old id (Ok value) result new = (result ≡ Ok (level_of old id)) × (new ≡ levelled_at old id value)
Sets old id (Err e) result new = (result ≡ Err e) × (new ≡ old)

-- the same, raised to at least the value
abbrev pub SetsMax : {E : Type 0} → RegistryState → ℕ → Result ℤ E → Result ℤ E → RegistryState → Type 0
SetsMax old id (Ok value) result new = (result ≡ Ok (level_of old id)) × (new ≡ levelled_at old id (int_max value (level_of old id)))
SetsMax old id (Err e) result new = (result ≡ Err e) × (new ≡ old)

-- claims

-- the registry with this metric changed, where it is there
abbrev pub altered : (MetricState → MetricState) → RegistryState → ℕ → RegistryState
altered change r id = record r {
  metrics = option_map_or (λ m. set_value (nat_eq id) r.metrics (change m)) (metric_of r id) r.metrics;
}

-- one claim more; a count that has reached the end of a u64 stays there
abbrev pub claimed : RegistryState → ℕ → RegistryState
claimed r id = altered (λ m. record m { claims = counted_up m.claims }) r id

-- why a registration is refused: the name isn't a label, or it is there with another help or as another kind

abbrev pub same_kind : Kind → Kind → Bool
same_kind Counter Counter = true
same_kind Gauge Gauge = true
same_kind CounterFamily CounterFamily = true
same_kind GaugeFamily GaugeFamily = true
same_kind _ _ = false

abbrev pub own_refusal : FamilyState → List ℕ → Kind → Option MetricError
own_refusal f help kind =
    if not (pointwise nat_eq f.help help) then Some OtherHelp
    else if not (same_kind f.kind kind) then Some OtherType
    else None

abbrev pub family_refusal : Option FamilyState → List ℕ → Kind → Option MetricError
family_refusal None help kind = None
family_refusal (Some f) help kind = own_refusal f help kind

abbrev pub refusal : RegistryState → List ℕ → List ℕ → Kind → Option MetricError
refusal r name help kind = if is_label name then family_refusal (family_of r name) help kind else Some BadLabel

abbrev pub scoped_refusal : RegistryState → List ℕ → List ℕ → List ℕ → Kind → Option MetricError
scoped_refusal r prefix name help kind = if is_label name then refusal r (prefixed prefix name) help kind else Some BadLabel

abbrev pub fresh_metric : List ℕ → Pairs → MetricState
fresh_metric name attributes = record { name = name; attributes = attributes; claims = 1; children = [] }

-- the families with this metric in the family of its name, which is new where nothing has the name
abbrev pub with_member : List (List ℕ × FamilyState) → List ℕ → List ℕ → Kind → Pairs → ℕ → List (List ℕ × FamilyState)
with_member families name help kind attributes id =
    elim (lookup (is_at (text_cmp name)) families) [
      | None ↦ tree.insert_entry text_cmp families name (record { help = help; kind = kind; members = (attributes, id) ∷ [] })
      | Some f ↦ set_value (is_at (text_cmp name)) families (record f { members = ordered.insert_entry same_pairs f.members attributes id })
    ]

-- a new metric, of the next number, with one claim
abbrev pub registered : RegistryState → List ℕ → List ℕ → Kind → Pairs → RegistryState
registered r name help kind attributes = record {
  families = with_member r.families name help kind attributes r.next;
  metrics = ordered.insert_entry nat_eq r.metrics r.next (fresh_metric name attributes);
  values = with_first kind r.values r.next;
  next = r.next + 1;
}

-- what registering returns and leaves: one claim more on the metric that is there, or a new metric

abbrev pub claim_number : RegistryState → List ℕ → Pairs → ℕ
claim_number r name attributes = unwrap_or (member_of r name attributes) r.next

abbrev pub with_claim : RegistryState → List ℕ → List ℕ → Kind → Pairs → RegistryState
with_claim r name help kind attributes =
    elim (member_of r name attributes) [
      | None ↦ registered r name help kind attributes
      | Some id ↦ claimed r id
    ]

-- the families without this metric; the last of its name takes its place, and a name goes with its last metric
abbrev pub remaining : List (List ℕ × FamilyState) → List ℕ → FamilyState → List (Pairs × ℕ) → List (List ℕ × FamilyState)
remaining families name f [] = remove_entry (is_at (text_cmp name)) families
remaining families name f (e ∷ es) = set_value (is_at (text_cmp name)) families (record f { members = e ∷ es })

abbrev pub without_member : List (List ℕ × FamilyState) → List ℕ → Pairs → List (List ℕ × FamilyState)
without_member families name attributes =
    elim (lookup (is_at (text_cmp name)) families) [
      | None ↦ families
      | Some f ↦ remaining families name f (ordered.swap_remove_entry (same_pairs attributes) f.members)
    ]

abbrev pub without_value : List (ℕ × Sample) → ℕ → List (ℕ × Sample)
without_value values id = ordered.swap_remove_entry (nat_eq id) values

-- the registry without a metric and its children
abbrev pub without : RegistryState → ℕ → MetricState → RegistryState
without r id m = record {
  families = without_member r.families m.name m.attributes;
  metrics = ordered.swap_remove_entry (nat_eq id) r.metrics;
  values = fold without_value (without_value r.values id) (values_of m.children);
  next = r.next;
}

-- one claim less; a metric goes with its last claim
abbrev pub released : RegistryState → ℕ → RegistryState
released r id =
    elim (metric_of r id) [
      | None ↦ r
      | Some m ↦ if nat_le m.claims 1 then without r id m else altered (λ m. record m { claims = m.claims - 1 }) r id
    ]

-- children of a family

-- the number of the child with these labels
abbrev pub child_of : RegistryState → ℕ → List ℕ → Option ℕ
child_of r id labels = option_map_or (λ m. lookup (is_at (text_cmp labels)) m.children) (metric_of r id) None

abbrev pub has_child : RegistryState → ℕ → List ℕ → Bool
has_child r id labels = is_some (child_of r id labels)

abbrev pub child_number : RegistryState → ℕ → List ℕ → Option ℤ
child_number r id labels = option_map_or (λ child. option_map number_in (value_of r child)) (child_of r id labels) None

-- the registry with a child of these labels: a new one has the next number
abbrev pub with_child : RegistryState → ℕ → List ℕ → Kind → RegistryState
with_child r id labels kind =
    if has_child r id labels then r
    else record (altered (λ m. record m { children = tree.insert_entry text_cmp m.children labels r.next }) r id) {
      values = with_first kind r.values r.next;
      next = r.next + 1;
    }

abbrev pub without_child : RegistryState → ℕ → List ℕ → RegistryState
without_child r id labels =
    elim (child_of r id labels) [
      | None ↦ r
      | Some child ↦ record (altered (λ m. record m { children = remove_entry (is_at (text_cmp labels)) m.children }) r id) {
        values = without_value r.values child;
      }
    ]
