-- Which names a registry has: those of its metrics, each of which is claimed.
use Rattle.std.specs.Prelude.{◌≡◌, ℕ, ◌<◌, Bool, ◌&&◌, nat_eq, if◌then◌else◌, List, Option, Some}
use Rattle.std.specs.BTreeMap.{is_at}
use Rattle.rt_base.specs.Attributes.{text_cmp}
use Rattle.std.specs.Map.{lookup}
use Rattle.rt_metrics.specs.Registry.{Pairs, same_pairs, FamilyState, MetricState, RegistryState, member_in}

-- the metric of this number has this name and these attributes
abbrev pub IsMetricOf : List (ℕ × MetricState) → ℕ → List ℕ → Pairs → Type 0
IsMetricOf metrics id name attributes =
    (m : MetricState) × (lookup (nat_eq id) metrics ≡ Some m) × (m.name ≡ name) × (m.attributes ≡ attributes)

-- each name with attributes leads to the metric that has them, and each metric is found by them and has a claim; no
-- metric has the next number
pub record Agree (families : List (List ℕ × FamilyState)) (metrics : List (ℕ × MetricState)) (next : ℕ) : Type 0 where
  pub leads : (id : ℕ) (name : List ℕ) (attributes : Pairs) → member_in families name attributes ≡ Some id → IsMetricOf metrics id name attributes
  pub found : (id : ℕ) (m : MetricState) → lookup (nat_eq id) metrics ≡ Some m → member_in families m.name m.attributes ≡ Some id
  pub claimed : (id : ℕ) (m : MetricState) → lookup (nat_eq id) metrics ≡ Some m → 0 < m.claims
  pub below : (id : ℕ) (m : MetricState) → lookup (nat_eq id) metrics ≡ Some m → id < next

abbrev pub IsCoherent : RegistryState → Type 0
IsCoherent r = Agree r.families r.metrics r.next

-- the two names are the same, and the two lists of attributes
abbrev pub is_key : List ℕ → Pairs → List ℕ → Pairs → Bool
is_key name attributes n a = is_at (text_cmp name) n && same_pairs attributes a

-- what the families say of one name with its attributes has changed
abbrev pub ChangesOne : List (List ℕ × FamilyState) → List (List ℕ × FamilyState) → List ℕ → Pairs → Option ℕ → Type 0
ChangesOne old new name attributes number =
    (n : List ℕ) (a : Pairs) → member_in new n a ≡ (if is_key name attributes n a then number else member_in old n a)
