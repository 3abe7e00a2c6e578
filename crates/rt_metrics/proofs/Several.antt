-- Several children that are made at once.
use Rattle.rt_metrics.proofs.Prelude.{◌≡◌, ◌≤◌, ℕ, ◌+◌, ◌-◌, suc, true, false, List, [], ◌∷◌, Some, is_some, refl, sym, ap, ◌∙◌, inl, inr, arith, cases_Bool, nat_eq, lookup, set_value, set_value_same, remove_entry, is_eq, text_cmp, Kind, Sample, MetricState, RegistryState, with_child, with_first, with_children, numbered, with_firsts}
use Rattle.std.specs.BTreeMap as tree
use Rattle.rt_metrics.proofs.Lookups.{same_text, exact_texts, exact_numbers, cases_cmp, lookup_set}
use Rattle.rt_metrics.proofs.Maps.{set_value-set_value}

-- a text that was put in and is taken out again
pub taken_out : {X : Type 0} (k : List ℕ) (v : X) (es : List (List ℕ × X)) → is_some (lookup (same_text k) es) ≡ false → remove_entry (same_text k) (tree.insert_entry text_cmp es k v) ≡ es
taken_out k v [] none = rw (exact_texts.same k) refl
taken_out k v (e ∷ es) none = elim (cases_cmp (text_cmp k e.0)) [
  | inl o ↦ rw (o, exact_texts.same k) refl
  | inr (inl o) ↦
      let hit : same_text k e.0 ≡ true = ap is_eq o in
      let some : true ≡ false = rw hit at none in
      absurd (cc)
  | inr (inr o) ↦
      let miss : same_text k e.0 ≡ false = ap is_eq o in
      let rest : is_some (lookup (same_text k) es) ≡ false = rw miss at none in
      rw (o, miss) (ap (λ t. e ∷ t) (taken_out k v es rest))
]

from_next : (children : List (List ℕ × ℕ)) (next : ℕ) (ls : List (List ℕ)) → next ≤ (numbered children next ls).1
from_next children next [] = omega arith
from_next children next (l ∷ ls) = elim (cases_Bool (is_some (lookup (same_text l) children))) [
  | inl hit ↦ rw hit (from_next children next ls)
  | inr miss ↦ let low = from_next (tree.insert_entry text_cmp children l next) (next + 1) ls in rw miss (omega arith)
]

pub one_more : (kind : Kind) (values : List (ℕ × Sample)) (next end : ℕ) → next + 1 ≤ end → with_firsts kind values next (end - next) ≡ with_firsts kind (with_first kind values next) (next + 1) (end - (next + 1))
one_more kind values next end low =
    let left : end - next ≡ suc (end - (next + 1)) = omega arith in
    rw left refl

-- the registry with these children of a metric, and the values of those that are new
abbrev pub grown : Kind → ℕ → RegistryState → MetricState → List (List ℕ × ℕ) × ℕ → RegistryState
grown kind id r m p = record {
  families = r.families;
  metrics = set_value (nat_eq id) r.metrics (record m { children = p.0 });
  values = with_firsts kind r.values r.next (p.1 - r.next);
  next = p.1;
}

-- Making one child after the other grows the registry by all of them.

abbrev Grows : Kind → ℕ → List (List ℕ) → RegistryState → MetricState → Type 0
Grows kind id ls r m = lookup (nat_eq id) r.metrics ≡ Some m → with_children r id ls kind ≡ grown kind id r m (numbered m.children r.next ls)

abbrev Grow : Kind → ℕ → List (List ℕ) → Type 0
Grow kind id ls = (r : RegistryState) (m : MetricState) → Grows kind id ls r m

grows_there : (kind : Kind) (id : ℕ) (l : List ℕ) (ls : List (List ℕ)) → Grow kind id ls → (r : RegistryState) (m : MetricState) → is_some (lookup (same_text l) m.children) ≡ true → Grows kind id (l ∷ ls) r m
grows_there kind id l ls rest r m hit is =
    let same : with_child r id l kind ≡ r = rw (is, hit) refl in
    let fewer : numbered m.children r.next (l ∷ ls) ≡ numbered m.children r.next ls = rw hit refl in
    rw (same, fewer) (rest r m is)

grows_by : (kind : Kind) (id : ℕ) (l : List ℕ) (ls : List (List ℕ)) → Grow kind id ls → (r : RegistryState) (m : MetricState) → is_some (lookup (same_text l) m.children) ≡ false → Grows kind id (l ∷ ls) r m
grows_by kind id l ls rest r m miss is =
    let children = tree.insert_entry text_cmp m.children l r.next in
    let grew : MetricState = record m { children = children } in
    let made : RegistryState = record { families = r.families; metrics = set_value (nat_eq id) r.metrics grew; values = with_first kind r.values r.next; next = r.next + 1 } in
    let first : with_child r id l kind ≡ made = rw (is, miss) refl in
    let there : is_some (lookup (nat_eq id) r.metrics) ≡ true = rw is refl in
    let found : lookup (nat_eq id) made.metrics ≡ Some grew = rw (lookup_set exact_numbers id id grew r.metrics there, exact_numbers.same id) refl in
    let more : numbered m.children r.next (l ∷ ls) ≡ numbered children (r.next + 1) ls = rw miss refl in
    let p = numbered children (r.next + 1) ls in
    let written : set_value (nat_eq id) made.metrics (record m { children = p.0 }) ≡ set_value (nat_eq id) r.metrics (record m { children = p.0 }) = set_value-set_value (nat_eq id) r.metrics grew (record m { children = p.0 }) in
    let valued = one_more kind r.values r.next p.1 (from_next children (r.next + 1) ls) in
    let end : grown kind id made grew p ≡ grown kind id r m p = rw (written, valued) refl in
    rw (first, more) (rest made grew found ∙ end)

all_made : (kind : Kind) (id : ℕ) (ls : List (List ℕ)) → Grow kind id ls
all_made kind id [] r m is =
    let same : set_value (nat_eq id) r.metrics m ≡ r.metrics = set_value_same (nat_eq id) r.metrics m is in
    let none : r.next - r.next ≡ 0 = omega arith in
    rw (same, none) refl
all_made kind id (l ∷ ls) r m is = elim (cases_Bool (is_some (lookup (same_text l) m.children))) [
  | inl hit ↦ grows_there kind id l ls (all_made kind id ls) r m hit is
  | inr miss ↦ grows_by kind id l ls (all_made kind id ls) r m miss is
]

pub made_at_once : (kind : Kind) (id : ℕ) (ls : List (List ℕ)) (r : RegistryState) (m : MetricState) (p : List (List ℕ × ℕ) × ℕ) → lookup (nat_eq id) r.metrics ≡ Some m → numbered m.children r.next ls ≡ p → grown kind id r m p ≡ with_children r id ls kind
made_at_once kind id ls r m p is numbers = rw (← numbers) (sym (all_made kind id ls r m is))
