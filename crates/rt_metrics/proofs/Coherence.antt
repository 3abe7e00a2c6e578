-- What keeps a registry coherent.
use Rattle.rt_metrics.proofs.Prelude.{◌≡◌, ◌↔◌, ℕ, ◌+◌, ◌<◌, ◌≤◌, Bool, true, false, cond, ◌&&◌, List, [], ◌∷◌, Option, Some, None, is_some, refl, sym, ap, ◌∙◌, ◌⊎◌, inl, inr, arith, cases_Bool, and_parts, and_from, both_ways, nat_eq, lookup, set_value, option_map_or, text_cmp, Kind, Pairs, same_pairs, FamilyState, MetricState, member_in, with_member, fresh_metric, Agree, IsMetricOf, is_key, ChangesOne}
use Rattle.std.specs.BTreeMap as tree
use Rattle.indexmap.specs.IndexMap as ordered
use Rattle.rt_metrics.proofs.Lookups.{exact_texts, exact_numbers, exact_pairs, same_text, lookup_set, lookup_push, lookup_put}

key_same : (name : List ℕ) (attributes : Pairs) → is_key name attributes name attributes ≡ true
key_same name attributes = and_from _ _ (exact_texts.same name) (exact_pairs.same attributes)

key_at : (name n : List ℕ) (attributes a : Pairs) → name ≡ n → attributes ≡ a → is_key name attributes n a ≡ true
key_at name n attributes a e f = rw (e, f) (key_same n a)

key_exact : (name : List ℕ) (attributes : Pairs) (n : List ℕ) (a : Pairs) → is_key name attributes n a ≡ true → (name ≡ n) × (attributes ≡ a)
key_exact name attributes n a hit =
    let both = and_parts (same_text name n) (same_pairs attributes a) hit in
    (exact_texts.exact name n both.0, exact_pairs.exact attributes a both.1)

-- what a family that may be there says of attributes
abbrev in_family : Option FamilyState → Pairs → Option ℕ
in_family family a = option_map_or (λ f. lookup (same_pairs a) f.members) family None

Families : Type 0
Families = List (List ℕ × FamilyState)

-- Where a metric was put into its family, what it says of other names and attributes is as before.

made_in : (here there : Bool) (family : Option FamilyState) (fresh : FamilyState) (a : Pairs) (id : ℕ) → (here ≡ true → family ≡ None) → in_family (Some fresh) a ≡ cond there (Some id) None → in_family (cond here (Some fresh) family) a ≡ cond (here && there) (Some id) (in_family family a)
made_in true there family fresh a id none e = rw (none refl) e
made_in false there family fresh a id none e = refl

put_in : (here there : Bool) (family : Option FamilyState) (f new : FamilyState) (a : Pairs) (number : Option ℕ) → (here ≡ true → family ≡ Some f) → in_family (Some new) a ≡ cond there number (in_family (Some f) a) → in_family (cond here (Some new) family) a ≡ cond (here && there) number (in_family family a)
put_in true there family f new a number is e = rw (is refl) e
put_in false there family f new a number is e = refl

joined_none : (families : List (List ℕ × FamilyState)) (name help : List ℕ) (kind : Kind) (attributes : Pairs) (id : ℕ) → lookup (same_text name) families ≡ None → ChangesOne families (with_member families name help kind attributes id) name attributes (Some id)
joined_none families name help kind attributes id none n a =
    let fresh : FamilyState = record { help = help; kind = kind; members = (attributes, id) ∷ [] } in
    let found = lookup_put n name fresh families in
    let is : same_text name n ≡ true → lookup (same_text n) families ≡ None = λ hit. rw (← (exact_texts.exact name n hit)) none in
    let own : in_family (Some fresh) a ≡ cond (same_pairs attributes a) (Some id) None = lookup_push exact_pairs a attributes id [] in
    let made : with_member families name help kind attributes id ≡ tree.insert_entry text_cmp families name fresh = rw (none, with_member) refl in
    rw (made, found) (made_in (same_text name n) (same_pairs attributes a) (lookup (same_text n) families) fresh a id is own)

joined_some : (families : List (List ℕ × FamilyState)) (name help : List ℕ) (kind : Kind) (attributes : Pairs) (id : ℕ) (f : FamilyState) → lookup (same_text name) families ≡ Some f → ChangesOne families (with_member families name help kind attributes id) name attributes (Some id)
joined_some families name help kind attributes id f some n a =
    let new : FamilyState = record f { members = ordered.insert_entry same_pairs f.members attributes id } in
    let there : is_some (lookup (same_text name) families) ≡ true = rw some refl in
    let found = lookup_set exact_texts n name new families there in
    let is : same_text name n ≡ true → lookup (same_text n) families ≡ Some f = λ hit. rw (← (exact_texts.exact name n hit)) some in
    let own : in_family (Some new) a ≡ cond (same_pairs attributes a) (Some id) (in_family (Some f) a) = lookup_push exact_pairs a attributes id f.members in
    let put : with_member families name help kind attributes id ≡ set_value (same_text name) families new = rw (some, with_member) refl in
    rw (put, found) (put_in (same_text name n) (same_pairs attributes a) (lookup (same_text n) families) f new a (Some id) is own)

cases_Option : {X : Type 0} (o : Option X) → (o ≡ None) ⊎ ((x : X) × (o ≡ Some x))
cases_Option None = inl refl
cases_Option (Some x) = inr (x, refl)

pub joined : (families : List (List ℕ × FamilyState)) (name help : List ℕ) (kind : Kind) (attributes : Pairs) (id : ℕ) → ChangesOne families (with_member families name help kind attributes id) name attributes (Some id)
joined families name help kind attributes id = elim (cases_Option (lookup (same_text name) families)) [
  | inl none ↦ joined_none families name help kind attributes id none
  | inr (f, some) ↦ joined_some families name help kind attributes id f some
]

-- What is known of the metrics and the families after one of them changed.

abbrev pub ChangesMetric : List (ℕ × MetricState) → List (ℕ × MetricState) → ℕ → Option MetricState → Type 0
ChangesMetric old new id m = (q : ℕ) → lookup (nat_eq q) new ≡ cond (nat_eq id q) m (lookup (nat_eq q) old)

chosen : {X : Type 0} (b : Bool) (x y z : X) → z ≡ cond b x y → b ≡ true → z ≡ x
chosen true x y z e hit = e
chosen false x y z e hit = absurd (both_ways false refl hit)

passed_by : {X : Type 0} (b : Bool) (x y z : X) → z ≡ cond b x y → b ≡ false → z ≡ y
passed_by true x y z e miss = absurd (both_ways true miss refl)
passed_by false x y z e miss = e

module _ (old new : List (List ℕ × FamilyState)) (name : List ℕ) (attributes : Pairs) (number : Option ℕ) (change : ChangesOne old new name attributes number) where
  key_here : (n : List ℕ) (a : Pairs) → is_key name attributes n a ≡ true → member_in new n a ≡ number
  key_here n a hit = chosen (is_key name attributes n a) number (member_in old n a) (member_in new n a) (change n a) hit

  key_apart : (n : List ℕ) (a : Pairs) → is_key name attributes n a ≡ false → member_in new n a ≡ member_in old n a
  key_apart n a miss = passed_by (is_key name attributes n a) number (member_in old n a) (member_in new n a) (change n a) miss

module _ (old new : List (ℕ × MetricState)) (id : ℕ) (w : Option MetricState) (change : ChangesMetric old new id w) where
  metric_here : (q : ℕ) → nat_eq id q ≡ true → lookup (nat_eq q) new ≡ w
  metric_here q hit = chosen (nat_eq id q) w (lookup (nat_eq q) old) (lookup (nat_eq q) new) (change q) hit

  metric_apart : (q : ℕ) → nat_eq id q ≡ false → lookup (nat_eq q) new ≡ lookup (nat_eq q) old
  metric_apart q miss = passed_by (nat_eq id q) w (lookup (nat_eq q) old) (lookup (nat_eq q) new) (change q) miss

apart_from : (id q : ℕ) → (id ≡ q → ⊥) → nat_eq id q ≡ false
apart_from id q apart = elim (cases_Bool (nat_eq id q)) [ inl hit ↦ absurd (apart (exact_numbers.exact id q hit)) | inr miss ↦ miss ]

-- A metric that was put in: it has the next number and a key that nothing had.

module _ (families grown : List (List ℕ × FamilyState)) (metrics more : List (ℕ × MetricState)) (next : ℕ) (name : List ℕ) (attributes : Pairs)
    (agree : Agree families metrics next) (none : member_in families name attributes ≡ None)
    (change : ChangesOne families grown name attributes (Some next)) (put : ChangesMetric metrics more next (Some (fresh_metric name attributes))) where
  added_leads : (id : ℕ) (n : List ℕ) (a : Pairs) → member_in grown n a ≡ Some id → IsMetricOf more id n a
  added_leads id n a e = elim (cases_Bool (is_key name attributes n a)) [
    | inl hit ↦
        let key = key_exact name attributes n a hit in
        let is : next ≡ id = cc (key_here families grown name attributes (Some next) change n a hit) in
        (fresh_metric name attributes, metric_here metrics more next (Some (fresh_metric name attributes)) put id (rw is (exact_numbers.same id)), key.0, key.1)
    | inr miss ↦
        let m = agree.leads id n a (sym (key_apart families grown name attributes (Some next) change n a miss) ∙ e) in
        let low : id < next = agree.below id m.0 m.1 in
        (m.0, metric_apart metrics more next (Some (fresh_metric name attributes)) put id (apart_from next id (λ is. omega arith)) ∙ m.1, m.2, m.3)
  ]

  added_is : (id : ℕ) (m : MetricState) → lookup (nat_eq id) more ≡ Some m → ((id ≡ next) × (m ≡ fresh_metric name attributes)) ⊎ (lookup (nat_eq id) metrics ≡ Some m)
  added_is id m e = elim (cases_Bool (nat_eq next id)) [
    | inl hit ↦
        let here = metric_here metrics more next (Some (fresh_metric name attributes)) put id hit in
        let is : m ≡ fresh_metric name attributes = cc in
        inl (sym (exact_numbers.exact next id hit), is)
    | inr miss ↦ inr (sym (metric_apart metrics more next (Some (fresh_metric name attributes)) put id miss) ∙ e)
  ]

  added_found : (id : ℕ) (m : MetricState) → lookup (nat_eq id) more ≡ Some m → member_in grown m.name m.attributes ≡ Some id
  added_found id m e = elim (added_is id m e) [
    | inl (first, second) ↦ rw (first, second) (key_here families grown name attributes (Some next) change name attributes (key_same name attributes))
    | inr before ↦
        let found = agree.found id m before in
        elim (cases_Bool (is_key name attributes m.name m.attributes)) [
          | inl hit ↦
              let key = key_exact name attributes m.name m.attributes hit in
              let lacks : member_in families m.name m.attributes ≡ None = rw (← key.0, ← key.1) none in
              absurd (cc)
          | inr miss ↦ key_apart families grown name attributes (Some next) change m.name m.attributes miss ∙ found
        ]
  ]

  pub keeps_added : Agree grown more (next + 1)
  keeps_added = record {
    leads = added_leads;
    found = added_found;
    claimed = λ id m e. elim (added_is id m e) [ inl (first, second) ↦ rw second (omega arith) | inr before ↦ agree.claimed id m before ];
    below = λ id m e. elim (added_is id m e) [ inl (first, second) ↦ omega arith | inr before ↦ let low = agree.below id m before in omega arith ];
  }

pub keeps_registered : (families : List (List ℕ × FamilyState)) (metrics : List (ℕ × MetricState)) (next : ℕ) (name help : List ℕ) (kind : Kind) (attributes : Pairs)
    → Agree families metrics next → member_in families name attributes ≡ None
    → Agree (with_member families name help kind attributes next) (ordered.insert_entry nat_eq metrics next (fresh_metric name attributes)) (next + 1)
keeps_registered families metrics next name help kind attributes agree none =
    let fresh = fresh_metric name attributes in
    keeps_added families (with_member families name help kind attributes next) metrics (ordered.insert_entry nat_eq metrics next fresh) next name attributes
    agree none (joined families name help kind attributes next) (λ q. lookup_push exact_numbers q next fresh metrics)

-- A metric that was changed: its key is the same, and it has a claim.

module _ (families : List (List ℕ × FamilyState)) (metrics more : List (ℕ × MetricState)) (next : ℕ) (at : ℕ) (was is : MetricState)
    (agree : Agree families metrics next) (there : lookup (nat_eq at) metrics ≡ Some was)
    (name : is.name ≡ was.name) (attributes : is.attributes ≡ was.attributes) (claims : 0 < is.claims)
    (put : ChangesMetric metrics more at (Some is)) where
  altered_is : (id : ℕ) (m : MetricState) → lookup (nat_eq id) more ≡ Some m → ((id ≡ at) × (m ≡ is)) ⊎ (lookup (nat_eq id) metrics ≡ Some m)
  altered_is id m e = elim (cases_Bool (nat_eq at id)) [
    | inl hit ↦
        let here = metric_here metrics more at (Some is) put id hit in
        let same : m ≡ is = cc in
        inl (sym (exact_numbers.exact at id hit), same)
    | inr miss ↦ inr (sym (metric_apart metrics more at (Some is) put id miss) ∙ e)
  ]

  altered_leads : (id : ℕ) (n : List ℕ) (a : Pairs) → member_in families n a ≡ Some id → IsMetricOf more id n a
  altered_leads id n a e =
      let m = agree.leads id n a e in
      elim (cases_Bool (nat_eq at id)) [
        | inl hit ↦
            let place = exact_numbers.exact at id hit in
            let found : lookup (nat_eq at) metrics ≡ Some m.0 = rw place m.1 in
            let old : was ≡ m.0 = cc in
            (is, metric_here metrics more at (Some is) put id hit, (name ∙ ap (λ x. x.name) old) ∙ m.2, (attributes ∙ ap (λ x. x.attributes) old) ∙ m.3)
        | inr miss ↦ (m.0, metric_apart metrics more at (Some is) put id miss ∙ m.1, m.2, m.3)
      ]

  pub keeps_altered : Agree families more next
  keeps_altered = record {
    leads = altered_leads;
    found = λ id m e. elim (altered_is id m e) [
      | inl (first, second) ↦ rw (first, second, name, attributes) (agree.found at was there)
      | inr before ↦ agree.found id m before
    ];
    claimed = λ id m e. elim (altered_is id m e) [ inl (first, second) ↦ rw second claims | inr before ↦ agree.claimed id m before ];
    below = λ id m e. elim (altered_is id m e) [ inl (first, second) ↦ rw first (agree.below at was there) | inr before ↦ agree.below id m before ];
  }

pub keeps_written : (families : List (List ℕ × FamilyState)) (metrics : List (ℕ × MetricState)) (next at : ℕ) (was is : MetricState)
    → Agree families metrics next → lookup (nat_eq at) metrics ≡ Some was → is.name ≡ was.name → is.attributes ≡ was.attributes → 0 < is.claims
    → Agree families (set_value (nat_eq at) metrics is) next
keeps_written families metrics next at was is agree there name attributes claims =
    let some : is_some (lookup (nat_eq at) metrics) ≡ true = rw there refl in
    keeps_altered families metrics (set_value (nat_eq at) metrics is) next at was is agree there name attributes claims (λ q. lookup_set exact_numbers q at is metrics some)

-- A metric that was taken out, with its key.

module _ (families fewer : List (List ℕ × FamilyState)) (metrics less : List (ℕ × MetricState)) (next : ℕ) (at : ℕ) (was : MetricState)
    (agree : Agree families metrics next) (there : lookup (nat_eq at) metrics ≡ Some was)
    (change : ChangesOne families fewer was.name was.attributes None) (put : ChangesMetric metrics less at None) where
  removed_is : (id : ℕ) (m : MetricState) → lookup (nat_eq id) less ≡ Some m → (nat_eq at id ≡ false) × (lookup (nat_eq id) metrics ≡ Some m)
  removed_is id m e = elim (cases_Bool (nat_eq at id)) [
    | inl hit ↦ let here = metric_here metrics less at None put id hit in absurd (cc)
    | inr miss ↦ (miss, sym (metric_apart metrics less at None put id miss) ∙ e)
  ]

  removed_leads : (id : ℕ) (n : List ℕ) (a : Pairs) → member_in fewer n a ≡ Some id → IsMetricOf less id n a
  removed_leads id n a e = elim (cases_Bool (is_key was.name was.attributes n a)) [
    | inl hit ↦ let here = key_here families fewer was.name was.attributes None change n a hit in absurd (cc)
    | inr miss ↦
        let m = agree.leads id n a (sym (key_apart families fewer was.name was.attributes None change n a miss) ∙ e) in
        let apart : nat_eq at id ≡ false = elim (cases_Bool (nat_eq at id)) [
          | inl hit ↦
              let place = exact_numbers.exact at id hit in
              let found : lookup (nat_eq at) metrics ≡ Some m.0 = rw place m.1 in
              let old : was ≡ m.0 = cc in
              absurd (both_ways (is_key was.name was.attributes n a) miss (key_at was.name n was.attributes a (ap {A = MetricState} (λ x. x.name) old ∙ m.2) (ap {A = MetricState} (λ x. x.attributes) old ∙ m.3)))
          | inr other ↦ other
        ] in
        (m.0, metric_apart metrics less at None put id apart ∙ m.1, m.2, m.3)
  ]

  removed_found : (id : ℕ) (m : MetricState) → lookup (nat_eq id) less ≡ Some m → member_in fewer m.name m.attributes ≡ Some id
  removed_found id m e =
      let before = removed_is id m e in
      let found = agree.found id m before.1 in
      elim (cases_Bool (is_key was.name was.attributes m.name m.attributes)) [
        | inl hit ↦
            let key = key_exact was.name was.attributes m.name m.attributes hit in
            let own : member_in families m.name m.attributes ≡ Some at = rw (← key.0, ← key.1) (agree.found at was there) in
            let place : at ≡ id = cc in
            absurd (both_ways (nat_eq at id) before.0 (rw place (exact_numbers.same id)))
        | inr miss ↦ key_apart families fewer was.name was.attributes None change m.name m.attributes miss ∙ found
      ]

  pub keeps_removed : Agree fewer less next
  keeps_removed = record {
    leads = removed_leads;
    found = removed_found;
    claimed = λ id m e. agree.claimed id m (removed_is id m e).1;
    below = λ id m e. agree.below id m (removed_is id m e).1;
  }

-- A number has claims exactly where a name with attributes leads to it.

named_claims : (families : List (List ℕ × FamilyState)) (metrics : List (ℕ × MetricState)) (next id : ℕ) (o : Option MetricState)
    → Agree families metrics next → lookup (nat_eq id) metrics ≡ o
    → (0 < option_map_or (λ m. m.claims) o 0) ↔ ((name : List ℕ) × (attributes : Pairs) × (member_in families name attributes ≡ Some id))
named_claims families metrics next id None agree e =
    (λ low. absurd (omega arith), λ named. let m = agree.leads id named.0 named.1 named.2 in absurd (cc (e, m.1)))
named_claims families metrics next id (Some m) agree e =
    (λ low. (m.name, m.attributes, agree.found id m e), λ named. agree.claimed id m e)

pub registered_claims : (families : List (List ℕ × FamilyState)) (metrics : List (ℕ × MetricState)) (next id : ℕ) → Agree families metrics next
    → (0 < option_map_or (λ m. m.claims) (lookup (nat_eq id) metrics) 0) ↔ ((name : List ℕ) × (attributes : Pairs) × (member_in families name attributes ≡ Some id))
registered_claims families metrics next id agree = named_claims families metrics next id (lookup (nat_eq id) metrics) agree refl

-- A family from which a metric was taken out, and one that went with its last metric.

pub left_nothing : (families : List (List ℕ × FamilyState)) (name : List ℕ) (attributes : Pairs) → lookup (same_text name) families ≡ None → ChangesOne families families name attributes None
left_nothing families name attributes none n a = elim (cases_Bool (is_key name attributes n a)) [
  | inl hit ↦
      let key = key_exact name attributes n a hit in
      let lacks : member_in families n a ≡ None = rw (← key.0, none) refl in
      rw (hit, lacks) refl
  | inr miss ↦ rw miss refl
]

pub left_some : (families fewer : List (List ℕ × FamilyState)) (name : List ℕ) (attributes : Pairs) (f new : FamilyState)
    → lookup (same_text name) families ≡ Some f
    → ((n : List ℕ) → lookup (same_text n) fewer ≡ cond (same_text name n) (Some new) (lookup (same_text n) families))
    → ((a : Pairs) → lookup (same_pairs a) new.members ≡ cond (same_pairs attributes a) None (lookup (same_pairs a) f.members))
    → ChangesOne families fewer name attributes None
left_some families fewer name attributes f new some found members n a =
    let is : same_text name n ≡ true → lookup (same_text n) families ≡ Some f = λ hit. rw (← (exact_texts.exact name n hit)) some in
    rw (found n) (put_in (same_text name n) (same_pairs attributes a) (lookup (same_text n) families) f new a None is (members a))

gone_in : (here there : Bool) (family : Option FamilyState) (f : FamilyState) (a : Pairs) → (here ≡ true → family ≡ Some f) → None ≡ cond there None (in_family (Some f) a) → in_family (cond here None family) a ≡ cond (here && there) None (in_family family a)
gone_in true there family f a is e = rw (is refl) e
gone_in false there family f a is e = refl

pub left_none : (families fewer : List (List ℕ × FamilyState)) (name : List ℕ) (attributes : Pairs) (f : FamilyState)
    → lookup (same_text name) families ≡ Some f
    → ((n : List ℕ) → lookup (same_text n) fewer ≡ cond (same_text name n) None (lookup (same_text n) families))
    → ((a : Pairs) → None ≡ cond (same_pairs attributes a) None (lookup (same_pairs a) f.members))
    → ChangesOne families fewer name attributes None
left_none families fewer name attributes f some found members n a =
    let is : same_text name n ≡ true → lookup (same_text n) families ≡ Some f = λ hit. rw (← (exact_texts.exact name n hit)) some in
    rw (found n) (gone_in (same_text name n) (same_pairs attributes a) (lookup (same_text n) families) f a is (members a))

pub left_written : (families : List (List ℕ × FamilyState)) (name : List ℕ) (attributes : Pairs) (f new : FamilyState)
    → lookup (same_text name) families ≡ Some f
    → ((a : Pairs) → lookup (same_pairs a) new.members ≡ cond (same_pairs attributes a) None (lookup (same_pairs a) f.members))
    → ChangesOne families (set_value (same_text name) families new) name attributes None
left_written families name attributes f new some members =
    let there : is_some (lookup (same_text name) families) ≡ true = rw some refl in
    left_some families (set_value (same_text name) families new) name attributes f new some (λ n. lookup_set exact_texts n name new families there) members

dropped : {X : Type 0} (b : Bool) (new o r : Option X) → o ≡ cond b new r → cond b None o ≡ cond b None r
dropped true new o r e = refl
dropped false new o r e = e

pub left_removed : (families written fewer : List (List ℕ × FamilyState)) (name : List ℕ) (attributes : Pairs) (f new : FamilyState)
    → lookup (same_text name) families ≡ Some f
    → written ≡ set_value (same_text name) families new
    → ((n : List ℕ) → lookup (same_text n) fewer ≡ cond (same_text name n) None (lookup (same_text n) written))
    → new.members ≡ []
    → ((a : Pairs) → lookup (same_pairs a) new.members ≡ cond (same_pairs attributes a) None (lookup (same_pairs a) f.members))
    → ChangesOne families fewer name attributes None
left_removed families written fewer name attributes f new some is found empty members =
    let there : is_some (lookup (same_text name) families) ≡ true = rw some refl in
    let lookups : (n : List ℕ) → lookup (same_text n) written ≡ cond (same_text name n) (Some new) (lookup (same_text n) families) = λ n. rw is (lookup_set exact_texts n name new families there) in
    left_none families fewer name attributes f some
    (λ n. found n ∙ dropped (same_text name n) (Some new) (lookup (same_text n) written) (lookup (same_text n) families) (lookups n))
    (λ a. rw empty at (members a))

-- A later next number, with a metric changed and without.

pub keeps_later : (next later : ℕ) → next ≤ later → (families : List (List ℕ × FamilyState)) (metrics : List (ℕ × MetricState)) → Agree families metrics next → Agree families metrics later
keeps_later next later after families metrics agree = record {
  leads = agree.leads;
  found = agree.found;
  claimed = agree.claimed;
  below = λ id m e. let low = agree.below id m e in omega arith;
}

pub keeps_child : (next later : ℕ) → next ≤ later → (families : List (List ℕ × FamilyState)) (metrics : List (ℕ × MetricState)) (at : ℕ) (was is : MetricState)
    → Agree families metrics next → lookup (nat_eq at) metrics ≡ Some was → is.name ≡ was.name → is.attributes ≡ was.attributes → 0 < is.claims
    → Agree families (set_value (nat_eq at) metrics is) later
keeps_child next later after families metrics at was is agree there name attributes claims =
    keeps_later next later after families (set_value (nat_eq at) metrics is) (keeps_written families metrics next at was is agree there name attributes claims)
