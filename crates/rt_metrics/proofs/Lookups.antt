-- What is found in a list of entries after a change, where the test of keys decides that they are equal.
use Rattle.rt_metrics.proofs.Prelude.{◌≡◌, ℕ, Bool, true, false, cond, ◌&&◌, List, [], ◌∷◌, Option, Some, is_some, refl, sym, ap, ◌∙◌, ◌⊎◌, inl, inr, cases_Bool, and_parts, and_from, both_ways, eqb-true, eq-eqb, slice_eq-Decides, bytes_eq-Decides, is_eq-slice_cmp, Decides, nat_eq, pointwise, lookup, set_value, is_eq, Ordering, Less, Equal, Greater, is_at, text_cmp, same_pairs}
use Rattle.std.specs.BTreeMap as tree
use Rattle.indexmap.specs.IndexMap as ordered

-- a test of keys that decides whether they are equal
pub record IsExact {K : Type 0} (eq : K → K → Bool) : Type 0 where
  pub same : (x : K) → eq x x ≡ true
  pub exact : (x y : K) → eq x y ≡ true → x ≡ y

abbrev pub same_text : List ℕ → List ℕ → Bool
same_text x y = is_at (text_cmp x) y

pub exact_texts : IsExact same_text
exact_texts = record {
  same = λ x. is_eq-slice_cmp x x ∙ (bytes_eq-Decides x x).1 refl;
  exact = λ x y e. (bytes_eq-Decides x y).0 (sym (is_eq-slice_cmp x y) ∙ e);
}

pub exact_numbers : IsExact nat_eq
exact_numbers = record { same = λ x. eq-eqb x x refl; exact = λ x y e. eqb-true x y e }

same_pair : (p q : List ℕ × List ℕ) → Decides (pointwise nat_eq p.0 q.0 && pointwise nat_eq p.1 q.1) (p ≡ q)
same_pair (a, b) (c, d) = (
  λ e. let both = and_parts (pointwise nat_eq a c) (pointwise nat_eq b d) e in
      let first : a ≡ c = (bytes_eq-Decides a c).0 both.0 in
      let second : b ≡ d = (bytes_eq-Decides b d).0 both.1 in
      cc,
  λ e. let first : a ≡ c = ap {A = List ℕ × List ℕ} (λ p. p.0) e in
      let second : b ≡ d = ap {A = List ℕ × List ℕ} (λ p. p.1) e in
      and_from _ _ ((bytes_eq-Decides a c).1 first) ((bytes_eq-Decides b d).1 second),
)

pub exact_pairs : IsExact same_pairs
exact_pairs = record {
  same = λ x. (slice_eq-Decides same_pair x x (same_pairs x x) refl).1 refl;
  exact = λ x y e. (slice_eq-Decides same_pair x y (same_pairs x y) refl).0 e;
}

replaced : {X : Type 0} (b : Bool) (new old rest : Option X) → cond b new rest ≡ cond b new (cond b old rest)
replaced true new old rest = refl
replaced false new old rest = refl

passed : {X : Type 0} (here there : Bool) (first new rest after : Option X) → (here ≡ true → there ≡ true → ⊥) → after ≡ cond there new rest → cond here first after ≡ cond there new (cond here first rest)
passed true true first new rest after apart e = absurd (apart refl refl)
passed true false first new rest after apart e = refl
passed false there first new rest after apart e = e

module _ {K : Type 0} {eq : K → K → Bool} (is : IsExact eq) where
  pub either_way : (x y : K) → eq x y ≡ eq y x
  either_way x y = elim (cases_Bool (eq x y)) [
    | inl hit ↦ let e = is.exact x y hit in rw e refl
    | inr miss ↦ elim (cases_Bool (eq y x)) [
      | inl hit ↦ let e = is.exact y x hit in absurd (both_ways (eq x y) miss (rw e (is.same x)))
      | inr also ↦ miss ∙ sym also
    ]
  ]

  -- two keys that a third is equal to are equal
  met : (x y z : K) → eq x y ≡ false → eq z y ≡ true → eq x z ≡ true → ⊥
  met x y z miss p q =
      let e = is.exact z y p in
      let f = is.exact x z q in
      both_ways (eq x y) miss (rw (f, e) (is.same y))

  module _ {X : Type 0} where
    -- where a value was written, it is found, and the others stay
    pub lookup_set : (q k : K) (w : X) (es : List (K × X)) → is_some (lookup (eq k) es) ≡ true → lookup (eq q) (set_value (eq k) es w) ≡ cond (eq k q) (Some w) (lookup (eq q) es)
    lookup_set q k w [] there = absurd (cc)
    lookup_set q k w (e ∷ es) there = elim (cases_Bool (eq k e.0)) [
      | inl hit ↦
          let same = is.exact k e.0 hit in
          let turned : eq q e.0 ≡ eq k q = rw same (either_way q e.0) in
          rw (hit, turned) (replaced (eq k q) (Some w) (Some e.1) (lookup (eq q) es))
      | inr miss ↦
          let still : is_some (lookup (eq k) es) ≡ true = rw miss at there in
          rw miss (passed (eq q e.0) (eq k q) (Some e.1) (Some w) _ _ (λ p r. met k e.0 q miss p r) (lookup_set q k w es still))
    ]

    -- where a value was put in at the end, or over that of its key
    pub lookup_push : (q k : K) (w : X) (es : List (K × X)) → lookup (eq q) (ordered.insert_entry eq es k w) ≡ cond (eq k q) (Some w) (lookup (eq q) es)
    lookup_push q k w [] = rw (either_way q k) refl
    lookup_push q k w (e ∷ es) = elim (cases_Bool (eq k e.0)) [
      | inl hit ↦
          let same = is.exact k e.0 hit in
          let turned : eq q e.0 ≡ eq k q = rw same (either_way q e.0) in
          rw (hit, turned) (replaced (eq k q) (Some w) (Some e.1) (lookup (eq q) es))
      | inr miss ↦ rw miss (passed (eq q e.0) (eq k q) (Some e.1) (Some w) _ _ (λ p r. met k e.0 q miss p r) (lookup_push q k w es))
    ]

pub cases_cmp : (o : Ordering) → (o ≡ Less) ⊎ ((o ≡ Equal) ⊎ (o ≡ Greater))
cases_cmp Less = inl refl
cases_cmp Equal = inr (inl refl)
cases_cmp Greater = inr (inr refl)

-- where a value was put in, in the order of texts
pub lookup_put : {X : Type 0} (q k : List ℕ) (w : X) (es : List (List ℕ × X)) → lookup (same_text q) (tree.insert_entry text_cmp es k w) ≡ cond (same_text k q) (Some w) (lookup (same_text q) es)
lookup_put q k w [] = rw (either_way exact_texts q k) refl
lookup_put q k w (e ∷ es) = elim (cases_cmp (text_cmp k e.0)) [
  | inl o ↦ rw (o, either_way exact_texts q k) refl
  | inr (inl o) ↦
      let hit : same_text k e.0 ≡ true = ap is_eq o in
      let same = exact_texts.exact k e.0 hit in
      let turned : same_text q e.0 ≡ same_text k q = rw same (either_way exact_texts q e.0) in
      rw (o, turned) (replaced (same_text k q) (Some w) (Some e.1) (lookup (same_text q) es))
  | inr (inr o) ↦
      let miss : same_text k e.0 ≡ false = ap is_eq o in
      rw o (passed (same_text q e.0) (same_text k q) (Some e.1) (Some w) _ _ (λ p r. met exact_texts k e.0 q miss p r) (lookup_put q k w es))
]
