-- Numbers and their places.
use Rattle.rt_walk.proofs.Prelude.{◌≡◌, ◌<◌, ◌+◌, ◌∙◌, sym, ap, refl, arith, ℕ, zero, suc, Bool, true, false, cond, eqb, nat_eq, get_or, List, [], ◌∷◌, ◌++◌, length, Option, Some, None, option_map, is_some, inl, inr, cases_Bool, nat_tests, slice_get, slice_set, has_number, find, without, replaced, or_else, first_place, ArePlaced, AreDistinct, kept}

pub has-place : (k : ℕ) (xs : List ℕ) → is_some (first_place k xs) ≡ has_number k xs
has-place k [] = refl
has-place k (x ∷ xs) = elim (cases_Bool (eqb x k)) [
  | inl e ↦ rw e refl
  | inr e ↦ rw e (same (first_place k xs) ∙ has-place k xs)
]
  where
    same : (o : Option ℕ) → is_some (option_map (λ i. i + 1) o) ≡ is_some o
    same None = refl
    same (Some i) = refl

one-more : (o p : Option ℕ) → or_else (option_map (λ i. i + 1) o) (option_map (λ i. i + 1) p) ≡ option_map (λ i. i + 1) (or_else o p)
one-more None p = refl
one-more (Some i) p = refl

place-more : (k n : ℕ) (xs : List ℕ) → first_place k (xs ++ n ∷ []) ≡ or_else (first_place k xs) (cond (eqb n k) (Some (length xs)) None)
place-more k n [] = elim (cases_Bool (eqb n k)) [ inl e ↦ rw e refl | inr e ↦ rw e refl ]
place-more k n (x ∷ xs) = elim (cases_Bool (eqb x k)) [
  | inl e ↦ rw e refl
  | inr e ↦ rw (e, place-more k n xs) (sym (one-more (first_place k xs) (cond (eqb n k) (Some (length xs)) None)) ∙ ap (λ p. or_else (option_map (λ i. i + 1) (first_place k xs)) p) (inner (eqb n k)))
]
  where
    inner : (b : Bool) → option_map (λ i. i + 1) (cond b (Some (length xs)) None) ≡ cond b (Some (suc (length xs))) None
    inner true = let e : length xs + 1 ≡ suc (length xs) = omega arith in ap (λ n. Some n) e
    inner false = refl

else-none : (o : Option ℕ) → or_else o None ≡ o
else-none None = refl
else-none (Some i) = refl

-- a number that wasn't there
pub placed-new : (old new : ℕ → Option ℕ) (xs : List ℕ) (n : ℕ) → ArePlaced old xs → has_number n xs ≡ false → ((k : ℕ) → new k ≡ cond (nat_eq n k) (Some (length xs)) (old k)) → ArePlaced new (xs ++ n ∷ [])
placed-new old new xs n are fresh put k = by (eqb n k) refl
  where
    none : (o : Option ℕ) → is_some o ≡ false → o ≡ None
    none None h = refl
    none (Some i) h = absurd (cc)

    written : new k ≡ cond (eqb n k) (Some (length xs)) (old k)
    written = put k

    more : first_place k (xs ++ n ∷ []) ≡ or_else (first_place k xs) (cond (eqb n k) (Some (length xs)) None)
    more = place-more k n xs

    by : (b : Bool) → eqb n k ≡ b → new k ≡ first_place k (xs ++ n ∷ [])
    by true e =
        let same : n ≡ k = grind (arith, nat_tests) in
        let gone : first_place k xs ≡ None = none (first_place k xs) (has-place k xs ∙ ap (λ j. has_number j xs) (sym same) ∙ fresh) in
        let here : new k ≡ Some (length xs) = rw e at written in
        let there : first_place k (xs ++ n ∷ []) ≡ Some (length xs) = rw (gone, e) at more in
        here ∙ sym there
    by false e =
        let here : new k ≡ old k = rw e at written in
        let there : first_place k (xs ++ n ∷ []) ≡ or_else (first_place k xs) None = rw e at more in
        here ∙ are k ∙ sym (else-none (first_place k xs)) ∙ sym there

-- a number that was there
pub placed-again : (old : ℕ → Option ℕ) (xs : List ℕ) (n : ℕ) → ArePlaced old xs → has_number n xs ≡ true → ArePlaced old (xs ++ n ∷ [])
placed-again old xs n are there k = are k ∙ sym (place-more k n xs ∙ by (eqb n k) refl)
  where
    some : (o p : Option ℕ) → is_some o ≡ true → or_else o p ≡ o
    some None p h = cc
    some (Some i) p h = refl

    by : (b : Bool) → eqb n k ≡ b → or_else (first_place k xs) (cond b (Some (length xs)) None) ≡ first_place k xs
    by true e =
        let same : n ≡ k = grind (arith, nat_tests) in
        some (first_place k xs) (Some (length xs)) (has-place k xs ∙ ap (λ j. has_number j xs) (sym same) ∙ there)
    by false e = else-none (first_place k xs)

pub ruleset place_laws = (has-place, placed-new, placed-again)

-- a number that comes to distinct ones

pub none-suc : (o : Option ℕ) → option_map (λ i. i + 1) o ≡ None → o ≡ None
none-suc None h = refl
none-suc (Some i) h = cc

pub pred-of : (o : Option ℕ) (i : ℕ) → option_map (λ j. j + 1) o ≡ Some i → (j : ℕ) × (i ≡ suc j) × (o ≡ Some j)
pred-of None i h = absurd (cc)
pred-of (Some j) i h = let e : i ≡ j + 1 = cc in (j, (omega (arith, e)), refl)

pub has-none : (k : ℕ) (xs : List ℕ) → has_number k xs ≡ false → first_place k xs ≡ None
has-none k xs h = none (first_place k xs) (has-place k xs ∙ h)
  where
    none : (o : Option ℕ) → is_some o ≡ false → o ≡ None
    none None h = refl
    none (Some i) h = cc

pub distinct-more : (n : ℕ) (xs : List ℕ) → has_number n xs ≡ false → AreDistinct xs → AreDistinct (xs ++ n ∷ [])
distinct-more n [] h d = (refl, tt)
distinct-more n (x ∷ xs) h d =
    let other : (eqb n x ≡ false) × (has_number n xs ≡ false) = grind (arith, nat_tests) in
    ((place-more x n xs ∙ rw (d.0, other.0) refl), distinct-more n xs other.1 d.1)

pub same-more : {A B : Type 0} (xs : List A) (ys : List B) (x : A) (y : B) → length xs ≡ length ys → length (xs ++ x ∷ []) ≡ length (ys ++ y ∷ [])
same-more [] [] x y h = refl
same-more [] (w ∷ ys) x y h = absurd (omega (arith, h))
same-more (v ∷ xs) [] x y h = absurd (omega (arith, h))
same-more (v ∷ xs) (w ∷ ys) x y h = ap suc (same-more xs ys x y (omega (arith, h)))

-- what stands at places

module _ {V : Type 0} where
  pub find-none : (k : ℕ) (ns : List ℕ) (vs : List (Option V)) → first_place k ns ≡ None → find k (kept ns vs) ≡ None
  find-none k [] vs h = refl
  find-none k (n ∷ ns) [] h = refl
  find-none k (n ∷ ns) (p ∷ vs) h = elim (cases_Bool (eqb n k)) [
    | inl e ↦ let f = rw e at h in absurd (cc)
    | inr e ↦ skip p e (find-none k ns vs (none-suc (first_place k ns) (rw e at h)))
  ]
    where
      skip : (p : Option V) → eqb n k ≡ false → find k (kept ns vs) ≡ None → find k (kept (n ∷ ns) (p ∷ vs)) ≡ None
      skip None e h = h
      skip (Some v) e h = rw e h

  pub find-some : (k i : ℕ) (ns : List ℕ) (vs : List (Option V)) (p : Option V) → AreDistinct ns → first_place k ns ≡ Some i → slice_get vs i ≡ Some p → find k (kept ns vs) ≡ p
  find-some k i [] vs p d h g = absurd (cc)
  find-some k i (n ∷ ns) [] p d h g = absurd (cc)
  find-some k i (n ∷ ns) (q ∷ vs) p d h g = elim (cases_Bool (eqb n k)) [
    | inl e ↦
        let f : i ≡ 0 = zero-of i (rw e at h) in
        let same : n ≡ k = grind (arith, nat_tests) in
        let gone : first_place k ns ≡ None = rw (← same) d.0 in
        here q e gone (rw f at g)
    | inr e ↦
        let m = pred-of (first_place k ns) i (rw e at h) in
        there q e (find-some k m.0 ns vs p d.1 m.2 (rw m.1 at g))
  ]
    where
      zero-of : (i : ℕ) → Some 0 ≡ Some i → i ≡ 0
      zero-of i h = cc

      here : (q : Option V) → eqb n k ≡ true → first_place k ns ≡ None → Some q ≡ Some p → find k (kept (n ∷ ns) (q ∷ vs)) ≡ p
      here None e gone g = find-none k ns vs gone ∙ (cc)
      here (Some v) e gone g = rw e (cc)

      there : (q : Option V) → eqb n k ≡ false → find k (kept ns vs) ≡ p → find k (kept (n ∷ ns) (q ∷ vs)) ≡ p
      there None e h = h
      there (Some v) e h = rw e h

  pub set-kept : (k i : ℕ) (ns : List ℕ) (vs : List (Option V)) (old v : V) → AreDistinct ns → first_place k ns ≡ Some i → slice_get vs i ≡ Some (Some old) → kept ns (slice_set vs i (Some v)) ≡ replaced (λ _. v) k (kept ns vs)
  set-kept k i [] vs old v d h g = absurd (cc)
  set-kept k i (n ∷ ns) [] old v d h g = absurd (cc)
  set-kept k zero (n ∷ ns) (q ∷ vs) old v d h g = elim (cases_Bool (eqb n k)) [
    | inl e ↦ let same : n ≡ k = grind (arith, nat_tests) in let is : q ≡ Some old = cc in rw (is, e, same) refl
    | inr e ↦ let m = pred-of (first_place k ns) zero (rw e at h) in absurd (omega (arith, m.1))
  ]
  set-kept k (suc i) (n ∷ ns) (q ∷ vs) old v d h g = elim (cases_Bool (eqb n k)) [
    | inl e ↦ let f : Some 0 ≡ Some (suc i) = rw e at h in absurd (cc)
    | inr e ↦
        let m = pred-of (first_place k ns) (suc i) (rw e at h) in
        let same : m.0 ≡ i = omega (arith, m.1) in
        there q e (set-kept k i ns vs old v d.1 (rw same at m.2) g)
  ]
    where
      there : (q : Option V) → eqb n k ≡ false → kept ns (slice_set vs i (Some v)) ≡ replaced (λ _. v) k (kept ns vs) → kept (n ∷ ns) (q ∷ slice_set vs i (Some v)) ≡ replaced (λ _. v) k (kept (n ∷ ns) (q ∷ vs))
      there None e h = h
      there (Some w) e h = rw e (ap (λ xs. (n, w) ∷ xs) h)

  pub without-kept : (k i : ℕ) (ns : List ℕ) (vs : List (Option V)) (old : V) → AreDistinct ns → first_place k ns ≡ Some i → slice_get vs i ≡ Some (Some old) → kept ns (slice_set vs i None) ≡ without k (kept ns vs)
  without-kept k i [] vs old d h g = absurd (cc)
  without-kept k i (n ∷ ns) [] old d h g = absurd (cc)
  without-kept k zero (n ∷ ns) (q ∷ vs) old d h g = elim (cases_Bool (eqb n k)) [
    | inl e ↦ let is : q ≡ Some old = cc in rw (is, e) refl
    | inr e ↦ let m = pred-of (first_place k ns) zero (rw e at h) in absurd (omega (arith, m.1))
  ]
  without-kept k (suc i) (n ∷ ns) (q ∷ vs) old d h g = elim (cases_Bool (eqb n k)) [
    | inl e ↦ let f : Some 0 ≡ Some (suc i) = rw e at h in absurd (cc)
    | inr e ↦
        let m = pred-of (first_place k ns) (suc i) (rw e at h) in
        let same : m.0 ≡ i = omega (arith, m.1) in
        there q e (without-kept k i ns vs old d.1 (rw same at m.2) g)
  ]
    where
      there : (q : Option V) → eqb n k ≡ false → kept ns (slice_set vs i None) ≡ without k (kept ns vs) → kept (n ∷ ns) (q ∷ slice_set vs i None) ≡ without k (kept (n ∷ ns) (q ∷ vs))
      there None e h = h
      there (Some w) e h = rw e (ap (λ xs. (n, w) ∷ xs) h)

  pub push-kept : (ns : List ℕ) (vs : List (Option V)) (n : ℕ) (v : V) → length ns ≡ length vs → kept (ns ++ n ∷ []) (vs ++ Some v ∷ []) ≡ kept ns vs ++ (n, v) ∷ []
  push-kept [] [] n v l = refl
  push-kept [] (q ∷ vs) n v l = absurd (omega (arith, l))
  push-kept (m ∷ ns) [] n v l = absurd (omega (arith, l))
  push-kept (m ∷ ns) (None ∷ vs) n v l = push-kept ns vs n v (omega (arith, l))
  push-kept (m ∷ ns) (Some w ∷ vs) n v l = ap (λ xs. (m, w) ∷ xs) (push-kept ns vs n v (omega (arith, l)))

  -- a number with a place has it among as many values
  pub place-within : (k i : ℕ) (ns : List ℕ) (vs : List (Option V)) → length ns ≡ length vs → first_place k ns ≡ Some i → i < length vs
  place-within k i [] vs l h = absurd (cc)
  place-within k i (n ∷ ns) [] l h = absurd (omega (arith, l))
  place-within k zero (n ∷ ns) (q ∷ vs) l h = omega arith
  place-within k (suc i) (n ∷ ns) (q ∷ vs) l h = elim (cases_Bool (eqb n k)) [
    | inl e ↦ let f : Some 0 ≡ Some (suc i) = rw e at h in absurd (cc)
    | inr e ↦
        let m = pred-of (first_place k ns) (suc i) (rw e at h) in
        let same : m.0 ≡ i = omega (arith, m.1) in
        let t = place-within k i ns vs (omega (arith, l)) (rw same at m.2) in
        omega (arith, t)
  ]

  -- nothing changes where a number has nothing
  pub replaced-nothing : (change : V → V) (k : ℕ) (xs : List (ℕ × V)) → find k xs ≡ None → replaced change k xs ≡ xs
  replaced-nothing change k [] h = refl
  replaced-nothing change k (x ∷ xs) h = grind (arith, replaced-nothing change k xs)

  pub without-nothing : (k : ℕ) (xs : List (ℕ × V)) → find k xs ≡ None → without k xs ≡ xs
  without-nothing k [] h = refl
  without-nothing k (x ∷ xs) h = grind (arith, without-nothing k xs)

get-there : {X : Type 0} (i : ℕ) (xs : List X) (d : X) → i < length xs → slice_get xs i ≡ Some (get_or xs i d)
get-there i [] d h = absurd (omega (arith, h))
get-there zero (x ∷ xs) d h = refl
get-there (suc i) (x ∷ xs) d h = get-there i xs d (omega (arith, h))

-- the same at a place that is read

module _ {V : Type 0} (k i : ℕ) (ns : List ℕ) (vs : List (Option V)) (d : Option V) (distinct : AreDistinct ns) (same : length ns ≡ length vs) (is : first_place k ns ≡ Some i) where
  pub find-here : find k (kept ns vs) ≡ get_or vs i d
  find-here = find-some k i ns vs (get_or vs i d) distinct is (get-there i vs d (place-within k i ns vs same is))

  pub nothing-here : is_some (get_or vs i d) ≡ false → find k (kept ns vs) ≡ None
  nothing-here h = find-here ∙ none (get_or vs i d) h
    where
      none : (o : Option V) → is_some o ≡ false → o ≡ None
      none None h = refl
      none (Some v) h = absurd (cc)

  old-here : is_some (get_or vs i d) ≡ true → (old : V) × (slice_get vs i ≡ Some (Some old))
  old-here h = some (get_or vs i d) h (get-there i vs d (place-within k i ns vs same is))
    where
      some : (o : Option V) → is_some o ≡ true → slice_get vs i ≡ Some o → (old : V) × (slice_get vs i ≡ Some (Some old))
      some None h g = absurd (cc)
      some (Some v) h g = (v, g)

  pub set-here : (v : V) → is_some (get_or vs i d) ≡ true → kept ns (slice_set vs i (Some v)) ≡ replaced (λ _. v) k (kept ns vs)
  set-here v h = let o = old-here h in set-kept k i ns vs o.0 v distinct is o.1

  pub gone-here : is_some (get_or vs i d) ≡ true → kept ns (slice_set vs i None) ≡ without k (kept ns vs)
  gone-here h = let o = old-here h in without-kept k i ns vs o.0 distinct is o.1

pub ruleset find_laws = (find-none, find-here, place-within)

pub ruleset replace_laws = (find-none, nothing-here, set-here, place-within, replaced-nothing)

pub ruleset remove_laws = (find-none, nothing-here, gone-here, place-within, without-nothing)

pub ruleset push_laws = (distinct-more, push-kept)
