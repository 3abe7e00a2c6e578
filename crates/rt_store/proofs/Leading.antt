-- How often a number stands among the names, and how that moves with one name or one partition.
use Rattle.rt_store.proofs.Prelude.{◌≡◌, ◌≤◌, ◌<◌, ◌⊎◌, inl, inr, ℕ, zero, suc, ◌+◌, ◌==◌, Bool, true, false, cond, not, List, [], ◌∷◌, ◌++◌, length, take, get_or, map, slice_set, refl, sym, ap, subst, ◌∙◌, arith, rules, eqb-true, eqb-false, ltb-false, map-set, Decides-ltb, Option, slice_cmp, nat_cmp, match_ordering, Ordering, Less, Equal, Greater, Names, Partitions, is_name, at_name, put_name, without_name, numbers, numbers_of, all_numbers, named_numbers, number_of, names_in, in_names, at_shelf, unnamed, unnamed_in, without_partition, emptied, named, named_in, no_partitions, Choice, BlobVersion, all_crashed, choices_after, crashed_at, later_at, Blob, Mutation, FileState, applied, closed, crashed, detached, fresh_file, is_settled, mutated, synced, with_token, one_if, same, times, removals, standing, LeadToBlobs, LeadToShelves, at_blob, at_place, all_detached, if_open, is_token, live}
use Rattle.std.proofs.Common.{slice_get, nat_lt, is_some}
use Rattle.std.specs.Prelude.{None, Some}

-- the sum of what each number weighs
abbrev pub weight : (ℕ → ℕ) → Names → ℕ
weight w [] = 0
weight w (e ∷ es) = w e.1 + weight w es

pub times_append : (n : ℕ) (xs ys : List ℕ) → times n (xs ++ ys) ≡ times n xs + times n ys
times_append n [] ys = omega arith
times_append n (x ∷ xs) ys = let rec = times_append n xs ys in omega arith

pub times_weight : (n : ℕ) (es : Names) → times n (numbers es) ≡ weight (same n) es
times_weight n [] = refl
times_weight n (e ∷ es) = let rec = times_weight n es in omega arith

-- how often a number stands on a shelf
abbrev pub on_shelf : List Names → ℕ → ℕ → ℕ
on_shelf shelves n i = times n (numbers_of (slice_get shelves i))

pub all_weight : (shelves : List Names) (n : ℕ) (es : Names) → times n (all_numbers shelves (numbers es)) ≡ weight (on_shelf shelves n) es
all_weight shelves n [] = refl
all_weight shelves n (e ∷ es) =
    let rec = all_weight shelves n es in
    let both = times_append n (numbers_of (slice_get shelves e.1)) (all_numbers shelves (numbers es)) in
    omega arith

put-step : (o : Ordering) (w : ℕ → ℕ) (x y z : Names) (k : ℕ) → weight w x ≤ k → weight w y ≤ k → weight w z ≤ k → weight w (match_ordering o x y z) ≤ k
put-step Less w x y z k a b c = a
put-step Equal w x y z k a b c = b
put-step Greater w x y z k a b c = c

-- a name more weighs no more than its number
pub put_weight : (w : ℕ → ℕ) (es : Names) (q : List ℕ) (x : ℕ) → weight w (put_name q x es) ≤ weight w es + w x
put_weight w [] q x = omega arith
put_weight w (e ∷ es) q x =
    let rec = put_weight w es q x in
    put-step (slice_cmp nat_cmp q e.0) w ((q, x) ∷ e ∷ es) ((e.0, x) ∷ es) (e ∷ put_name q x es) (weight w (e ∷ es) + w x) (omega arith) (omega arith) (omega arith)

without-step : (b : Bool) (w : ℕ → ℕ) (e : List ℕ × ℕ) (es rest : Names) (o : Option ℕ) (m : ℕ) → cond b (Some e.1) o ≡ Some m → (o ≡ Some m → weight w rest + w m ≡ weight w es) →
    weight w (cond b es (e ∷ rest)) + w m ≡ w e.1 + weight w es
without-step true w e es rest o m h k = let same-number : e.1 ≡ m = search (rules, h) in rw (← same-number) (omega arith)
without-step false w e es rest o m h k = let rec = k h in omega arith

-- a name that goes takes the weight of its number along
pub without_weight : (w : ℕ → ℕ) (es : Names) (q : List ℕ) (m : ℕ) → at_name q es ≡ Some m → weight w (without_name q es) + w m ≡ weight w es
without_weight w [] q m h = search rules
without_weight w (e ∷ es) q m h = without-step (is_name q e.0) w e es (without_name q es) (at_name q es) m h (without_weight w es q m)

cond-less : (b : Bool) (w : ℕ → ℕ) (e : List ℕ × ℕ) (es rest : Names) → weight w rest ≤ weight w es → weight w (cond b es (e ∷ rest)) ≤ w e.1 + weight w es
cond-less true w e es rest h = omega arith
cond-less false w e es rest h = omega arith

pub without_less : (w : ℕ → ℕ) (es : Names) (q : List ℕ) → weight w (without_name q es) ≤ weight w es
without_less w [] q = omega arith
without_less w (e ∷ es) q = cond-less (is_name q e.0) w e es (without_name q es) (without_less w es q)

found-step : (b : Bool) (w : ℕ → ℕ) (e : List ℕ × ℕ) (es : Names) (o : Option ℕ) (m : ℕ) → cond b (Some e.1) o ≡ Some m → (o ≡ Some m → w m ≤ weight w es) → w m ≤ w e.1 + weight w es
found-step true w e es o m h k = let same-number : e.1 ≡ m = search (rules, h) in rw (← same-number) (omega arith)
found-step false w e es o m h k = let rec = k h in omega arith

-- a name that is found weighs its number
pub found_weight : (w : ℕ → ℕ) (es : Names) (q : List ℕ) (m : ℕ) → at_name q es ≡ Some m → w m ≤ weight w es
found_weight w [] q m h = search rules
found_weight w (e ∷ es) q m h = found-step (is_name q e.0) w e es (at_name q es) m h (found_weight w es q m)

pick-step : (n m : ℕ) (b : Bool) → (n == m) ≡ b → ((n ≡ m) × (one_if b ≡ 1)) ⊎ ((n ≡ m → ⊥) × (one_if b ≡ 0))
pick-step n m true h = inl (eqb-true n m h, refl)
pick-step n m false h = inr (eqb-false n m h, refl)

pub pick : (n m : ℕ) → ((n ≡ m) × (same n m ≡ 1)) ⊎ ((n ≡ m → ⊥) × (same n m ≡ 0))
pick n m = pick-step n m (n == m) refl

same-step : (n : ℕ) → ((n ≡ n) × (same n n ≡ 1)) ⊎ ((n ≡ n → ⊥) × (same n n ≡ 0)) → same n n ≡ 1
same-step n (inl h) = h.1
same-step n (inr h) = absurd (h.0 refl)

pub same_self : (n : ℕ) → same n n ≡ 1
same_self n = same-step n (pick n n)

-- Lists.

pub set_here : {A : Type 0} (xs : List A) (i : ℕ) (old new : A) → slice_get xs i ≡ Some old → slice_get (slice_set xs i new) i ≡ Some new
set_here [] i old new h = search rules
set_here (x ∷ xs) zero old new h = refl
set_here (x ∷ xs) (suc i) old new h = set_here xs i old new h

pub set_other : {A : Type 0} (xs : List A) (i m : ℕ) (new : A) → (i ≡ m → ⊥) → slice_get (slice_set xs i new) m ≡ slice_get xs m
set_other [] i m new h = refl
set_other (x ∷ xs) zero zero new h = absurd (h refl)
set_other (x ∷ xs) zero (suc m) new h = refl
set_other (x ∷ xs) (suc i) zero new h = refl
set_other (x ∷ xs) (suc i) (suc m) new h = set_other xs i m new (λ e. h (ap suc e))

pub push_here : {A : Type 0} (xs : List A) (x : A) → slice_get (xs ++ x ∷ []) (length xs) ≡ Some x
push_here [] x = refl
push_here (y ∷ ys) x = push_here ys x

pub push_other : {A : Type 0} (xs : List A) (m : ℕ) (x : A) → (length xs ≡ m → ⊥) → slice_get (xs ++ x ∷ []) m ≡ slice_get xs m
push_other [] zero x h = absurd (h refl)
push_other [] (suc m) x h = refl
push_other (y ∷ ys) zero x h = refl
push_other (y ∷ ys) (suc m) x h = push_other ys m x (λ e. h (ap suc e))

pub none_at_end : {A : Type 0} (xs : List A) → slice_get xs (length xs) ≡ None
none_at_end [] = refl
none_at_end (x ∷ xs) = none_at_end xs

pub set_length : {A : Type 0} (xs : List A) (i : ℕ) (x : A) → length (slice_set xs i x) ≡ length xs
set_length [] i x = refl
set_length (y ∷ ys) zero x = refl
set_length (y ∷ ys) (suc i) x = ap suc (set_length ys i x)

-- Shelves.

-- two lists of shelves differ at most at one place
abbrev pub Differ : List Names → List Names → ℕ → Type 0
Differ old new i = (m : ℕ) → (i ≡ m → ⊥) → slice_get new m ≡ slice_get old m

other-step : (old new : List Names) (i n m : ℕ) (ms : List ℕ) → Differ old new i → same i m + times i ms ≡ 0 → (times i ms ≡ 0 → times n (all_numbers new ms) ≡ times n (all_numbers old ms)) →
    ((i ≡ m) × (same i m ≡ 1)) ⊎ ((i ≡ m → ⊥) × (same i m ≡ 0)) → times n (all_numbers new (m ∷ ms)) ≡ times n (all_numbers old (m ∷ ms))
other-step old new i n m ms d h k (inl p) = absurd (omega (arith, p.1))
other-step old new i n m ms d h k (inr p) =
    let here = ap (λ (o : Option Names). times n (numbers_of o)) (d m p.0) in
    let rest = k (omega arith) in
    let a = times_append n (numbers_of (slice_get new m)) (all_numbers new ms) in
    let b = times_append n (numbers_of (slice_get old m)) (all_numbers old ms) in
    omega arith

-- no partition has the shelf that changes
pub all_other : (old new : List Names) (i n : ℕ) (ms : List ℕ) → Differ old new i → times i ms ≡ 0 → times n (all_numbers new ms) ≡ times n (all_numbers old ms)
all_other old new i n [] d h = refl
all_other old new i n (m ∷ ms) d h = other-step old new i n m ms d h (λ k. all_other old new i n ms d k) (pick i m)

one-step : (old new : List Names) (i n m : ℕ) (ms : List ℕ) → Differ old new i → same i m + times i ms ≡ 1 →
    (times i ms ≡ 1 → times n (all_numbers new ms) + on_shelf old n i ≡ times n (all_numbers old ms) + on_shelf new n i) →
    ((i ≡ m) × (same i m ≡ 1)) ⊎ ((i ≡ m → ⊥) × (same i m ≡ 0)) →
    times n (all_numbers new (m ∷ ms)) + on_shelf old n i ≡ times n (all_numbers old (m ∷ ms)) + on_shelf new n i
one-step old new i n m ms d h k (inl p) =
    let rest = all_other old new i n ms d (omega (arith, p.1)) in
    let at-old = ap (λ (j : ℕ). on_shelf old n j) p.0 in
    let at-new = ap (λ (j : ℕ). on_shelf new n j) p.0 in
    let a = times_append n (numbers_of (slice_get new m)) (all_numbers new ms) in
    let b = times_append n (numbers_of (slice_get old m)) (all_numbers old ms) in
    omega arith
one-step old new i n m ms d h k (inr p) =
    let here = ap (λ (o : Option Names). times n (numbers_of o)) (d m p.0) in
    let rest = k (omega arith) in
    let a = times_append n (numbers_of (slice_get new m)) (all_numbers new ms) in
    let b = times_append n (numbers_of (slice_get old m)) (all_numbers old ms) in
    omega arith

-- one partition has it
pub all_one : (old new : List Names) (i n : ℕ) (ms : List ℕ) → Differ old new i → times i ms ≡ 1 →
    times n (all_numbers new ms) + on_shelf old n i ≡ times n (all_numbers old ms) + on_shelf new n i
all_one old new i n [] d h = absurd (omega arith)
all_one old new i n (m ∷ ms) d h = one-step old new i n m ms d h (λ k. all_one old new i n ms d k) (pick i m)

bound : (b : Bool) (k : ℕ) → k ≤ one_if b → k ≤ 1
bound true k h = h
bound false k h = omega arith

-- a partition that is found has its shelf alone
has-one : (shelf : Names) (count : ℕ) → LeadToShelves shelf count → (p : List ℕ) (i : ℕ) → at_name p shelf ≡ Some i → times i (numbers shelf) ≡ 1
has-one shelf count lead p i h =
    let w = found_weight (same i) shelf p i h in
    let one = same_self i in
    let t = times_weight i shelf in
    let most = bound (nat_lt i count) (times i (numbers shelf)) (lead.once i) in
    omega arith

not-below : (n : ℕ) (b : Bool) → nat_lt n n ≡ b → one_if b ≡ 0
not-below n true h = absurd (omega (arith, (Decides-ltb n n).0 h))
not-below n false h = refl

-- no partition has the next shelf
not-yet : (shelf : Names) (count : ℕ) → LeadToShelves shelf count → times count (numbers shelf) ≡ 0
not-yet shelf count lead = let most = lead.once count in let none = not-below count (nat_lt count count) refl in omega arith

below-next : (n k : ℕ) (b c : Bool) → nat_lt n k ≡ b → nat_lt n (k + 1) ≡ c → ((n ≡ k) × (same n k ≡ 1)) ⊎ ((n ≡ k → ⊥) × (same n k ≡ 0)) → one_if b + same n k ≤ one_if c
below-next n k true true h g (inl p) = absurd (omega (arith, (Decides-ltb n k).0 h, p.0))
below-next n k true true h g (inr p) = omega (arith, p.1)
below-next n k true false h g p = absurd (omega (arith, (Decides-ltb n k).0 h, ltb-false n (k + 1) g))
below-next n k false true h g (inl p) = omega (arith, p.1)
below-next n k false true h g (inr p) = omega (arith, p.1)
below-next n k false false h g (inl p) = absurd (omega (arith, p.0, ltb-false n (k + 1) g))
below-next n k false false h g (inr p) = omega (arith, p.1)

pub no_shelves : LeadToShelves [] 0
no_shelves = record { once = λ n. omega arith }

-- a partition goes
pub shelves_without : (shelf : Names) (count : ℕ) (p : List ℕ) → LeadToShelves shelf count → LeadToShelves (without_name p shelf) count
shelves_without shelf count p lead = record {
  once = λ n.
      let less = without_less (same n) shelf p in
      let a = times_weight n shelf in
      let b = times_weight n (without_name p shelf) in
      let most = lead.once n in
      omega arith;
}

-- a partition gets the next shelf
pub shelves_with : (shelf : Names) (count : ℕ) (p : List ℕ) → LeadToShelves shelf count → LeadToShelves (put_name p count shelf) (count + 1)
shelves_with shelf count p lead = record {
  once = λ n.
      let more = put_weight (same n) shelf p count in
      let a = times_weight n shelf in
      let b = times_weight n (put_name p count shelf) in
      let most = lead.once n in
      let next = below-next n count (nat_lt n count) (nat_lt n (count + 1)) refl refl (pick n count) in
      omega arith;
}

within-of : (i k : ℕ) (b : Bool) → nat_lt i k ≡ b → 1 ≤ one_if b → i < k
within-of i k true h g = (Decides-ltb i k).0 h
within-of i k false h g = absurd (omega (arith, g))

-- the shelf of a partition is there
pub shelf_within : (shelf : Names) (count : ℕ) → LeadToShelves shelf count → (p : List ℕ) (i : ℕ) → at_name p shelf ≡ Some i → i < count
shelf_within shelf count lead p i h =
    let one = has-one shelf count lead p i h in
    let most = lead.once i in
    within-of i count (nat_lt i count) refl (omega arith)

-- A name goes.

unnamed-at : (d : Partitions) → LeadToShelves d.shelf (length d.shelves) → (p q : List ℕ) (m n i : ℕ) → at_name p d.shelf ≡ Some i → (s : Option Names) → slice_get d.shelves i ≡ s → in_names q s ≡ Some m →
    times n (named_numbers (unnamed_in q d (Some i) s)) + same n m ≡ times n (named_numbers d)
unnamed-at d lead p q m n i h None g k = search rules
unnamed-at d lead p q m n i h (Some old) g k =
    let new = slice_set d.shelves i (without_name q old) in
    let all = all_one d.shelves new i n (numbers d.shelf) (λ j ne. set_other d.shelves i j (without_name q old) ne) (has-one d.shelf (length d.shelves) lead p i h) in
    let at-new : on_shelf new n i ≡ times n (numbers (without_name q old)) = ap (λ (o : Option Names). times n (numbers_of o)) (set_here d.shelves i old (without_name q old) g) in
    let at-old : on_shelf d.shelves n i ≡ times n (numbers old) = ap (λ (o : Option Names). times n (numbers_of o)) g in
    let w = without_weight (same n) old q m k in
    let a = times_weight n old in
    let b = times_weight n (without_name q old) in
    omega arith

unnamed-of : (d : Partitions) → LeadToShelves d.shelf (length d.shelves) → (p q : List ℕ) (m n : ℕ) (o : Option ℕ) → at_name p d.shelf ≡ o → in_names q (at_shelf d.shelves o) ≡ Some m →
    times n (named_numbers (unnamed_in q d o (at_shelf d.shelves o))) + same n m ≡ times n (named_numbers d)
unnamed-of d lead p q m n None h k = search rules
unnamed-of d lead p q m n (Some i) h k = unnamed-at d lead p q m n i h (slice_get d.shelves i) refl k

pub unnamed_times : (d : Partitions) → LeadToShelves d.shelf (length d.shelves) → (p q : List ℕ) (m n : ℕ) → number_of p q d ≡ Some m → times n (named_numbers (unnamed p q d)) + same n m ≡ times n (named_numbers d)
unnamed_times d lead p q m n h = unnamed-of d lead p q m n (at_name p d.shelf) refl h

-- A partition goes.

set-empty : (shelves : List Names) (i n : ℕ) → on_shelf (slice_set shelves i []) n i ≡ 0
set-empty [] i n = refl
set-empty (s ∷ ss) zero n = refl
set-empty (s ∷ ss) (suc i) n = set-empty ss i n

without-of : (d : Partitions) → LeadToShelves d.shelf (length d.shelves) → (p : List ℕ) (n : ℕ) (o : Option ℕ) → at_name p d.shelf ≡ o →
    times n (all_numbers (emptied d.shelves o) (numbers (without_name p d.shelf))) + times n (numbers_of (at_shelf d.shelves o)) ≤ times n (named_numbers d)
without-of d lead p n None h =
    let less = without_less (on_shelf d.shelves n) d.shelf p in
    let a = all_weight d.shelves n d.shelf in
    let b = all_weight d.shelves n (without_name p d.shelf) in
    omega arith
without-of d lead p n (Some i) h =
    let new = slice_set d.shelves i [] in
    let all = all_one d.shelves new i n (numbers d.shelf) (λ j ne. set_other d.shelves i j [] ne) (has-one d.shelf (length d.shelves) lead p i h) in
    let none = set-empty d.shelves i n in
    let w = without_weight (on_shelf new n) d.shelf p i h in
    let a = all_weight new n d.shelf in
    let b = all_weight new n (without_name p d.shelf) in
    omega arith

pub without_times : (d : Partitions) → LeadToShelves d.shelf (length d.shelves) → (p : List ℕ) (n : ℕ) →
    times n (named_numbers (without_partition p d)) + times n (numbers_of (names_in p d)) ≤ times n (named_numbers d)
without_times d lead p n = without-of d lead p n (at_name p d.shelf) refl

-- A name comes.

named-new : (d : Partitions) → LeadToShelves d.shelf (length d.shelves) → (p q : List ℕ) (x n : ℕ) →
    times n (all_numbers (d.shelves ++ put_name q x [] ∷ []) (numbers (put_name p (length d.shelves) d.shelf))) ≤ times n (named_numbers d) + same n x
named-new d lead p q x n =
    let end = length d.shelves in
    let new = d.shelves ++ put_name q x [] ∷ [] in
    let more = put_weight (on_shelf new n) d.shelf p end in
    let a = all_weight new n (put_name p end d.shelf) in
    let b = all_weight new n d.shelf in
    let rest = all_other d.shelves new end n (numbers d.shelf) (λ j ne. push_other d.shelves j (put_name q x []) ne) (not-yet d.shelf end lead) in
    let at-new : on_shelf new n end ≡ times n (numbers (put_name q x [])) = ap (λ (o : Option Names). times n (numbers_of o)) (push_here d.shelves (put_name q x [])) in
    omega arith

named-at : (d : Partitions) → LeadToShelves d.shelf (length d.shelves) → (p q : List ℕ) (x n i : ℕ) → at_name p d.shelf ≡ Some i → (s : Option Names) → slice_get d.shelves i ≡ s →
    times n (named_numbers (named_in p q x d (Some i) s)) ≤ times n (named_numbers d) + same n x
named-at d lead p q x n i h None g = named-new d lead p q x n
named-at d lead p q x n i h (Some old) g =
    let new = slice_set d.shelves i (put_name q x old) in
    let all = all_one d.shelves new i n (numbers d.shelf) (λ j ne. set_other d.shelves i j (put_name q x old) ne) (has-one d.shelf (length d.shelves) lead p i h) in
    let at-new : on_shelf new n i ≡ times n (numbers (put_name q x old)) = ap (λ (o : Option Names). times n (numbers_of o)) (set_here d.shelves i old (put_name q x old) g) in
    let at-old : on_shelf d.shelves n i ≡ times n (numbers old) = ap (λ (o : Option Names). times n (numbers_of o)) g in
    let w = put_weight (same n) old q x in
    let a = times_weight n old in
    let b = times_weight n (put_name q x old) in
    omega arith

named-of : (d : Partitions) → LeadToShelves d.shelf (length d.shelves) → (p q : List ℕ) (x n : ℕ) (o : Option ℕ) → at_name p d.shelf ≡ o →
    times n (named_numbers (named_in p q x d o (at_shelf d.shelves o))) ≤ times n (named_numbers d) + same n x
named-of d lead p q x n None h = named-new d lead p q x n
named-of d lead p q x n (Some i) h = named-at d lead p q x n i h (slice_get d.shelves i) refl

pub named_times : (d : Partitions) → LeadToShelves d.shelf (length d.shelves) → (p q : List ℕ) (x n : ℕ) → times n (named_numbers (named p q x d)) ≤ times n (named_numbers d) + same n x
named_times d lead p q x n = named-of d lead p q x n (at_name p d.shelf) refl

-- Blobs.

found-in : (d : Partitions) (q : List ℕ) (n i : ℕ) (s : Option Names) → slice_get d.shelves i ≡ s → in_names q s ≡ Some n → 1 ≤ on_shelf d.shelves n i
found-in d q n i None g k = search rules
found-in d q n i (Some names) g k =
    let at : on_shelf d.shelves n i ≡ times n (numbers names) = ap (λ (o : Option Names). times n (numbers_of o)) g in
    let w = found_weight (same n) names q n k in
    let one = same_self n in
    let a = times_weight n names in
    omega arith

found-of : (d : Partitions) (p q : List ℕ) (n : ℕ) (o : Option ℕ) → at_name p d.shelf ≡ o → in_names q (at_shelf d.shelves o) ≡ Some n → 1 ≤ times n (named_numbers d)
found-of d p q n None h k = search rules
found-of d p q n (Some i) h k =
    let here = found-in d q n i (slice_get d.shelves i) refl k in
    let w = found_weight (on_shelf d.shelves n) d.shelf p i h in
    let a = all_weight d.shelves n d.shelf in
    omega arith

pub found_times : (d : Partitions) (p q : List ℕ) (n : ℕ) → number_of p q d ≡ Some n → 1 ≤ times n (named_numbers d)
found_times d p q n h = found-of d p q n (at_name p d.shelf) refl h

-- as many blobs with this number as stand
abbrev pub stands : List FileState → ℕ → ℕ
stands files n = standing (slice_get (removals files) n)

standing-most : (o : Option Bool) → standing o ≤ 1
standing-most None = omega arith
standing-most (Some true) = omega arith
standing-most (Some false) = omega arith

set-stands : (removed : List Bool) (m n : ℕ) (r : Bool) → ((n ≡ m) × (same n m ≡ 1)) ⊎ ((n ≡ m → ⊥) × (same n m ≡ 0)) → standing (slice_get removed n) ≤ standing (slice_get (slice_set removed m r) n) + same n m
set-stands removed m n r (inl p) = let most = standing-most (slice_get removed n) in omega (arith, p.1)
set-stands removed m n r (inr p) = let e = ap standing (set_other removed m n r (λ k. p.0 (sym k))) in omega (arith, p.1)

detached-stands : (files : List FileState) (m n : ℕ) (o : Option FileState) → stands files n ≤ stands (at_blob files m detached o) n + same n m
detached-stands files m n None = omega arith
detached-stands files m n (Some b) =
    let set = set-stands (removals files) m n (detached b).removed (pick n m) in
    let e : stands (slice_set files m (detached b)) n ≡ standing (slice_get (slice_set (removals files) m (detached b).removed) n) = ap (λ (rs : List Bool). standing (slice_get rs n)) (map-set (λ (f : FileState). f.removed) files m (detached b)) in
    omega arith

all-stand : (ms : List ℕ) (files : List FileState) (n : ℕ) → stands files n ≤ stands (all_detached ms files) n + times n ms
all-stand [] files n = omega arith
all-stand (m ∷ ms) files n =
    let here = detached-stands files m n (slice_get files m) in
    let rest = all-stand ms (at_place files m detached) n in
    omega arith

-- a name goes, and its blob is removed
pub keeps_unnamed : (d : Partitions) (files : List FileState) → LeadToShelves d.shelf (length d.shelves) → LeadToBlobs d (removals files) → (p q : List ℕ) (m : ℕ) → number_of p q d ≡ Some m →
    LeadToBlobs (unnamed p q d) (removals (at_place files m detached))
keeps_unnamed d files lead blobs p q m h = record {
  once = λ n.
      let a = unnamed_times d lead p q m n h in
      let b = detached-stands files m n (slice_get files m) in
      let c = blobs.once n in
      omega arith;
}

-- a partition goes, and its blobs are removed
pub keeps_without : (d : Partitions) (files : List FileState) → LeadToShelves d.shelf (length d.shelves) → LeadToBlobs d (removals files) → (p : List ℕ) →
    LeadToBlobs (without_partition p d) (removals (all_detached (numbers_of (names_in p d)) files))
keeps_without d files lead blobs p = record {
  once = λ n.
      let a = without_times d lead p n in
      let b = all-stand (numbers_of (names_in p d)) files n in
      let c = blobs.once n in
      omega arith;
}

end-none : (files : List FileState) → slice_get (removals files) (length files) ≡ None
end-none [] = refl
end-none (b ∷ bs) = end-none bs

end-some : (files : List FileState) (b : FileState) → slice_get (removals (files ++ b ∷ [])) (length files) ≡ Some b.removed
end-some [] b = refl
end-some (c ∷ cs) b = end-some cs b

end-other : (files : List FileState) (b : FileState) (n : ℕ) → (n ≡ length files → ⊥) → slice_get (removals (files ++ b ∷ [])) n ≡ slice_get (removals files) n
end-other [] b zero h = absurd (h refl)
end-other [] b (suc n) h = refl
end-other (c ∷ cs) b zero h = refl
end-other (c ∷ cs) b (suc n) h = end-other cs b n (λ e. h (ap suc e))

push-stands : (files : List FileState) (b : FileState) (n : ℕ) → b.removed ≡ false → ((n ≡ length files) × (same n (length files) ≡ 1)) ⊎ ((n ≡ length files → ⊥) × (same n (length files) ≡ 0)) →
    stands files n + same n (length files) ≤ stands (files ++ b ∷ []) n
push-stands files b n h (inl p) =
    let old : stands files n ≡ 0 = ap (stands files) p.0 ∙ ap standing (end-none files) in
    let new : stands (files ++ b ∷ []) n ≡ one_if (not b.removed) = ap (stands (files ++ b ∷ [])) p.0 ∙ ap standing (end-some files b) in
    let one : one_if (not b.removed) ≡ 1 = ap (λ (r : Bool). one_if (not r)) h in
    omega (arith, p.1)
push-stands files b n h (inr p) = let e = ap standing (end-other files b n p.0) in omega (arith, p.1)

-- a blob is made, and a name leads to it
pub keeps_named : (d : Partitions) (files : List FileState) → LeadToShelves d.shelf (length d.shelves) → LeadToBlobs d (removals files) → (p q : List ℕ) (version : BlobVersion) (token : ℕ) →
    LeadToBlobs (named p q (length files) d) (removals (files ++ fresh_file version token ∷ []))
keeps_named d files lead blobs p q version token = record {
  once = λ n.
      let a = named_times d lead p q (length files) n in
      let b = push-stands files (fresh_file version token) n refl (pick n (length files)) in
      let c = blobs.once n in
      omega arith;
}

stands-there : (files : List FileState) (n : ℕ) → 1 ≤ stands files n → is_some (slice_get files n) ≡ true
stands-there [] n h = absurd (omega (arith, h))
stands-there (b ∷ bs) zero h = refl
stands-there (b ∷ bs) (suc n) h = stands-there bs n h

-- the blob of a name is there
pub named_there : (d : Partitions) (files : List FileState) → LeadToBlobs d (removals files) → (p q : List ℕ) (n : ℕ) → number_of p q d ≡ Some n → is_some (slice_get files n) ≡ true
named_there d files blobs p q n h = let one = found_times d p q n h in let most = blobs.once n in stands-there files n (omega arith)

-- A change of a blob that leaves whether it was removed.

set-same : (files : List FileState) (i : ℕ) (old new : FileState) → slice_get files i ≡ Some old → new.removed ≡ old.removed → removals (slice_set files i new) ≡ removals files
set-same [] i old new h e = refl
set-same (b ∷ bs) zero old new h e =
    let is : b ≡ old = search (rules, h) in
    ap (λ (r : Bool). r ∷ removals bs) (e ∙ ap (λ (f : FileState). f.removed) (sym is))
set-same (b ∷ bs) (suc i) old new h e = ap (λ (rs : List Bool). b.removed ∷ rs) (set-same bs i old new h e)

at-same : (f : FileState → FileState) → ((b : FileState) → (f b).removed ≡ b.removed) → (files : List FileState) (i : ℕ) (o : Option FileState) → ((b : FileState) → o ≡ Some b → slice_get files i ≡ Some b) →
    removals (at_blob files i f o) ≡ removals files
at-same f keeps files i None h = refl
at-same f keeps files i (Some b) h = set-same files i b (f b) (h b refl) (keeps b)

token-is : (t : Bool) (c b : FileState) → cond t (let o : Option FileState = Some c in o) None ≡ Some b → (let o : Option FileState = Some c in o) ≡ Some b
token-is true c b h = h
token-is false c b h = search rules

open-is : (n : ℕ) (o : Option FileState) (b : FileState) → if_open n o ≡ Some b → o ≡ Some b
open-is n None b h = search rules
open-is n (Some c) b h = token-is (is_token n c.token) c b h

keeps-at : (f : FileState → FileState) → ((b : FileState) → (f b).removed ≡ b.removed) → (d : Partitions) (files : List FileState) (i : ℕ) → LeadToBlobs d (removals files) → LeadToBlobs d (removals (at_place files i f))
keeps-at f keeps d files i blobs = subst (λ (rs : List Bool). LeadToBlobs d rs) (sym (at-same f keeps files i (slice_get files i) (λ b h. h))) blobs

keeps-live : (f : FileState → FileState) → ((b : FileState) → (f b).removed ≡ b.removed) → (d : Partitions) (files : List FileState) (k : Blob) → LeadToBlobs d (removals files) → LeadToBlobs d (removals (at_blob files k.place f (live files k)))
keeps-live f keeps d files k blobs = subst (λ (rs : List Bool). LeadToBlobs d rs) (sym (at-same f keeps files k.place (live files k) (λ b h. open-is k.number (slice_get files k.place) b h))) blobs

mutated-removed : (m : Mutation) (b : FileState) (settled : Bool) → (cond settled (record b { content = applied m b.content; base = applied m b.base }) (record b { content = applied m b.content; later = b.later ++ m ∷ [] })).removed ≡ b.removed
mutated-removed m b true = refl
mutated-removed m b false = refl

closed-removed : (b : FileState) (removed : Bool) → (cond removed (record b { token = None; content = []; base = [] }) (record b { token = None })).removed ≡ b.removed
closed-removed b true = refl
closed-removed b false = refl

pub keeps_mutated : (d : Partitions) (files : List FileState) (k : Blob) (m : Mutation) → LeadToBlobs d (removals files) → LeadToBlobs d (removals (at_blob files k.place (mutated m) (live files k)))
keeps_mutated d files k m blobs = keeps-live (mutated m) (λ b. mutated-removed m b (is_settled m b)) d files k blobs

pub keeps_synced : (d : Partitions) (files : List FileState) (k : Blob) → LeadToBlobs d (removals files) → LeadToBlobs d (removals (at_blob files k.place synced (live files k)))
keeps_synced d files k blobs = keeps-live synced (λ b. refl) d files k blobs

pub keeps_closed : (d : Partitions) (files : List FileState) (k : Blob) → LeadToBlobs d (removals files) → LeadToBlobs d (removals (at_blob files k.place closed (live files k)))
keeps_closed d files k blobs = keeps-live closed (λ b. closed-removed b b.removed) d files k blobs

pub keeps_admitted : (d : Partitions) (files : List FileState) (i : ℕ) → LeadToBlobs d (removals files) → LeadToBlobs d (removals (at_place files i synced))
keeps_admitted d files i blobs = keeps-at synced (λ b. refl) d files i blobs

pub keeps_token : (d : Partitions) (files : List FileState) (i token : ℕ) → LeadToBlobs d (removals files) → LeadToBlobs d (removals (at_place files i (with_token token)))
keeps_token d files i token blobs = keeps-at (with_token token) (λ b. refl) d files i blobs

pub keeps_crashed : (d : Partitions) (is : List ℕ) (cs : List Choice) (files : List FileState) → LeadToBlobs d (removals files) → LeadToBlobs d (removals (all_crashed is cs files))
keeps_crashed d [] cs files blobs = blobs
keeps_crashed d (i ∷ is) cs files blobs =
    keeps_crashed d is (choices_after files i cs) (crashed_at files i cs) (keeps-at (crashed (take (length (later_at files i)) cs)) (λ b. refl) d files i blobs)

all-closed : (files : List FileState) → removals (map closed files) ≡ removals files
all-closed [] = refl
all-closed (b ∷ bs) = ap (λ (r : Bool). r ∷ removals (map closed bs)) (closed-removed b b.removed) ∙ ap (λ (rs : List Bool). b.removed ∷ rs) (all-closed bs)

pub keeps_all_closed : (d : Partitions) (files : List FileState) → LeadToBlobs d (removals files) → LeadToBlobs d (removals (map closed files))
keeps_all_closed d files blobs = subst (λ (rs : List Bool). LeadToBlobs d rs) (sym (all-closed files)) blobs

pub no_blobs : LeadToBlobs no_partitions []
no_blobs = record { once = λ n. omega arith }

-- a shelf that is read by its place
pub shelf_there : (shelves : List Names) (i : ℕ) (names : Names) → i < length shelves → names ≡ get_or shelves i names → slice_get shelves i ≡ Some names
shelf_there [] i names lt h = absurd (omega arith)
shelf_there (s ∷ ss) zero names lt h = ap (λ (x : Names). let o : Option Names = Some x in o) (sym h)
shelf_there (s ∷ ss) (suc i) names lt h = shelf_there ss i names (omega arith) h

-- what a change of a partition that is there gives
pub unnamed_is : (d : Partitions) (p q : List ℕ) (i : ℕ) (old : Names) → at_name p d.shelf ≡ Some i → slice_get d.shelves i ≡ Some old →
    unnamed p q d ≡ record d { shelves = slice_set d.shelves i (without_name q old) }
unnamed_is d p q i old h g = ap (λ (o : Option ℕ). unnamed_in q d o (at_shelf d.shelves o)) h ∙ ap (λ (s : Option Names). unnamed_in q d (Some i) s) g

pub named_is : (d : Partitions) (p q : List ℕ) (x i : ℕ) (old : Names) → at_name p d.shelf ≡ Some i → slice_get d.shelves i ≡ Some old →
    named p q x d ≡ record d { shelves = slice_set d.shelves i (put_name q x old) }
named_is d p q x i old h g = ap (λ (o : Option ℕ). named_in p q x d o (at_shelf d.shelves o)) h ∙ ap (λ (s : Option Names). named_in p q x d (Some i) s) g

pub push_length : {A : Type 0} (xs : List A) (x : A) → length (xs ++ x ∷ []) ≡ length xs + 1
push_length [] x = refl
push_length (y ∷ ys) x = let rec = push_length ys x in omega arith
