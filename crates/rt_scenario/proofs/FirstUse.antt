-- Names in the order of their first use, and in byte order.
use Rattle.rt_scenario.proofs.Prelude.{◌≡◌, ℕ, zero, suc, ◌+◌, ◌≤◌, ◌<◌, ◌==◌, Bool, true, false, ◌||◌, if◌then◌else◌, List, [], ◌∷◌, ◌++◌, length, map, drop, get_or, fold, refl, sym, ap, subst, ◌∙◌, true≢false, arith, slice_set, ◌≢◌, Ordering, Less, Equal, Greater, BTreeSet, insert_key, All, AllByRecursion, IsDistinct, list_any, IsPermutation, IsSorted, IsStrictlySortedBy, is_eq, is_lt, nat_cmp, eq_by_cmp, ordering_then, match_ordering, bytes_eq, nat_list_cmp_total, nat_list_eq_equiv, same_text, nat_tests, get_or-append_seam, append-nil, drop_all, ext_get_or, get_or-map, get_or-set_same, get_or-set_other, length-append, length-map, All-cons, All-tail, All-permutation, IsPermutation-map, length_permutation, list_any-IsPermutation, fold_push, IsDistinct-IsPermutation, apart_from_distinct, sorted_from_all_adjacent, btree_set_from_contains, exact_bytes, is_eq-slice_cmp, insert_last, text_cmp, in_order, numbered_from, place_of}
use Rattle.rt_scenario.proofs.InOrder.{own_place}
use Rattle.rt_scenario.proofs.Seen.{Has, has_own, has_kept, turned, same}

-- what a list of names has

kept_all : (names start : List (List ℕ)) (q : List ℕ) → Has start q → Has (fold (insert_key text_cmp) start names) q
kept_all [] start q h = h
kept_all (n ∷ ns) start q h = kept_all ns (insert_key text_cmp start n) q (has_kept q n start h)

in_all : (names start : List (List ℕ)) (q : List ℕ) → list_any (bytes_eq q) names ≡ true → Has (fold (insert_key text_cmp) start names) q
in_all [] start q h = absurd (cc)
in_all (n ∷ ns) start q h = by (bytes_eq q n) refl (in_all ns (insert_key text_cmp start n) q)
  where
    by : (b : Bool) → bytes_eq q n ≡ b → (list_any (bytes_eq q) ns ≡ true → Has (fold (insert_key text_cmp) (insert_key text_cmp start n) ns) q) → Has (fold (insert_key text_cmp) (insert_key text_cmp start n) ns) q
    by true e more =
        subst (λ x. Has (fold (insert_key text_cmp) (insert_key text_cmp start n) ns) x) (sym (same_text q n (sym e)))
        (kept_all ns (insert_key text_cmp start n) n (has_own start n))
    by false e more = more (sym (ap (λ b. b || list_any (bytes_eq q) ns) e) ∙ h)

-- a name more
pub in_order_more : (names : List (List ℕ)) (name : List ℕ) → in_order (insert_last bytes_eq names name) ≡ insert_key text_cmp (in_order names) name
in_order_more names name = by (list_any (bytes_eq name) names) refl
  where
    by : (b : Bool) → list_any (bytes_eq name) names ≡ b → in_order (if b then names else names ++ name ∷ []) ≡ insert_key text_cmp (in_order names) name
    by true e = sym (in_all names [] name e)
    by false e = fold_push (insert_key text_cmp) [] names name

-- names in order

below_all : (ks : List (List ℕ)) (k x : List ℕ) → text_cmp k x ≡ Less → AllByRecursion (λ y. text_cmp x y ≡ Less) ks → AllByRecursion (λ y. text_cmp k y ≡ Less) ks
below_all [] k x e h = tt
below_all (y ∷ ys) k x e h = (nat_list_cmp_total.trans k x y e h.0, below_all ys k x e h.1)

all_with : (P : List ℕ → Type 0) (ks : List (List ℕ)) (k : List ℕ) → P k → AllByRecursion P ks → AllByRecursion P (insert_key text_cmp ks k)
all_with P [] k p h = (p, tt)
all_with P (x ∷ xs) k p h = by (text_cmp k x) (all_with P xs k p h.1)
  where
    by : (r : Ordering) → AllByRecursion P (insert_key text_cmp xs k) → AllByRecursion P (match_ordering r (k ∷ x ∷ xs) (x ∷ xs) (x ∷ insert_key text_cmp xs k))
    by Less more = (p, h)
    by Equal more = h
    by Greater more = (h.0, more)

pub sorted_with : (ks : List (List ℕ)) (k : List ℕ) → IsStrictlySortedBy text_cmp ks → IsStrictlySortedBy text_cmp (insert_key text_cmp ks k)
unfolding IsStrictlySortedBy
sorted_with [] k s = (tt, tt)
sorted_with (x ∷ xs) k s = by (text_cmp k x) refl (sorted_with xs k s.1)
  where
    by : (r : Ordering) → text_cmp k x ≡ r → IsStrictlySortedBy text_cmp (insert_key text_cmp xs k) → IsStrictlySortedBy text_cmp (match_ordering r (k ∷ x ∷ xs) (x ∷ xs) (x ∷ insert_key text_cmp xs k))
    by Less e more = ((e, below_all xs k x e s.0), s)
    by Equal e more = s
    by Greater e more = (all_with (λ y. text_cmp x y ≡ Less) xs k (turned k x Greater e) s.0, more)

sorted_all : (names start : List (List ℕ)) → IsStrictlySortedBy text_cmp start → IsStrictlySortedBy text_cmp (fold (insert_key text_cmp) start names)
sorted_all [] start s = s
sorted_all (n ∷ ns) start s = sorted_all ns (insert_key text_cmp start n) (sorted_with start n s)

pub none_sorted : IsStrictlySortedBy text_cmp []
unfolding IsStrictlySortedBy
none_sorted = tt

swapped : (a b c : Bool) → (a || (b || c)) ≡ (b || (a || c))
swapped true true c = refl
swapped true false c = refl
swapped false b c = refl

twice : (a c : Bool) → (a || c) ≡ (a || (a || c))
twice true c = refl
twice false c = refl

any_with : (q : List ℕ) (ks : List (List ℕ)) (k : List ℕ) → list_any (eq_by_cmp text_cmp q) (insert_key text_cmp ks k) ≡ (eq_by_cmp text_cmp q k || list_any (eq_by_cmp text_cmp q) ks)
any_with q [] k = refl
any_with q (x ∷ xs) k = by (text_cmp k x) refl (any_with q xs k)
  where
    rest : Bool
    rest = list_any (eq_by_cmp text_cmp q) xs

    by : (r : Ordering) → text_cmp k x ≡ r → list_any (eq_by_cmp text_cmp q) (insert_key text_cmp xs k) ≡ (eq_by_cmp text_cmp q k || rest) → list_any (eq_by_cmp text_cmp q) (match_ordering r (k ∷ x ∷ xs) (x ∷ xs) (x ∷ insert_key text_cmp xs k)) ≡ (eq_by_cmp text_cmp q k || (eq_by_cmp text_cmp q x || rest))
    by Less e more = refl
    by Equal e more = twice (eq_by_cmp text_cmp q x) rest ∙ ap (λ y. eq_by_cmp text_cmp q y || (eq_by_cmp text_cmp q x || rest)) (sym (same k x e))
    by Greater e more = ap (λ b. eq_by_cmp text_cmp q x || b) more ∙ swapped (eq_by_cmp text_cmp q x) (eq_by_cmp text_cmp q k) rest

grouped : (a b c : Bool) → (a || (b || c)) ≡ ((b || a) || c)
grouped true true c = refl
grouped true false c = refl
grouped false true c = refl
grouped false false c = refl

any_all : (q : List ℕ) (names start : List (List ℕ)) → list_any (eq_by_cmp text_cmp q) (fold (insert_key text_cmp) start names) ≡ (list_any (eq_by_cmp text_cmp q) names || list_any (eq_by_cmp text_cmp q) start)
any_all q [] start = refl
any_all q (n ∷ ns) start =
    any_all q ns (insert_key text_cmp start n)
    ∙ ap (λ b. list_any (eq_by_cmp text_cmp q) ns || b) (any_with q start n)
    ∙ grouped (list_any (eq_by_cmp text_cmp q) ns) (eq_by_cmp text_cmp q n) (list_any (eq_by_cmp text_cmp q) start)

-- two names may be taken in the other way round
swap_keys : (names : List (List ℕ)) (a b : List ℕ) → IsStrictlySortedBy text_cmp names → insert_key text_cmp (insert_key text_cmp names a) b ≡ insert_key text_cmp (insert_key text_cmp names b) a
swap_keys names a b s =
    let one : BTreeSet (List ℕ) = record { keys = insert_key text_cmp (insert_key text_cmp names a) b } in
    let other : BTreeSet (List ℕ) = record { keys = insert_key text_cmp (insert_key text_cmp names b) a } in
    btree_set_from_contains nat_list_cmp_total one other (sorted_with (insert_key text_cmp names a) b (sorted_with names a s)) (sorted_with (insert_key text_cmp names b) a (sorted_with names b s))
    (λ q.
    any_with q (insert_key text_cmp names a) b
    ∙ ap (λ r. eq_by_cmp text_cmp q b || r) (any_with q names a)
    ∙ swapped (eq_by_cmp text_cmp q b) (eq_by_cmp text_cmp q a) (list_any (eq_by_cmp text_cmp q) names)
    ∙ sym (any_with q (insert_key text_cmp names b) a ∙ ap (λ r. eq_by_cmp text_cmp q a || r) (any_with q names b)))
    exact_bytes

-- so may one and then many
pub key_first : (names start : List (List ℕ)) (name : List ℕ) → IsStrictlySortedBy text_cmp start → fold (insert_key text_cmp) (insert_key text_cmp start name) names ≡ insert_key text_cmp (fold (insert_key text_cmp) start names) name
key_first [] start name s = refl
key_first (n ∷ ns) start name s = ap (λ l. fold (insert_key text_cmp) l ns) (swap_keys start name n s) ∙ key_first ns (insert_key text_cmp start n) name (sorted_with start n s)

or_none : (a : Bool) → (a || false) ≡ a
or_none true = refl
or_none false = refl

-- names in order are those that are taken in one by one
ordered_is : (names ks : List (List ℕ)) → IsStrictlySortedBy text_cmp ks → IsPermutation names ks → in_order names ≡ ks
ordered_is names ks sorted perm =
    let one : BTreeSet (List ℕ) = record { keys = in_order names } in
    let other : BTreeSet (List ℕ) = record { keys = ks } in
    btree_set_from_contains nat_list_cmp_total one other (sorted_all names [] none_sorted) sorted
    (λ q. any_all q names [] ∙ or_none (list_any (eq_by_cmp text_cmp q) names) ∙ list_any-IsPermutation (eq_by_cmp text_cmp q) names ks perm)
    exact_bytes

-- names with their indices, sorted

abbrev pub first : List ℕ × ℕ → List ℕ
first p = p.0

abbrev pub pair_cmp : List ℕ × ℕ → List ℕ × ℕ → Ordering
pair_cmp x y = ordering_then (text_cmp x.0 y.0) (nat_cmp x.1 y.1)

rises : (x y : List ℕ) (o : Ordering) → is_lt (ordering_then (text_cmp y x) o) ≡ false → bytes_eq x y ≡ false → text_cmp x y ≡ Less
rises x y o up apart = by (text_cmp y x) refl
  where
    by : (r : Ordering) → text_cmp y x ≡ r → text_cmp x y ≡ Less
    by Less e = absurd (true≢false (sym (ap (λ r. is_lt (ordering_then r o)) e) ∙ up))
    by Equal e = absurd (true≢false (sym (ap is_eq (turned y x Equal e)) ∙ is_eq-slice_cmp x y ∙ apart))
    by Greater e = turned y x Greater e

pub strictly : (ps : List (List ℕ × ℕ)) → IsSorted pair_cmp ps → IsDistinct bytes_eq (map first ps) → IsStrictlySortedBy text_cmp (map first ps)
strictly ps up apart = sorted_from_all_adjacent nat_list_cmp_total (map first ps) [] (λ k inside. at k (omega (arith, inside, length-map ps first)))
  where
    none : List ℕ × ℕ
    none = ([], 0)

    at : (k : ℕ) → k + 1 < length ps → text_cmp (get_or (map first ps) k []) (get_or (map first ps) (k + 1) []) ≡ Less
    at k inside =
        let here = get_or-map first ps k none [] (omega (arith, inside)) in
        let next = get_or-map first ps (k + 1) none [] inside in
        let differ = apart_from_distinct bytes_eq (map first ps) k (k + 1) [] apart (omega arith) (omega (arith, inside, length-map ps first)) in
        rw (here, next) (rises (get_or ps k none).0 (get_or ps (k + 1) none).0 _ (up k none (omega arith) inside) (rw (here, next) at differ))

pub first_numbered : (n : ℕ) (names : List (List ℕ)) → map first (numbered_from n names) ≡ names
first_numbered n [] = refl
first_numbered n (name ∷ names) = ap (λ l. name ∷ l) (first_numbered (n + 1) names)

pub length_numbered : (n : ℕ) (names : List (List ℕ)) → length (numbered_from n names) ≡ length names
length_numbered n [] = refl
length_numbered n (name ∷ names) = ap suc (length_numbered (n + 1) names)

-- the names are all numbered
pub all_numbered : (so_far : List (List ℕ × ℕ)) (names : List (List ℕ)) (i : ℕ) (all : List (List ℕ × ℕ)) → length names ≤ i → so_far ++ numbered_from i (drop i names) ≡ all → so_far ≡ all
all_numbered so_far names i all past e = sym (append-nil so_far) ∙ ap (λ r. so_far ++ numbered_from i r) (sym (drop_all i names past)) ∙ e

within_from : (n m : ℕ) (names : List (List ℕ)) → n + length names ≤ m → All (λ (p : List ℕ × ℕ). p.1 < m) (numbered_from n names)
within_from n m [] h = λ k d inside. absurd (omega (arith, inside))
within_from n m (name ∷ names) h = All-cons (λ (p : List ℕ × ℕ). p.1 < m) (name, n) (numbered_from (n + 1) names) (omega (arith, h)) (within_from (n + 1) m names (omega (arith, h)))

own_from : (all : List (List ℕ)) (n : ℕ) (names : List (List ℕ)) → ((i : ℕ) → i < length names → get_or all (n + i) [] ≡ get_or names i []) → All (λ (p : List ℕ × ℕ). get_or all p.1 [] ≡ p.0) (numbered_from n names)
own_from all n [] h = λ k d inside. absurd (omega (arith, inside))
own_from all n (name ∷ names) h =
    All-cons (λ (p : List ℕ × ℕ). get_or all p.1 [] ≡ p.0) (name, n) (numbered_from (n + 1) names) (ap (λ i. get_or all i []) none ∙ h 0 (omega arith))
    (own_from all (n + 1) names (λ i inside. ap (λ j. get_or all j []) (sums i) ∙ h (suc i) (omega (arith, inside))))
  where
    none : n ≡ n + 0
    none = omega arith

    sums : (i : ℕ) → (n + 1) + i ≡ n + suc i
    sums i = omega arith

each_from : (n i : ℕ) (names : List (List ℕ)) → i < length names → list_any (λ (p : List ℕ × ℕ). p.1 == n + i) (numbered_from n names) ≡ true
each_from n i [] h = absurd (omega (arith, h))
each_from n zero (name ∷ names) h = let e : (n == n + 0) ≡ true = grind (arith, nat_tests) in rw e refl
each_from n (suc i) (name ∷ names) h =
    let sums : (n + 1) + i ≡ n + suc i = omega arith in
    let more = subst (λ j. list_any (λ (p : List ℕ × ℕ). p.1 == j) (numbered_from (n + 1) names) ≡ true) sums (each_from (n + 1) i names (omega (arith, h))) in
    ap (λ b. (n == n + suc i) || b) more ∙ or_true (n == n + suc i)
  where
    or_true : (a : Bool) → (a || true) ≡ true
    or_true true = refl
    or_true false = refl

pub within_sorted : (names : List (List ℕ)) (ps : List (List ℕ × ℕ)) → IsPermutation (numbered_from 0 names) ps → All (λ (p : List ℕ × ℕ). p.1 < length ps) ps
within_sorted names ps perm =
    let same_length : length names ≡ length ps = sym (length_permutation (numbered_from 0 names) ps perm ∙ length_numbered 0 names) in
    All-permutation (λ (p : List ℕ × ℕ). p.1 < length ps) (numbered_from 0 names) ps perm (within_from 0 (length ps) names (omega (arith, same_length)))

first_sorted : (names : List (List ℕ)) (ps : List (List ℕ × ℕ)) → IsPermutation (numbered_from 0 names) ps → IsPermutation names (map first ps)
first_sorted names ps perm = subst (λ l. IsPermutation l (map first ps)) (first_numbered 0 names) (IsPermutation-map first (numbered_from 0 names) ps perm)

flips : (x y : List ℕ) → bytes_eq x y ≡ bytes_eq y x
flips = nat_list_eq_equiv.symm

pub distinct_sorted : (names : List (List ℕ)) (ps : List (List ℕ × ℕ)) → IsPermutation (numbered_from 0 names) ps → IsDistinct bytes_eq names → IsDistinct bytes_eq (map first ps)
distinct_sorted names ps perm d = IsDistinct-IsPermutation bytes_eq flips names (map first ps) (first_sorted names ps perm) d

-- the names of all, once they are sorted, are the names in order
pub ordered : (names : List (List ℕ)) (ps : List (List ℕ × ℕ)) → IsPermutation (numbered_from 0 names) ps → IsSorted pair_cmp ps → IsDistinct bytes_eq names → in_order names ≡ map first ps
ordered names ps perm up apart = ordered_is names (map first ps) (strictly ps up (distinct_sorted names ps perm apart)) (first_sorted names ps perm)

-- the names to come have their indices, and each place that none of them fills is right
abbrev pub Filled : List (List ℕ) → List (List ℕ) → List ℕ → List (List ℕ × ℕ) → Type 0
Filled names all places rest =
    All (λ (p : List ℕ × ℕ). get_or all p.1 [] ≡ p.0) rest
    × ((i : ℕ) → i < length all → list_any (λ (p : List ℕ × ℕ). p.1 == i) rest ≡ false → get_or places i 0 ≡ place_of names (get_or all i []))

pub filled_first : (names all : List (List ℕ)) (places : List ℕ) (ps : List (List ℕ × ℕ)) → IsPermutation (numbered_from 0 all) ps → Filled names all places ps
filled_first names all places ps perm = (
  All-permutation (λ (p : List ℕ × ℕ). get_or all p.1 [] ≡ p.0) (numbered_from 0 all) ps perm (own_from all 0 all (λ i inside. ap (λ j. get_or all j []) (none_first i))),
  λ i inside none. absurd (true≢false (sym (subst (λ j. list_any (λ (p : List ℕ × ℕ). p.1 == j) (numbered_from 0 all) ≡ true) (none_first i) (each_from 0 i all inside)) ∙ list_any-IsPermutation (λ (p : List ℕ × ℕ). p.1 == i) (numbered_from 0 all) ps perm ∙ none)),
)
  where
    none_first : (i : ℕ) → 0 + i ≡ i
    none_first i = omega arith

pub filled_more : (names all : List (List ℕ)) (places : List ℕ) (p : List ℕ × ℕ) (rest : List (List ℕ × ℕ)) (k : ℕ) → IsStrictlySortedBy text_cmp names → k < length names → get_or names k [] ≡ p.0 → p.1 < length places → Filled names all places (p ∷ rest) → Filled names all (slice_set places p.1 k) rest
filled_more names all places p rest k sorted inside here low f =
    (All-tail (λ (p : List ℕ × ℕ). get_or all p.1 [] ≡ p.0) p rest f.0, λ i below none. by i below none (p.1 == i) refl)
  where
    by : (i : ℕ) → i < length all → list_any (λ (p : List ℕ × ℕ). p.1 == i) rest ≡ false → (b : Bool) → (p.1 == i) ≡ b → get_or (slice_set places p.1 k) i 0 ≡ place_of names (get_or all i [])
    by i below none true e =
        let is : p.1 ≡ i = grind (arith, nat_tests, e) in
        let own : get_or all p.1 [] ≡ p.0 = f.0 0 p (omega arith) in
        subst (λ j. get_or (slice_set places p.1 k) j 0 ≡ place_of names (get_or all j [])) is
        (get_or-set_same places p.1 k 0 low ∙ sym (own_place names k [] sorted inside) ∙ ap (place_of names) (here ∙ sym own))
    by i below none false e =
        let differ : i ≢ p.1 = λ is. true≢false (grind (arith, nat_tests, e, is)) in
        get_or-set_other places p.1 i k 0 differ ∙ f.1 i below (ap (λ b. b || list_any (λ (p : List ℕ × ℕ). p.1 == i) rest) e ∙ none)

pub filled_last : (names all : List (List ℕ)) (places : List ℕ) → length places ≡ length all → Filled names all places [] → places ≡ map (place_of names) all
filled_last names all places long f =
    ext_get_or 0 places (map (place_of names) all) (long ∙ sym (length-map all (place_of names)))
    (λ i inside. f.1 i (omega (arith, inside, long)) refl ∙ sym (get_or-map (place_of names) all i [] 0 (omega (arith, inside, long))))

-- the next name's place, where the names so far and those to come are all
pub inside : (names : List (List ℕ)) (p : List ℕ × ℕ) (rest ps : List (List ℕ × ℕ)) → names ++ map first (p ∷ rest) ≡ map first ps → length names < length (map first ps)
inside names p rest ps all = omega (arith, ap length all, length-append names (map first (p ∷ rest)))

pub here : (names : List (List ℕ)) (p : List ℕ × ℕ) (rest ps : List (List ℕ × ℕ)) → names ++ map first (p ∷ rest) ≡ map first ps → get_or (map first ps) (length names) [] ≡ p.0
here names p rest ps all = ap (λ l. get_or l (length names) []) (sym all) ∙ get_or-append_seam names p.0 (map first rest) []
