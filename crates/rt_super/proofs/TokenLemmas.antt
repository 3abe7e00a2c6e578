-- Signals and completions in memory: lookups, lists and counts.
use Rattle.rt_super.proofs.Prelude.{◌≡◌, ◌<◌, ◌≤◌, ◌+◌, ◌-◌, ◌&&◌, ◌||◌, ◌==◌, ℕ, zero, suc, true, false, List, [], ◌∷◌, ◌++◌, refl, ap, sym, ◌∙◌, arith, Option, Some, None, length, length-append, eqb, set, get_or, inl, inr, if◌then◌else◌, nat_lt, option_map, is_some, cases_Bool, cases_lt, map-append, length-map, length-set, length_push, get_or_past, slice_get-map, slice_get-get_or, get_or_from_slice_get, Vec, Global, common_steps, stands_in, find, without, replaced, those, AreRising, new_token, is_open, waits_in, unwaited, waiting_as, lists_of, wait_of, with_met, Stand, AreAscending, IsLeft, owners, count_of, numbers_at, AreTied, SignalToken}
use Rattle.std.specs.Prelude.{slice_get}

-- lookups

pub find-replaced : {V : Type 0} (change : V → V) (k n : ℕ) (xs : List (ℕ × V)) → find n (replaced change k xs) ≡ (if eqb n k then option_map change (find n xs) else find n xs)
find-replaced change k n [] = grind arith
find-replaced change k n (x ∷ xs) = grind (arith, find-replaced change k n xs)

pub find-without : {V : Type 0} (k n : ℕ) (xs : List (ℕ × V)) → eqb n k ≡ false → find n (without k xs) ≡ find n xs
find-without k n [] e = refl
find-without k n (x ∷ xs) e = grind (arith, find-without k n xs)

pub rising-replaced : {V : Type 0} (change : V → V) (k : ℕ) (xs : List (ℕ × V)) → AreRising xs → AreRising (replaced change k xs)
rising-replaced change k [] h = tt
rising-replaced change k (x ∷ xs) h = elim (cases_Bool (eqb x.0 k)) [
  | inl e ↦ let same : x.0 ≡ k = grind arith in rw e ((rw (← same) h.0), h.1)
  | inr e ↦ rw e ((λ n l. rw (find-replaced change k n xs, h.0 n l) (grind arith)), rising-replaced change k xs h.1)
]

-- whom a group's waits are met

pub unwaited-met : (g n : ℕ) (ts : List (ℕ × SignalToken)) → unwaited g (with_met g n ts) ≡ unwaited g ts
unwaited-met g n [] = refl
unwaited-met g n (t ∷ ts) = grind (arith, unwaited-met g n ts)

-- a number that waits and comes first is the least that waits
pub waits-met : (g n : ℕ) (ns : List ℕ) (ts : List (ℕ × SignalToken)) → AreRising ts → AreAscending (n ∷ ns) → Stand g (n ∷ ns) ts → waits_in g ts ≡ wait_of g n ts ++ waits_in g (with_met g n ts)
waits-met g n ns [] rise up stand = refl
waits-met g n ns (t ∷ ts) rise up stand = elim (cases_Bool (eqb t.0 n)) [
  | inl e ↦ grind (arith, common_steps)
  | inr e ↦ elim (cases_Bool (t.1.group == g && is_some t.1.waits)) [
    | inl w ↦
        let here : stands_in (n ∷ ns) t.0 ≡ true = stand t.0 t.1 (grind arith) w in
        let among : stands_in ns t.0 ≡ true = grind arith in
        let above : n < t.0 = after n t.0 ns up.0 among in
        let none : find n ts ≡ None = rise.0 n (omega (arith, above)) in
        grind (arith, none)
    | inr w ↦
        let rest = waits-met g n ns ts rise.1 up (λ m u f. stand m u (later m u f)) in
        grind (arith, common_steps, rest)
  ]
]
  where
    after : (n m : ℕ) (ns : List ℕ) → ((k : ℕ) → k ≤ n → stands_in ns k ≡ false) → stands_in ns m ≡ true → n < m
    after n m ns none is = elim (cases_lt n m) [
      | inl l ↦ l
      | inr l ↦ let f = none m l in absurd (cc)
    ]

    later : (m : ℕ) (u : SignalToken) → find m ts ≡ Some u → find m (t ∷ ts) ≡ Some u
    later m u f = elim (cases_Bool (eqb t.0 m)) [
      | inl s ↦ let none = rise.0 m (grind arith) in absurd (cc)
      | inr s ↦ rw s f
    ]

-- where no one of a group waits, none is met
pub all-met : (g : ℕ) (ts : List (ℕ × SignalToken)) → AreRising ts → Stand g [] ts → (unwaited g ts ≡ ts) × (waits_in g ts ≡ [])
all-met g [] rise stand = (refl, refl)
all-met g (t ∷ ts) rise stand =
    let rest = all-met g ts rise.1 (λ m u f. stand m u (later m u f)) in
    elim (cases_Bool (t.1.group == g)) [
      | inl e ↦
          let none = none_waits t.1.waits (λ w. stand t.0 t.1 (grind arith) (grind arith)) in
          let same : new_token g ≡ t.1 = is_new t.1 (grind arith) none in
          (grind (arith, rest, same), grind (arith, rest, none))
      | inr e ↦ (grind (arith, rest), grind (arith, rest))
    ]
  where
    later : (m : ℕ) (u : SignalToken) → find m ts ≡ Some u → find m (t ∷ ts) ≡ Some u
    later m u f = elim (cases_Bool (eqb t.0 m)) [
      | inl s ↦ let none = rise.0 m (grind arith) in absurd (cc)
      | inr s ↦ rw s f
    ]

    none_waits : (w : Option ℕ) → (is_some w ≡ true → false ≡ true) → w ≡ None
    none_waits None h = refl
    none_waits (Some x) h = let e = h refl in absurd (cc)

    is_new : (v : SignalToken) → v.group ≡ g → v.waits ≡ None → new_token g ≡ v
    is_new v e w = rw (← e, ← w) refl

met-same : (g n : ℕ) (t : SignalToken) (ts : List (ℕ × SignalToken)) → find n (with_met g n ts) ≡ Some t → (t.group == g && is_some t.waits) ≡ false
met-same g n t ts f = grind (arith, find-replaced (λ old. new_token g) n n ts)

met-other : (g n m : ℕ) (ts : List (ℕ × SignalToken)) → eqb m n ≡ false → find m (with_met g n ts) ≡ find m ts
met-other g n m ts e = grind (arith, find-replaced (λ old. new_token g) n m ts)

-- one is met, and those behind it are left
pub left-step : (g n : ℕ) (ns : List ℕ) (ts : List (ℕ × SignalToken)) → IsLeft g (n ∷ ns) ts → IsLeft g ns (with_met g n ts)
left-step g n ns ts left = record {
  stand = λ m t f w. among m t f w;
  ascending = left.ascending.1;
  rising = risen;
}
  where
    risen : AreRising (with_met g n ts)
    risen = grind (arith, rising-replaced (λ old. new_token g) n ts left.rising)

    among : (m : ℕ) (t : SignalToken) → find m (with_met g n ts) ≡ Some t → (t.group == g && is_some t.waits) ≡ true → stands_in ns m ≡ true
    among m t f w = elim (cases_Bool (eqb m n)) [
      | inl e ↦ let same : m ≡ n = grind arith in let none = met-same g n t ts (ap (λ k. find k (with_met g n ts)) (sym same) ∙ f) in absurd (cc)
      | inr e ↦ let found : find m ts ≡ Some t = sym (met-other g n m ts e) ∙ f in let in_all = left.stand m t found w in grind arith
    ]

-- the groups of all

pub find-owners : (n : ℕ) (ts : List (ℕ × SignalToken)) → find n (owners ts) ≡ option_map (λ t. t.group) (find n ts)
find-owners n [] = refl
find-owners n (t ∷ ts) = grind (arith, find-owners n ts)

pub owners-replaced : (n : ℕ) (v t : SignalToken) (ts : List (ℕ × SignalToken)) → find n ts ≡ Some t → v.group ≡ t.group → owners (replaced (λ old. v) n ts) ≡ owners ts
owners-replaced n v t [] f e = refl
owners-replaced n v t (u ∷ ts) f e = grind (arith, owners-replaced n v t ts)

pub replaced-waiting : (n : ℕ) (w : Option ℕ) (t : SignalToken) (ts : List (ℕ × SignalToken)) → find n ts ≡ Some t → replaced (λ old. record { group = t.group; waits = w }) n ts ≡ replaced (waiting_as w) n ts
replaced-waiting n w t [] f = refl
replaced-waiting n w t (u ∷ ts) f = grind (arith, replaced-waiting n w t ts)

pub owners-unwaited : (g : ℕ) (ts : List (ℕ × SignalToken)) → owners (unwaited g ts) ≡ owners ts
owners-unwaited g [] = refl
owners-unwaited g (t ∷ ts) = grind (arith, owners-unwaited g ts)

pub owners-without : (n : ℕ) (ts : List (ℕ × SignalToken)) → owners (without n ts) ≡ without n (owners ts)
owners-without n [] = refl
owners-without n (t ∷ ts) = grind (arith, owners-without n ts)

pub owners-push : (n : ℕ) (v : SignalToken) (ts : List (ℕ × SignalToken)) → owners (ts ++ (n, v) ∷ []) ≡ owners ts ++ (n, v.group) ∷ []
owners-push n v [] = refl
owners-push n v (t ∷ ts) = grind (arith, owners-push n v ts)

-- counts

pub count-push : (g n h : ℕ) (os : List (ℕ × ℕ)) → count_of g (os ++ (n, h) ∷ []) ≡ count_of g os + (if h == g then 1 else 0)
count-push g n h [] = grind arith
count-push g n h (x ∷ xs) = grind (arith, count-push g n h xs)

pub count-without : (g n h : ℕ) (os : List (ℕ × ℕ)) → find n os ≡ Some h → count_of g (without n os) + (if h == g then 1 else 0) ≡ count_of g os
count-without g n h [] f = grind arith
count-without g n h (x ∷ xs) f = grind (arith, count-without g n h xs)

pub count-few : (g : ℕ) (os : List (ℕ × ℕ)) → count_of g os ≤ length os
count-few g [] = omega arith
count-few g (x ∷ xs) = grind (arith, count-few g xs)

pub open-counted : (g : ℕ) (ts : List (ℕ × SignalToken)) → is_open g ts ≡ nat_lt 0 (count_of g (owners ts))
open-counted g [] = refl
open-counted g (t ∷ ts) = grind (arith, open-counted g ts)

-- places

pub get-push : {A : Type 0} (xs : List A) (x d : A) (i : ℕ) → get_or (xs ++ x ∷ []) i d ≡ (if eqb (length xs) i then x else get_or xs i d)
get-push [] x d zero = refl
get-push [] x d (suc i) = grind arith
get-push (y ∷ xs) x d zero = grind arith
get-push (y ∷ xs) x d (suc i) = grind (arith, get-push xs x d i)

pub get-set : {A : Type 0} (xs : List A) (x d : A) (k i : ℕ) → k < length xs → get_or (set xs k x) i d ≡ (if eqb k i then x else get_or xs i d)
get-set [] x d k i h = grind arith
get-set (y ∷ xs) x d zero zero h = refl
get-set (y ∷ xs) x d zero (suc i) h = grind arith
get-set (y ∷ xs) x d (suc k) zero h = grind arith
get-set (y ∷ xs) x d (suc k) (suc i) h = grind (arith, get-set xs x d k i)

pub find-push : {V : Type 0} (n m : ℕ) (v : V) (xs : List (ℕ × V)) → find m (xs ++ (n, v) ∷ []) ≡ (if is_some (find m xs) then find m xs else if eqb n m then Some v else None)
find-push n m v [] = grind arith
find-push n m v (x ∷ xs) = grind (arith, find-push n m v xs)

-- lists in order

pub stands-push : (ns : List ℕ) (n m : ℕ) → stands_in (ns ++ n ∷ []) m ≡ (stands_in ns m || (n == m))
stands-push [] n m = grind arith
stands-push (k ∷ ns) n m = grind (arith, stands-push ns n m)

pub ascending-push : (ns : List ℕ) (n : ℕ) → AreAscending ns → ((m : ℕ) → n ≤ m → stands_in ns m ≡ false) → AreAscending (ns ++ n ∷ [])
ascending-push [] n up below = ((λ m h. refl), tt)
ascending-push (k ∷ ns) n up below = ((λ m h. rw (stands-push ns n m, up.0 m h) (grind (arith, less))), ascending-push ns n up.1 (λ m h. grind (arith, below m h)))
  where
    less : k < n
    less = elim (cases_lt k n) [
      | inl l ↦ l
      | inr l ↦ let f = below k l in absurd (grind arith)
    ]

pub get-nothing : {A : Type 0} (xs : List A) (d : A) (i : ℕ) → get_or (xs ++ d ∷ []) i d ≡ get_or xs i d
get-nothing [] d zero = refl
get-nothing [] d (suc i) = refl
get-nothing (y ∷ xs) d zero = refl
get-nothing (y ∷ xs) d (suc i) = get-nothing xs d i

-- what is kept stays right

pub counted-some : (n g : ℕ) (os : List (ℕ × ℕ)) → find n os ≡ Some g → 1 ≤ count_of g os
counted-some n g [] f = absurd (cc)
counted-some n g (x ∷ xs) f = elim (cases_Bool (eqb x.0 n)) [
  | inl e ↦ grind arith
  | inr e ↦ let more = counted-some n g xs (grind arith) in omega (arith, more)
]

pub group-within : (n g next : ℕ) (os : List (ℕ × ℕ)) (ls : List (List ℕ)) (live : List ℕ) → AreTied os ls live next → find n os ≡ Some g → g < length live
group-within n g next os ls live t f = elim (cases_lt g (length live)) [
  | inl l ↦ l
  | inr l ↦ let none = get_or_past live g 0 l in let some = counted-some n g os f in absurd (omega (arith, none, some, t.counted g))
]

pub tied-skip : (os : List (ℕ × ℕ)) (ls : List (List ℕ)) (live : List ℕ) (next : ℕ) → AreTied os ls live next → AreTied os (ls ++ [] ∷ []) (live ++ 0 ∷ []) (next + 1)
tied-skip os ls live next t = record {
  lists = length_push ls [] ∙ ap (λ k. k + 1) t.lists;
  lives = length_push live 0 ∙ ap (λ k. k + 1) t.lives;
  listed = λ n g f. rw (get-nothing ls [] g) (t.listed n g f);
  ascending = λ g. rw (get-nothing ls [] g) (t.ascending g);
  given = λ g n h. rw (get-nothing ls [] g) (t.given g n (omega (arith, h)));
  counted = λ g. get-nothing live 0 g ∙ t.counted g;
}

pub tied-first : (os : List (ℕ × ℕ)) (ls : List (List ℕ)) (live : List ℕ) (next : ℕ) → AreTied os ls live next → AreTied (os ++ (next, next) ∷ []) (ls ++ [] ∷ []) (live ++ 1 ∷ []) (next + 1)
tied-first os ls live next t = record {
  lists = length_push ls [] ∙ ap (λ k. k + 1) t.lists;
  lives = length_push live 1 ∙ ap (λ k. k + 1) t.lives;
  listed = λ n g f. rw (get-nothing ls [] g) (found n g (find-push next n next os) f);
  ascending = λ g. rw (get-nothing ls [] g) (t.ascending g);
  given = λ g n h. rw (get-nothing ls [] g) (t.given g n (omega (arith, h)));
  counted = λ g. rw (get-push live 1 0 g, count-push g next next os, t.lives) (counts g);
}
  where
    found : (n g : ℕ) → find n (os ++ (next, next) ∷ []) ≡ (if is_some (find n os) then find n os else if eqb next n then Some next else None) → find n (os ++ (next, next) ∷ []) ≡ Some g → stands_in (numbers_at ls g) n ≡ true
    found n g p f = elim (cases_Bool (is_some (find n os))) [
      | inl e ↦ t.listed n g (grind arith)
      | inr e ↦ grind arith
    ]

    counts : (g : ℕ) → (if eqb next g then 1 else get_or live g 0) ≡ count_of g os + (if next == g then 1 else 0)
    counts g = let past = get_or_past live next 0 (omega (arith, t.lives)) in let none = t.counted next in grind (arith, past, none, t.counted g)

pub tied-push : (os : List (ℕ × ℕ)) (ls : List (List ℕ)) (live : List ℕ) (next k : ℕ) → AreTied os ls live next → k < next → AreTied (os ++ (next, k) ∷ []) (set ls k (get_or ls k [] ++ next ∷ []) ++ [] ∷ []) (set live k (get_or live k 0 + 1) ++ 0 ∷ []) (next + 1)
tied-push os ls live next k t within = record {
  lists = length_push (set ls k (get_or ls k [] ++ next ∷ [])) [] ∙ ap (λ m. m + 1) (length-set ls k _ ∙ t.lists);
  lives = length_push (set live k (get_or live k 0 + 1)) 0 ∙ ap (λ m. m + 1) (length-set live k _ ∙ t.lives);
  listed = λ n g f. rw (at g) (found n g (find-push next n k os) f);
  ascending = λ g. rw (at g) (orders g);
  given = λ g n h. rw (at g) (gives g n h);
  counted = λ g. rw (get-nothing (set live k (get_or live k 0 + 1)) 0 g, get-set live (get_or live k 0 + 1) 0 k g (omega (arith, t.lives, within)), count-push g next k os) (counts g);
}
  where
    at : (g : ℕ) → get_or (set ls k (get_or ls k [] ++ next ∷ []) ++ [] ∷ []) g [] ≡ (if eqb k g then get_or ls k [] ++ next ∷ [] else get_or ls g [])
    at g = get-nothing (set ls k (get_or ls k [] ++ next ∷ [])) [] g ∙ get-set ls (get_or ls k [] ++ next ∷ []) [] k g (omega (arith, t.lists, within))

    found : (n g : ℕ) → find n (os ++ (next, k) ∷ []) ≡ (if is_some (find n os) then find n os else if eqb next n then Some k else None) → find n (os ++ (next, k) ∷ []) ≡ Some g → stands_in (g ∷ (if eqb k g then get_or ls k [] ++ next ∷ [] else get_or ls g [])) n ≡ true
    found n g p f = elim (cases_Bool (is_some (find n os))) [
      | inl e ↦ let old = t.listed n g (grind arith) in let more = stands-push (get_or ls k []) next n in grind (arith, old, more)
      | inr e ↦ let more = stands-push (get_or ls k []) next n in grind (arith, more)
    ]

    orders : (g : ℕ) → AreAscending (g ∷ (if eqb k g then get_or ls k [] ++ next ∷ [] else get_or ls g []))
    orders g = elim (cases_Bool (eqb k g)) [
      | inl e ↦ let same : k ≡ g = grind arith in rw (e, ← same) (ascending-push (k ∷ get_or ls k []) next (t.ascending k) (λ m h. grind (arith, t.given k m h)))
      | inr e ↦ rw e (t.ascending g)
    ]

    gives : (g n : ℕ) → next + 1 ≤ n → stands_in (if eqb k g then get_or ls k [] ++ next ∷ [] else get_or ls g []) n ≡ false
    gives g n h = let more = stands-push (get_or ls k []) next n in let a = t.given k n (omega (arith, h)) in let b = t.given g n (omega (arith, h)) in grind (arith, more, a, b)

    counts : (g : ℕ) → (if eqb k g then get_or live k 0 + 1 else get_or live g 0) ≡ count_of g os + (if k == g then 1 else 0)
    counts g = grind (arith, t.counted g, t.counted k)

pub tied-without : (os : List (ℕ × ℕ)) (ls : List (List ℕ)) (live : List ℕ) (next n k : ℕ) → AreTied os ls live next → find n os ≡ Some k → find n (without n os) ≡ None → AreTied (without n os) ls (set live k (get_or live k 0 - 1)) next
tied-without os ls live next n k t there gone = record {
  lists = t.lists;
  lives = length-set live k _ ∙ t.lives;
  listed = λ m g f. t.listed m g (before m g f);
  ascending = t.ascending;
  given = t.given;
  counted = λ g. rw (get-set live (get_or live k 0 - 1) 0 k g (group-within n k next os ls live t there)) (counts g);
}
  where
    before : (m g : ℕ) → find m (without n os) ≡ Some g → find m os ≡ Some g
    before m g f = elim (cases_Bool (eqb m n)) [
      | inl e ↦ let same : m ≡ n = grind arith in let both = sym gone ∙ ap (λ j. find j (without n os)) (sym same) ∙ f in absurd (cc)
      | inr e ↦ sym (find-without n m os e) ∙ f
    ]

    counts : (g : ℕ) → (if eqb k g then get_or live k 0 - 1 else get_or live g 0) ≡ count_of g (without n os)
    counts g = let less = count-without g n k os there in grind (arith, less, t.counted g, t.counted k)

-- a group's numbers are those that may wait
pub left-first : (ts : List (ℕ × SignalToken)) (ls : List (List ℕ)) (live : List ℕ) (next g : ℕ) → AreTied (owners ts) ls live next → AreRising ts → IsLeft g (numbers_at ls g) ts
left-first ts ls live next g t rise = record {
  stand = λ n u f w. among n u f w;
  ascending = t.ascending g;
  rising = rise;
}
  where
    among : (n : ℕ) (u : SignalToken) → find n ts ≡ Some u → (u.group == g && is_some u.waits) ≡ true → stands_in (numbers_at ls g) n ≡ true
    among n u f w =
        let same : u.group ≡ g = grind arith in
        let owner : find n (owners ts) ≡ Some u.group = find-owners n ts ∙ ap (λ o. option_map (λ t. t.group) o) f in
        ap (λ k. stands_in (numbers_at ls k) n) (sym same) ∙ t.listed n u.group owner

waits-few : (g : ℕ) (ts : List (ℕ × SignalToken)) → length (waits_in g ts) ≤ length ts
waits-few g [] = omega arith
waits-few g (t ∷ ts) = grind (arith, waits-few g ts, few t.1.waits, length-append (those t.1.waits) (waits_in g ts))
  where
    few : (w : Option ℕ) → length (those w) ≤ 1
    few None = omega arith
    few (Some x) = omega arith

pub met-few : (xs : List ℕ) (g : ℕ) (ts : List (ℕ × SignalToken)) → length (xs ++ waits_in g ts) ≤ length xs + length ts
met-few xs g ts = omega (arith, length-append xs (waits_in g ts), waits-few g ts)

pub none-met : (g : ℕ) (ts : List (ℕ × SignalToken)) → count_of g (owners ts) ≡ 0 → (unwaited g ts ≡ ts) × (waits_in g ts ≡ [])
none-met g [] e = (refl, refl)
none-met g (t ∷ ts) e = elim (cases_Bool (t.1.group == g)) [
  | inl s ↦ absurd (grind arith)
  | inr s ↦ let rest = none-met g ts (grind arith) in (grind (arith, rest), grind (arith, rest))
]

-- the numbers of a list
pub list-at : (vs : List (Vec ℕ Global)) (p : ℕ) (x : Vec ℕ Global) → p < length vs → x ≡ get_or vs p x → get_or (lists_of vs) p [] ≡ x.items
list-at vs p x known at =
    let there : slice_get vs p ≡ Some x = slice_get-get_or vs p x known ∙ ap (λ z. Some z) (sym at) in
    get_or_from_slice_get (lists_of vs) p x.items [] (slice_get-map (λ (z : Vec ℕ Global). z.items) vs p ∙ ap (λ o. option_map (λ (z : Vec ℕ Global). z.items) o) there)

pub count-lists : (vs : List (Vec ℕ Global)) → length (lists_of vs) ≡ length vs
count-lists vs = length-map vs (λ (z : Vec ℕ Global). z.items)

pub lists-push : (vs : List (Vec ℕ Global)) (v : Vec ℕ Global) → v.items ≡ [] → lists_of (vs ++ v ∷ []) ≡ lists_of vs ++ [] ∷ []
lists-push vs v e = rw (map-append (λ (z : Vec ℕ Global). z.items) vs (v ∷ []), e) refl

pub count-owners : (ts : List (ℕ × SignalToken)) → length (owners ts) ≡ length ts
count-owners ts = length-map {B = ℕ × ℕ} ts (λ t. (t.0, t.1.group))
