-- Alarms in the order of (due, number).
use Rattle.rt_super.proofs.Prelude.{◌≡◌, ℕ, zero, suc, ◌<◌, Bool, true, false, cond, ◌||◌, ◌&&◌, eqb, ltb, leb, List, [], ◌∷◌, ◌++◌, length, map, refl, sym, ap, ◌∙◌, arith, Option, Some, None, AllByRecursion, All, slice_get, IsStrictlySortedBy, option_map, is_some, nat_cmp, ordering_then, match_ordering, is_eq, nat_cmp_is, Ordering, Less, Equal, Greater, insert_entry, is_at, set_value, keys_of, lookup, nat_tests, waker_of, Alarm, is_before, AreInOrder, AreOnce, with_alarm, alarm_at, first_due, due_first, waking, alarm_of, alarms_of, key_cmp}

-- order

all_of : {X : Type 0} (P : X → Type 0) (xs : List X) → AllByRecursion P xs → All P xs
all_of P [] h k d l = absurd (omega arith)
all_of P (x ∷ xs) h zero d l = h.0
all_of P (x ∷ xs) h (suc k) d l = all_of P xs h.1 k d (omega arith)

less_before : (x y z w : Bool) → ordering_then (cond x Less (cond y Equal Greater)) (cond z Less (cond w Equal Greater)) ≡ Less → (x || (y && z)) ≡ true
less_before true y z w e = refl
less_before false true true w e = refl
less_before false true false true e = cc
less_before false true false false e = cc
less_before false false z w e = cc

pub in_order : (es : List ((ℕ × ℕ) × ℕ)) → IsStrictlySortedBy key_cmp (keys_of es) → AreInOrder (alarms_of es)
unfolding IsStrictlySortedBy
in_order [] h = tt
in_order (e ∷ es) h = (all_of (λ b. is_before (alarm_of e) b ≡ true) (alarms_of es) (each es h.0), in_order es h.1)
  where
    each : (fs : List ((ℕ × ℕ) × ℕ)) → AllByRecursion (λ y. key_cmp e.0 y ≡ Less) (keys_of fs) → AllByRecursion (λ b. is_before (alarm_of e) b ≡ true) (alarms_of fs)
    each [] k = tt
    each (f ∷ fs) k = (less_before (ltb e.0.0 f.0.0) (eqb e.0.0 f.0.0) (ltb e.0.1 f.0.1) (eqb e.0.1 f.0.1) k.0, each fs k.1)

-- a look-up that finds nothing goes past the first
not_first : {X : Type 0} (b : Bool) (x : X) (o : Option X) → cond b (Some x) o ≡ None → (b ≡ false) × (o ≡ None)
not_first true x o none = (cc, cc)
not_first false x o none = (refl, none)

eqb_flip : (a b : ℕ) → eqb a b ≡ false → eqb b a ≡ false
eqb_flip a b h = grind (arith, nat_tests)

-- a new alarm

before_cmp : (x y z : Bool) → ordering_then (cond x Less (cond y Equal Greater)) (cond z Less (cond false Equal Greater)) ≡ cond (x || (y && z)) Less Greater
before_cmp true y z = refl
before_cmp false true true = refl
before_cmp false true false = refl
before_cmp false false z = refl

pub set_in_place : (es : List ((ℕ × ℕ) × ℕ)) (due number task : ℕ) → alarm_at (alarms_of es) number ≡ None → alarms_of (insert_entry key_cmp es (due, number) task) ≡ with_alarm (record { due = due; number = number; task = waker_of task }) (alarms_of es)
set_in_place [] due number task fresh = refl
set_in_place (e ∷ es) due number task fresh =
    let apart = not_first (eqb e.0.1 number) (alarm_of e) (alarm_at (alarms_of es) number) fresh in
    let same : key_cmp (due, number) e.0 ≡ cond (ltb due e.0.0 || (eqb due e.0.0 && ltb number e.0.1)) Less Greater = rw (eqb_flip e.0.1 number apart.0) (before_cmp (ltb due e.0.0) (eqb due e.0.0) (ltb number e.0.1)) in
    rw same (place (ltb due e.0.0 || (eqb due e.0.0 && ltb number e.0.1)) (set_in_place es due number task apart.1))
  where
    place : (b : Bool) → alarms_of (insert_entry key_cmp es (due, number) task) ≡ with_alarm (record { due = due; number = number; task = waker_of task }) (alarms_of es) → alarms_of (match_ordering (cond b Less Greater) (((due, number), task) ∷ e ∷ es) ((e.0, task) ∷ es) (e ∷ insert_entry key_cmp es (due, number) task)) ≡ cond b (record { due = due; number = number; task = waker_of task } ∷ alarm_of e ∷ alarms_of es) (alarm_of e ∷ with_alarm (record { due = due; number = number; task = waker_of task }) (alarms_of es))
    place true r = refl
    place false r = ap (λ xs. alarm_of e ∷ xs) r

pub alarm_at-with_alarm : (a : Alarm) (xs : List Alarm) (q : ℕ) → alarm_at xs a.number ≡ None → alarm_at (with_alarm a xs) q ≡ cond (eqb a.number q) (Some a) (alarm_at xs q)
alarm_at-with_alarm a [] q fresh = refl
alarm_at-with_alarm a (b ∷ xs) q fresh =
    let apart = not_first (eqb b.number a.number) b (alarm_at xs a.number) fresh in
    place (is_before a b) apart.0 (alarm_at-with_alarm a xs q apart.1)
  where
    swap : (x y : Bool) → eqb b.number a.number ≡ false → eqb a.number q ≡ x → eqb b.number q ≡ y → cond y (Some b) (cond x (Some a) (alarm_at xs q)) ≡ cond x (Some a) (cond y (Some b) (alarm_at xs q))
    swap true true apart e f = absurd (both (grind (arith, nat_tests)))
      where
        both : true ≡ false → ⊥
        both k = cc
    swap true false apart e f = refl
    swap false y apart e f = refl

    place : (t : Bool) → eqb b.number a.number ≡ false → alarm_at (with_alarm a xs) q ≡ cond (eqb a.number q) (Some a) (alarm_at xs q) → alarm_at (cond t (a ∷ b ∷ xs) (b ∷ with_alarm a xs)) q ≡ cond (eqb a.number q) (Some a) (cond (eqb b.number q) (Some b) (alarm_at xs q))
    place true apart later = refl
    place false apart later = ap (λ o. cond (eqb b.number q) (Some b) o) later ∙ swap (eqb a.number q) (eqb b.number q) apart refl refl

pub AreOnce-with_alarm : (a : Alarm) (xs : List Alarm) → alarm_at xs a.number ≡ None → AreOnce xs → AreOnce (with_alarm a xs)
AreOnce-with_alarm a [] fresh once = (refl, tt)
AreOnce-with_alarm a (b ∷ xs) fresh once =
    let apart = not_first (eqb b.number a.number) b (alarm_at xs a.number) fresh in
    let none = alarm_at-with_alarm a xs b.number apart.1 ∙ ap (λ k. cond k (Some a) (alarm_at xs b.number)) (eqb_flip b.number a.number apart.0) ∙ once.0 in
    place (is_before a b) (none, AreOnce-with_alarm a xs apart.1 once.1)
  where
    place : (t : Bool) → AreOnce (b ∷ with_alarm a xs) → AreOnce (cond t (a ∷ b ∷ xs) (b ∷ with_alarm a xs))
    place true later = (fresh, once)
    place false later = later

-- an alarm that wakes another task

waking_number : (n : ℕ) (t : Option ℕ) (a : Alarm) → (waking n t a).number ≡ a.number
waking_number n t a = elim (eqb a.number n) as (λ b. (cond b (record { due = a.due; number = a.number; task = t }) a).number ≡ a.number) [ true ↦ refl | false ↦ refl ]

waking_due : (n : ℕ) (t : Option ℕ) (a : Alarm) → (waking n t a).due ≡ a.due
waking_due n t a = elim (eqb a.number n) as (λ b. (cond b (record { due = a.due; number = a.number; task = t }) a).due ≡ a.due) [ true ↦ refl | false ↦ refl ]

pub alarm_at-waking : (n : ℕ) (t : Option ℕ) (q : ℕ) (xs : List Alarm) → alarm_at (map (waking n t) xs) q ≡ option_map (waking n t) (alarm_at xs q)
alarm_at-waking n t q [] = refl
alarm_at-waking n t q (a ∷ xs) =
    ap (λ k. cond (eqb k q) (Some (waking n t a)) (alarm_at (map (waking n t) xs) q)) (waking_number n t a)
    ∙ ap (λ o. cond (eqb a.number q) (Some (waking n t a)) o) (alarm_at-waking n t q xs)
    ∙ both (eqb a.number q)
  where
    both : (b : Bool) → cond b (Some (waking n t a)) (option_map (waking n t) (alarm_at xs q)) ≡ option_map (waking n t) (cond b (Some a) (alarm_at xs q))
    both true = refl
    both false = refl

pub dues-waking : (n : ℕ) (t : Option ℕ) (o : Option Alarm) → option_map (λ a. a.due) (option_map (waking n t) o) ≡ option_map (λ a. a.due) o
dues-waking n t None = refl
dues-waking n t (Some a) = ap (λ d. Some d) (waking_due n t a)

pub AreOnce-waking : (n : ℕ) (t : Option ℕ) (xs : List Alarm) → AreOnce xs → AreOnce (map (waking n t) xs)
AreOnce-waking n t [] once = tt
AreOnce-waking n t (a ∷ xs) once = (ap (λ k. alarm_at (map (waking n t) xs) k) (waking_number n t a) ∙ alarm_at-waking n t a.number xs ∙ ap (λ o. option_map (waking n t) o) once.0, AreOnce-waking n t xs once.1)

pub waking_none : (n : ℕ) (t : Option ℕ) (xs : List Alarm) → alarm_at xs n ≡ None → map (waking n t) xs ≡ xs
waking_none n t [] none = refl
waking_none n t (a ∷ xs) none = let apart = not_first (eqb a.number n) a (alarm_at xs n) none in rw (apart.0, waking_none n t xs apart.1) refl

other_key : (o : Ordering) (z : Bool) → is_eq (ordering_then o (cond z Less (cond false Equal Greater))) ≡ false
other_key Less z = refl
other_key Equal true = refl
other_key Equal false = refl
other_key Greater z = refl

same_key : (d n : ℕ) → is_eq (ordering_then (nat_cmp d d) (nat_cmp n n)) ≡ true
same_key d n = rw (← nat_cmp_is d d Equal refl, ← nat_cmp_is n n Equal refl) refl

pub set_value_waking : (es : List ((ℕ × ℕ) × ℕ)) (due n t : ℕ) → AreOnce (alarms_of es) → option_map (λ a. a.due) (alarm_at (alarms_of es) n) ≡ Some due → alarms_of (set_value (is_at (key_cmp (due, n))) es t) ≡ map (waking n (waker_of t)) (alarms_of es)
set_value_waking [] due n t once at = refl
set_value_waking (e ∷ es) due n t once at = by (eqb e.0.1 n) refl (set_value_waking es due n t once.1)
  where
    by : (b : Bool) → eqb e.0.1 n ≡ b → (option_map (λ a. a.due) (alarm_at (alarms_of es) n) ≡ Some due → alarms_of (set_value (is_at (key_cmp (due, n))) es t) ≡ map (waking n (waker_of t)) (alarms_of es)) → alarms_of (cond (is_at (key_cmp (due, n)) e.0) ((e.0, t) ∷ es) (e ∷ set_value (is_at (key_cmp (due, n))) es t)) ≡ waking n (waker_of t) (alarm_of e) ∷ map (waking n (waker_of t)) (alarms_of es)
    by true h ih =
        let same : n ≡ e.0.1 = grind (arith, nat_tests) in
        let found : Some e.0.0 ≡ Some due = rw (h) at at in
        let moment : due ≡ e.0.0 = cc in
        let test : is_eq (ordering_then (nat_cmp due e.0.0) (nat_cmp n e.0.1)) ≡ true = rw (moment, same) (same_key e.0.0 e.0.1) in
        let woken : waking n (waker_of t) (alarm_of e) ≡ alarm_of (e.0, t) = rw h refl in
        let rest : map (waking n (waker_of t)) (alarms_of es) ≡ alarms_of es = waking_none n (waker_of t) (alarms_of es) (rw same once.0) in
        rw (test, woken, rest) refl
    by false h ih =
        let apart : eqb n e.0.1 ≡ false = grind (arith, nat_tests) in
        let test : is_eq (ordering_then (nat_cmp due e.0.0) (nat_cmp n e.0.1)) ≡ false = rw apart (other_key (nat_cmp due e.0.0) (ltb n e.0.1)) in
        let same : waking n (waker_of t) (alarm_of e) ≡ alarm_of e = rw h refl in
        rw (test, same, ih (rw (h) at at)) refl

pub set_value_none : (test : ℕ × ℕ → Bool) (es : List ((ℕ × ℕ) × ℕ)) (t : ℕ) → lookup test es ≡ None → set_value test es t ≡ es
set_value_none test [] t none = refl
set_value_none test (e ∷ es) t none = let apart = not_first (test e.0) e.1 (lookup test es) none in rw (apart.0, set_value_none test es t apart.1) refl

pub none_from_due : (o : Option Alarm) → option_map (λ a. a.due) o ≡ None → o ≡ None
none_from_due None e = refl
none_from_due (Some a) e = cc

-- the parts of what is kept, after a call

pub tail_none : (a : Alarm) (rest : List Alarm) (n : ℕ) → alarm_at (a ∷ rest) n ≡ None → alarm_at rest n ≡ None
tail_none a rest n none = (not_first (eqb a.number n) a (alarm_at rest n) none).1

pub due_in_tail : (a : Alarm) (rest : List Alarm) (q due : ℕ) → alarm_at rest a.number ≡ None → option_map (λ x. x.due) (alarm_at rest q) ≡ Some due → option_map (λ x. x.due) (alarm_at (a ∷ rest) q) ≡ Some due
due_in_tail a rest q due gone at = by (eqb a.number q) refl
  where
    by : (b : Bool) → eqb a.number q ≡ b → option_map (λ x. x.due) (cond b (Some a) (alarm_at rest q)) ≡ Some due
    by true h =
        let same : a.number ≡ q = grind (arith, nat_tests) in
        let none : option_map (λ x. x.due) (alarm_at rest q) ≡ None = rw (← same, gone) refl in
        cc
    by false h = at

pub dues_set : (a : Alarm) (xs : List Alarm) (q : ℕ) → alarm_at xs a.number ≡ None → cond (eqb a.number q) (Some a.due) (option_map (λ x. x.due) (alarm_at xs q)) ≡ option_map (λ x. x.due) (alarm_at (with_alarm a xs) q)
dues_set a xs q fresh = both (eqb a.number q) ∙ ap (λ o. option_map (λ x. x.due) o) (sym (alarm_at-with_alarm a xs q fresh))
  where
    both : (b : Bool) → cond b (Some a.due) (option_map (λ x. x.due) (alarm_at xs q)) ≡ option_map (λ x. x.due) (cond b (Some a) (alarm_at xs q))
    both true = refl
    both false = refl

pub given_set : (a : Alarm) (xs : List Alarm) (n : ℕ) → alarm_at xs a.number ≡ None → alarm_at xs n ≡ None → a.number < n → alarm_at (with_alarm a xs) n ≡ None
given_set a xs n fresh none later = let apart : eqb a.number n ≡ false = grind (arith, nat_tests) in alarm_at-with_alarm a xs n fresh ∙ ap (λ b. cond b (Some a) (alarm_at xs n)) apart ∙ none

-- the first alarm, where the map shows its entry
pub first_due_is : (es : List ((ℕ × ℕ) × ℕ)) (e : (ℕ × ℕ) × ℕ) → slice_get es 0 ≡ Some e → first_due (alarms_of es) ≡ Some e.0.0
first_due_is [] e at = cc
first_due_is (x ∷ xs) e at = let same : x ≡ e = cc in rw same refl

pub due_first_is : (es : List ((ℕ × ℕ) × ℕ)) (e : (ℕ × ℕ) × ℕ) (now : ℕ) → slice_get es 0 ≡ Some e → due_first (alarms_of es) now ≡ cond (leb e.0.0 now) (Some (alarm_of e)) None
due_first_is [] e now at = cc
due_first_is (x ∷ xs) e now at = let same : x ≡ e = cc in rw same refl

-- the due times by number

last_at : (xs : List ℕ) (x : ℕ) → slice_get (xs ++ x ∷ []) (length xs) ≡ Some x
last_at [] x = refl
last_at (y ∷ xs) x = last_at xs x

still_at : (xs ys : List ℕ) (n x : ℕ) → slice_get xs n ≡ Some x → slice_get (xs ++ ys) n ≡ Some x
still_at [] ys n x at = cc
still_at (y ∷ xs) ys zero x at = at
still_at (y ∷ xs) ys (suc n) x at = still_at xs ys n x at

pub at_number : (dues : List ℕ) (due n x : ℕ) (o : Option ℕ) → (o ≡ Some x → slice_get dues n ≡ Some x) → cond (eqb (length dues) n) (Some due) o ≡ Some x → slice_get (dues ++ due ∷ []) n ≡ Some x
at_number dues due n x o old = by (eqb (length dues) n) refl
  where
    by : (b : Bool) → eqb (length dues) n ≡ b → cond b (Some due) o ≡ Some x → slice_get (dues ++ due ∷ []) n ≡ Some x
    by true e h =
        let same : length dues ≡ n = grind (arith, nat_tests) in
        let is : due ≡ x = cc in
        rw (← same, ← is) (last_at dues due)
    by false e h = still_at dues (due ∷ []) n x (old h)

-- the key of a live alarm

key_parts : (x y z w : Bool) → is_eq (ordering_then (cond x Less (cond y Equal Greater)) (cond z Less (cond w Equal Greater))) ≡ true → (y ≡ true) × (w ≡ true)
key_parts true y z w h = cc
key_parts false true true w h = cc
key_parts false true false true h = (refl, refl)
key_parts false true false false h = cc
key_parts false false z w h = cc

pub due_by_key : (es : List ((ℕ × ℕ) × ℕ)) (due n : ℕ) → AreOnce (alarms_of es) → is_some (lookup (is_at (key_cmp (due, n))) es) ≡ true → option_map (λ a. a.due) (alarm_at (alarms_of es) n) ≡ Some due
due_by_key [] due n once has = cc
due_by_key (e ∷ es) due n once has = by (is_at (key_cmp (due, n)) e.0) refl (λ k. due_by_key es due n once.1 k) has
  where
    by : (b : Bool) → is_at (key_cmp (due, n)) e.0 ≡ b → (is_some (lookup (is_at (key_cmp (due, n))) es) ≡ true → option_map (λ a. a.due) (alarm_at (alarms_of es) n) ≡ Some due) → is_some (cond b (Some e.1) (lookup (is_at (key_cmp (due, n))) es)) ≡ true → option_map (λ a. a.due) (alarm_at (alarms_of (e ∷ es)) n) ≡ Some due
    by true h later k =
        let parts = key_parts (ltb due e.0.0) (eqb due e.0.0) (ltb n e.0.1) (eqb n e.0.1) h in
        let number : eqb e.0.1 n ≡ true = let g = parts.1 in grind (arith, nat_tests) in
        let moment : e.0.0 ≡ due = let g = parts.0 in grind (arith, nat_tests) in
        rw (number, moment) refl
    by false h later k = due_in_tail (alarm_of e) (alarms_of es) n due once.0 (later k)

pub key_of_due : (es : List ((ℕ × ℕ) × ℕ)) (due n : ℕ) → option_map (λ a. a.due) (alarm_at (alarms_of es) n) ≡ Some due → is_some (lookup (is_at (key_cmp (due, n))) es) ≡ true
key_of_due [] due n at = cc
key_of_due (e ∷ es) due n at = by (eqb e.0.1 n) refl (λ k. key_of_due es due n k) at
  where
    by : (b : Bool) → eqb e.0.1 n ≡ b → (option_map (λ a. a.due) (alarm_at (alarms_of es) n) ≡ Some due → is_some (lookup (is_at (key_cmp (due, n))) es) ≡ true) → option_map (λ a. a.due) (cond b (Some (alarm_of e)) (alarm_at (alarms_of es) n)) ≡ Some due → is_some (cond (is_at (key_cmp (due, n)) e.0) (Some e.1) (lookup (is_at (key_cmp (due, n))) es)) ≡ true
    by true h later k =
        let same : n ≡ e.0.1 = grind (arith, nat_tests) in
        let moment : due ≡ e.0.0 = cc in
        let test : is_at (key_cmp (due, n)) e.0 ≡ true = rw (moment, same) (same_key e.0.0 e.0.1) in
        rw test refl
    by false h later k =
        let apart : eqb n e.0.1 ≡ false = grind (arith, nat_tests) in
        let test : is_at (key_cmp (due, n)) e.0 ≡ false = rw apart (other_key (nat_cmp due e.0.0) (ltb n e.0.1)) in
        rw test (later k)

pub none_unless : (o : Option ℕ) → ((x : ℕ) → o ≡ Some x → ⊥) → o ≡ None
none_unless None h = refl
none_unless (Some x) h = absurd (h x refl)
