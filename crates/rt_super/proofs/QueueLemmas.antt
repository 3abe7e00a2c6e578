-- Alarms of which the first stands beside the others.
use Rattle.rt_super.proofs.Prelude.{◌≡◌, ℕ, ◌<◌, Bool, true, false, List, [], ◌∷◌, length, refl, ap, ◌∙◌, arith, Option, Some, None, IfSome, IfNone, insert_entry, IsTotalOrder, AllByRecursion, IsStrictlySortedBy, keys_of, set_value, match_ordering, ordering_reverse, Ordering, Less, Equal, Greater, nat_cmp_total, on_total, then_total, key_cmp, queued}
use Rattle.std.proofs.Common.{IsSome}

key_total : IsTotalOrder key_cmp
key_total =
    let due : ℕ × ℕ → ℕ = λ k. k.0 in
    let number : ℕ × ℕ → ℕ = λ k. k.1 in
    then_total (on_total due nat_cmp_total) (on_total number nat_cmp_total)

-- what is before a key is before those behind it
all_behind : (x y : ℕ × ℕ) (zs : List (ℕ × ℕ)) → key_cmp x y ≡ Less → AllByRecursion (λ z. key_cmp y z ≡ Less) zs → AllByRecursion (λ z. key_cmp x z ≡ Less) zs
all_behind x y [] is h = tt
all_behind x y (z ∷ zs) is h = (key_total.trans x y z is h.0, all_behind x y zs is h.1)

all_with : (P : ℕ × ℕ → Type 0) (es : List ((ℕ × ℕ) × ℕ)) (k : ℕ × ℕ) (v : ℕ) → AllByRecursion P (keys_of es) → P k → AllByRecursion P (keys_of (insert_entry key_cmp es k v))
all_with P [] k v h p = (p, tt)
all_with P (e ∷ es) k v h p = by (key_cmp k e.0) (all_with P es k v h.1 p)
  where
    by : (o : Ordering) → AllByRecursion P (keys_of (insert_entry key_cmp es k v)) → AllByRecursion P (keys_of (match_ordering o ((k, v) ∷ e ∷ es) ((e.0, v) ∷ es) (e ∷ insert_entry key_cmp es k v)))
    by Less later = (p, h)
    by Equal later = h
    by Greater later = (h.0, later)

sorted_with : (es : List ((ℕ × ℕ) × ℕ)) (k : ℕ × ℕ) (v : ℕ) → IsStrictlySortedBy key_cmp (keys_of es) → IsStrictlySortedBy key_cmp (keys_of (insert_entry key_cmp es k v))
unfolding IsStrictlySortedBy
sorted_with [] k v h = (tt, tt)
sorted_with (e ∷ es) k v h = by (key_cmp k e.0) refl (sorted_with es k v h.1)
  where
    by : (o : Ordering) → key_cmp k e.0 ≡ o → IsStrictlySortedBy key_cmp (keys_of (insert_entry key_cmp es k v)) → IsStrictlySortedBy key_cmp (keys_of (match_ordering o ((k, v) ∷ e ∷ es) ((e.0, v) ∷ es) (e ∷ insert_entry key_cmp es k v)))
    by Less is later = ((is, all_behind k e.0 (keys_of es) is h.0), h)
    by Equal is later = h
    by Greater is later = (all_with (λ y. key_cmp e.0 y ≡ Less) es k v h.0 (key_total.antisymm e.0 k ∙ ap ordering_reverse is), later)

-- an entry before all others goes to their front
to_front : (e : (ℕ × ℕ) × ℕ) (es : List ((ℕ × ℕ) × ℕ)) → IsStrictlySortedBy key_cmp (keys_of (e ∷ es)) → insert_entry key_cmp es e.0 e.1 ≡ e ∷ es
unfolding IsStrictlySortedBy
to_front e [] h = refl
to_front e (f ∷ es) h = rw h.0.0 refl

pub ordered_with : (new es : List ((ℕ × ℕ) × ℕ)) (k : ℕ × ℕ) (v : ℕ) → new ≡ insert_entry key_cmp es k v → IsStrictlySortedBy key_cmp (keys_of es) → IsStrictlySortedBy key_cmp (keys_of new)
ordered_with new es k v is h = rw is (sorted_with es k v h)

-- a new entry, by where it goes

pub put_alone : (f : Option ((ℕ × ℕ) × ℕ)) (es : List ((ℕ × ℕ) × ℕ)) (k : ℕ × ℕ) (v : ℕ) → f ≡ None → (f ≡ None → es ≡ []) → queued (Some (k, v)) es ≡ insert_entry key_cmp (queued f es) k v
put_alone f es k v none empty = rw (empty none, none) refl

pub put_before : (f : Option ((ℕ × ℕ) × ℕ)) (e : (ℕ × ℕ) × ℕ) (es later : List ((ℕ × ℕ) × ℕ)) (k : ℕ × ℕ) (v : ℕ) → f ≡ Some e → key_cmp k e.0 ≡ Less → later ≡ insert_entry key_cmp es e.0 e.1 → IsStrictlySortedBy key_cmp (keys_of (queued f es)) → queued (Some (k, v)) later ≡ insert_entry key_cmp (queued f es) k v
put_before f e es later k v some is put h = rw (some, is, put) (ap (λ l. (k, v) ∷ l) (to_front e es (rw some at h)))

pub put_behind : (f : Option ((ℕ × ℕ) × ℕ)) (e : (ℕ × ℕ) × ℕ) (es later : List ((ℕ × ℕ) × ℕ)) (k : ℕ × ℕ) (v : ℕ) → f ≡ Some e → key_cmp k e.0 ≡ Greater → later ≡ insert_entry key_cmp es k v → queued f later ≡ insert_entry key_cmp (queued f es) k v
put_behind f e es later k v some is put = rw (some, is, put) refl

-- an entry that wakes another task

pub set_later : (f : Option ((ℕ × ℕ) × ℕ)) (e : (ℕ × ℕ) × ℕ) (es later : List ((ℕ × ℕ) × ℕ)) (test : ℕ × ℕ → Bool) (v : ℕ) → f ≡ Some e → test e.0 ≡ false → later ≡ set_value test es v → queued f later ≡ set_value test (queued f es) v
set_later f e es later test v some is set = rw (some, is, set) refl

-- once the first entry is out

pub popped : (f r : Option ((ℕ × ℕ) × ℕ)) (e : (ℕ × ℕ) × ℕ) (es later : List ((ℕ × ℕ) × ℕ)) → f ≡ Some e → IfSome r (λ x. es ≡ x ∷ later) → IfNone r (later ≡ es) → queued f es ≡ e ∷ queued r later
popped f None e es later some next same = rw (some, same) refl
popped f (Some x) e es later some next same = rw (some, next) refl

ordered_tail : (e : (ℕ × ℕ) × ℕ) (es : List ((ℕ × ℕ) × ℕ)) → IsStrictlySortedBy key_cmp (keys_of (e ∷ es)) → IsStrictlySortedBy key_cmp (keys_of es)
unfolding IsStrictlySortedBy
ordered_tail e es h = h.1

pub ordered_popped : (old new : List ((ℕ × ℕ) × ℕ)) (e : (ℕ × ℕ) × ℕ) → old ≡ e ∷ new → IsStrictlySortedBy key_cmp (keys_of old) → IsStrictlySortedBy key_cmp (keys_of new)
ordered_popped old new e is h = ordered_tail e new (rw is at h)

pub none_popped : (r : Option ((ℕ × ℕ) × ℕ)) (es later : List ((ℕ × ℕ) × ℕ)) → IfNone r (later ≡ es) → (0 < length es → IsSome r) → r ≡ None → later ≡ []
none_popped None es later same some none = same ∙ left es some
  where
    left : (xs : List ((ℕ × ℕ) × ℕ)) → (0 < length xs → false ≡ true) → xs ≡ []
    left [] h = refl
    left (x ∷ xs) h = let no : false ≡ true = h (omega arith) in cc
none_popped (Some x) es later same some none = cc
