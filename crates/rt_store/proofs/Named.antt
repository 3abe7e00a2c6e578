-- A map from owned names is one from the bytes of the names.
use Rattle.rt_store.proofs.Prelude.{◌≡◌, ℕ, Bool, true, false, cond, List, [], ◌∷◌, map, Some, None, refl, sym, ap, subst, ◌∙◌, rules, Vec, Global, slice_cmp, nat_cmp, match_ordering, Ordering, Less, Equal, Greater, lookup, remove_entry, insert_entry, AllByRecursion, IsStrictlySortedBy, Ascend, is_name, at_name, put_name, without_name, numbers}
use Rattle.std.proofs.Common.{Option}

abbrev pub Owned : Type 0
Owned = List (Vec ℕ Global × ℕ)

abbrev pub shown : Owned → List (List ℕ × ℕ)
shown es = map (λ e. (e.0.items, e.1)) es

pub lookup_shown : (es : Owned) (q : List ℕ) → lookup (λ k. is_name q k.items) es ≡ at_name q (shown es)
lookup_shown [] q = refl
lookup_shown (e ∷ es) q = ap (λ (o : Option ℕ). cond (is_name q e.0.items) (Some e.1) o) (lookup_shown es q)

match-map : {A B : Type 0} (f : A → B) (o : Ordering) (x y z : A) → f (match_ordering o x y z) ≡ match_ordering o (f x) (f y) (f z)
match-map f Less x y z = refl
match-map f Equal x y z = refl
match-map f Greater x y z = refl

pub put_shown : (es : Owned) (k : Vec ℕ Global) (w : ℕ) → shown (insert_entry (λ a b. slice_cmp nat_cmp a.items b.items) es k w) ≡ put_name k.items w (shown es)
put_shown [] k w = refl
put_shown (e ∷ es) k w =
    let o = slice_cmp nat_cmp k.items e.0.items in
    match-map shown o ((k, w) ∷ e ∷ es) ((e.0, w) ∷ es) (e ∷ insert_entry (λ a b. slice_cmp nat_cmp a.items b.items) es k w)
    ∙ ap (λ (rest : List (List ℕ × ℕ)). match_ordering o ((k.items, w) ∷ shown (e ∷ es)) ((e.0.items, w) ∷ shown es) ((e.0.items, e.1) ∷ rest)) (put_shown es k w)

absent-cond : (b : Bool) (x : ℕ) (o : Option ℕ) (e : Vec ℕ Global × ℕ) (es rest : Owned) → cond b (Some x) o ≡ None → (o ≡ None → rest ≡ es) → cond b es (e ∷ rest) ≡ e ∷ es
absent-cond true x o e es rest h k = search rules
absent-cond false x o e es rest h k = ap (λ (r : Owned). e ∷ r) (k h)

-- nothing is removed where no name is the same
pub remove_absent : (test : Vec ℕ Global → Bool) (es : Owned) → lookup test es ≡ None → remove_entry test es ≡ es
remove_absent test [] h = refl
remove_absent test (e ∷ es) h = absent-cond (test e.0) e.1 (lookup test es) e es (remove_entry test es) h (remove_absent test es)

cond-map : (b : Bool) (x y : Owned) → shown (cond b x y) ≡ cond b (shown x) (shown y)
cond-map true x y = refl
cond-map false x y = refl

pub remove_shown : (es : Owned) (q : List ℕ) → shown (remove_entry (λ k. is_name q k.items) es) ≡ without_name q (shown es)
remove_shown [] q = refl
remove_shown (e ∷ es) q =
    cond-map (is_name q e.0.items) es (e ∷ remove_entry (λ k. is_name q k.items) es)
    ∙ ap (λ (rest : List (List ℕ × ℕ)). cond (is_name q e.0.items) (shown es) ((e.0.items, e.1) ∷ rest)) (remove_shown es q)

pub numbers_shown : (es : Owned) → numbers (shown es) ≡ map (λ (e : Vec ℕ Global × ℕ). e.1) es
numbers_shown [] = refl
numbers_shown (e ∷ es) = ap (λ (rest : List ℕ). e.1 ∷ rest) (numbers_shown es)

pub names_shown : (es : Owned) → map (λ (e : List ℕ × ℕ). e.0) (shown es) ≡ map (λ (n : Vec ℕ Global). n.items) (map (λ (e : Vec ℕ Global × ℕ). e.0) es)
names_shown [] = refl
names_shown (e ∷ es) = ap (λ (rest : List (List ℕ)). e.0.items ∷ rest) (names_shown es)

all-below : (k : Vec ℕ Global) (ks : List (Vec ℕ Global)) → AllByRecursion (λ (y : Vec ℕ Global). slice_cmp nat_cmp k.items y.items ≡ Less) ks → AllByRecursion (λ (y : List ℕ). slice_cmp nat_cmp k.items y ≡ Less) (map (λ (n : Vec ℕ Global). n.items) ks)
all-below k [] h = h
all-below k (x ∷ xs) h = (h.0, all-below k xs h.1)

bytes-ascend : (ks : List (Vec ℕ Global)) → IsStrictlySortedBy (λ (a b : Vec ℕ Global). slice_cmp nat_cmp a.items b.items) ks → Ascend (map (λ (n : Vec ℕ Global). n.items) ks)
unfolding IsStrictlySortedBy
bytes-ascend [] h = h
bytes-ascend (k ∷ ks) h = (all-below k ks h.0, bytes-ascend ks h.1)

-- the names of a map ascend
pub names_ascend : (es : Owned) → IsStrictlySortedBy (λ (a b : Vec ℕ Global). slice_cmp nat_cmp a.items b.items) (map (λ (e : Vec ℕ Global × ℕ). e.0) es) → Ascend (map (λ (e : List ℕ × ℕ). e.0) (shown es))
names_ascend es h = subst (λ (names : List (List ℕ)). Ascend names) (sym (names_shown es)) (bytes-ascend (map (λ (e : Vec ℕ Global × ℕ). e.0) es) h)

pub none_ascend : Ascend []
unfolding IsStrictlySortedBy
none_ascend = tt
