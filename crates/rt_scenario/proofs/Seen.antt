-- Names that are taken in often.
use Rattle.rt_scenario.proofs.Prelude.{◌≡◌, ℕ, List, [], ◌∷◌, length, refl, sym, ap, ◌∙◌, arith, Ordering, Less, Equal, Greater, insert_key, is_eq, ordering_reverse, match_ordering, nat_list_cmp_total, same_text, is_eq-slice_cmp, text_cmp}

-- the name is there: to take it in changes nothing
abbrev pub Has : List (List ℕ) → List ℕ → Type 0
Has names name = insert_key text_cmp names name ≡ names

equal : (r : Ordering) → r ≡ ordering_reverse r → r ≡ Equal
equal Less e = absurd (cc)
equal Equal e = refl
equal Greater e = absurd (cc)

itself : (name : List ℕ) → text_cmp name name ≡ Equal
itself name = equal (text_cmp name name) (nat_list_cmp_total.antisymm name name)

-- the other way round
pub turned : (a b : List ℕ) (r : Ordering) → text_cmp a b ≡ r → text_cmp b a ≡ ordering_reverse r
turned a b r e = nat_list_cmp_total.antisymm b a ∙ ap ordering_reverse e

-- an order that ties no other texts
pub same : (a b : List ℕ) → text_cmp a b ≡ Equal → a ≡ b
same a b e = same_text a b (sym (sym (is_eq-slice_cmp a b) ∙ ap is_eq e))

-- a name that was taken in is there
pub has_own : (names : List (List ℕ)) (k : List ℕ) → Has (insert_key text_cmp names k) k
has_own [] k = rw (itself k) refl
has_own (x ∷ xs) k = by (text_cmp k x) refl (has_own xs k)
  where
    by : (r : Ordering) → text_cmp k x ≡ r → Has (insert_key text_cmp xs k) k → Has (match_ordering r (k ∷ x ∷ xs) (x ∷ xs) (x ∷ insert_key text_cmp xs k)) k
    by Less e more = rw (itself k) refl
    by Equal e more = rw e refl
    by Greater e more = rw e (ap (λ l. x ∷ l) more)

behind : (q k x : List ℕ) (xs : List (List ℕ)) → text_cmp k q ≡ Less → Has (x ∷ xs) q → Has (k ∷ x ∷ xs) q
behind q k x xs e h = rw (turned k q Less e) (ap (λ l. k ∷ l) h)

-- a name that is there stays there where one more is taken in
pub has_kept : (q k : List ℕ) (names : List (List ℕ)) → Has names q → Has (insert_key text_cmp names k) q
has_kept q k [] h = absurd (omega (arith, ap length h))
has_kept q k (x ∷ xs) h = by (text_cmp q x) refl (text_cmp k x) refl (has_kept q k xs) h
  where
    by : (r : Ordering) → text_cmp q x ≡ r → (s : Ordering) → text_cmp k x ≡ s → (Has xs q → Has (insert_key text_cmp xs k) q) → match_ordering r (q ∷ x ∷ xs) (x ∷ xs) (x ∷ insert_key text_cmp xs q) ≡ x ∷ xs → Has (match_ordering s (k ∷ x ∷ xs) (x ∷ xs) (x ∷ insert_key text_cmp xs k)) q
    by Less e s f more g = absurd (omega (arith, ap length g))
    by Equal e Less f more g = behind q k x xs (ap (text_cmp k) (same q x e) ∙ f) h
    by Equal e Equal f more g = h
    by Equal e Greater f more g = rw e refl
    by Greater e Less f more g = behind q k x xs (nat_list_cmp_total.trans k x q f (turned q x Greater e)) h
    by Greater e Equal f more g = h
    by Greater e Greater f more g = let rest : insert_key text_cmp xs q ≡ xs = cc in rw e (ap (λ l. x ∷ l) (more rest))
