-- Places of names in order.
use Rattle.rt_scenario.proofs.Prelude.{◌≡◌, ℕ, zero, suc, ◌<◌, ◌≤◌, Bool, true, false, List, [], ◌∷◌, length, get_or, ⊎_elim, refl, ap, ◌∙◌, arith, Ordering, Less, Equal, Greater, is_lt, ordering_reverse, filter, IsStrictlySortedBy, IsPartitionPoint, nat_list_cmp_total, cases_lt, Less-from_sorted, text_cmp, place_of}

-- the names that pass, where just the first ones do
pub count_parted : {X : Type 0} (p : X → Bool) (xs : List X) (i : ℕ) → i ≤ length xs → IsPartitionPoint (λ x. p x ≡ true) (λ x. p x ≡ false) xs i → length (filter p xs) ≡ i
count_parted p [] zero small parts = refl
count_parted p [] (suc i) small parts = absurd (omega (arith, small))
count_parted p (x ∷ xs) zero small parts = rw (parts.1 0 x (omega arith) (omega arith)) (count_parted p xs zero (omega arith) ((λ k d low high. absurd (omega (arith, high))), (λ k d low high. parts.1 (suc k) d (omega arith) (omega (arith, high)))))
count_parted p (x ∷ xs) (suc i) small parts = rw (parts.0 0 x (omega arith) (omega arith)) (ap suc (count_parted p xs i (omega (arith, small)) ((λ k d low high. parts.0 (suc k) d (omega arith) (omega (arith, high))), (λ k d low high. parts.1 (suc k) d (omega (arith, low)) (omega (arith, high))))))

same_at : (xs : List (List ℕ)) (i : ℕ) (d e : List ℕ) → i < length xs → get_or xs i d ≡ get_or xs i e
same_at [] i d e h = absurd (omega (arith, h))
same_at (x ∷ xs) zero d e h = refl
same_at (x ∷ xs) (suc i) d e h = same_at xs i d e (omega (arith, h))

itself : (r : Ordering) → r ≡ ordering_reverse r → is_lt r ≡ false
itself Less e = absurd (cc)
itself Equal e = refl
itself Greater e = refl

-- no name comes before one that stands before it
not_under : (names : List (List ℕ)) (i k : ℕ) (e : List ℕ) → IsStrictlySortedBy text_cmp names → i ≤ k → k < length names → is_lt (text_cmp (get_or names k e) (get_or names i e)) ≡ false
not_under names i k e sorted low inside =
    ⊎_elim
    (λ before. ap is_lt (nat_list_cmp_total.antisymm (get_or names k e) (get_or names i e) ∙ ap ordering_reverse (Less-from_sorted text_cmp names i k e sorted before inside)))
    (λ after. let same : i ≡ k = omega (arith, low, after) in rw same (itself (text_cmp (get_or names k e) (get_or names k e)) (nat_list_cmp_total.antisymm (get_or names k e) (get_or names k e))))
    (cases_lt i k)

-- as many stand before a name among names in order as its place says
pub own_place : (names : List (List ℕ)) (i : ℕ) (d : List ℕ) → IsStrictlySortedBy text_cmp names → i < length names → place_of names (get_or names i d) ≡ i
own_place names i d sorted inside =
    count_parted (λ other. is_lt (text_cmp other (get_or names i d))) names i (omega (arith, inside)) (
      (λ k e low high. ap is_lt (ap (text_cmp (get_or names k e)) (same_at names i d e inside) ∙ Less-from_sorted text_cmp names k i e sorted high inside)),
      (λ k e low high. ap (λ name. is_lt (text_cmp (get_or names k e) name)) (same_at names i d e inside) ∙ not_under names i k e sorted low high),
    )
