-- The place of an address in a list.
use Rattle.rt_net.proofs.Prelude.{◌≡◌, ℕ, ◌+◌, Bool, true, false, cond, ◌||◌, List, [], ◌∷◌, ◌++◌, Option, Some, None, refl, ap, ◌∙◌, rules, position, position_from, list_any, position_from-zero, insert_key, Addr, addr_eq, number_at}
use Rattle.std.proofs.Common.{if◌then◌else◌}

same-either-way : (a b : Addr) → addr_eq a b ≡ addr_eq b a
same-either-way a b = search rules

-- it is its number
pub number-position : (xs : List Addr) (a : Addr) → position (addr_eq a) xs ≡ number_at xs a
number-position xs a = position_from-zero (addr_eq a) xs ∙ (λ i. position_from (λ b. same-either-way a b i) 0 xs)

passed-over : (t : Bool) (o : Option ℕ) (i : ℕ) → cond t (Some i) o ≡ None → (t ≡ false) × (o ≡ None)
passed-over true o i e = absurd (cc)
passed-over false o i e = (refl, e)

none-placed : (a : Addr) (i : ℕ) (xs : List Addr) → position_from (λ b. addr_eq b a) i xs ≡ None → list_any (addr_eq a) xs ≡ false
none-placed a i [] absent = refl
none-placed a i (x ∷ xs) absent =
    let first = passed-over (addr_eq x a) (position_from (λ b. addr_eq b a) (i + 1) xs) i absent in
    ap (λ b. b || list_any (addr_eq a) xs) (same-either-way a x ∙ first.0) ∙ none-placed a (i + 1) xs first.1

-- an address without a number goes last
pub goes-last : (xs : List Addr) (a : Addr) → number_at xs a ≡ None → insert_key addr_eq xs a ≡ xs ++ a ∷ []
goes-last xs a absent = ap (λ b. if b then xs else xs ++ a ∷ []) (none-placed a 0 xs absent)
