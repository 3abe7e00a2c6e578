-- Buffers with their places, in the order of the ranges.
use Rattle.rt_store.proofs.Prelude.{◌≡◌, ◌+◌, ◌<◌, ◌≤◌, ◌⊎◌, ◌==◌, inl, inr, ℕ, suc, Bool, true, false, cond, List, [], ◌∷◌, length, map, Some, None, arith, refl, sym, ap, subst, eqb-false, lt-ltb, All-cons, All-nil, IsSome, slice_get, nat_lt, WritableChunks, HaveLengths, HavePlacedLengths, IsWhole, are_below, bytes_of, last_or, lengths_of, placed, placed_bytes}
use Rattle.std.proofs.Common.{Option}
use Rattle.std.specs.List.{All}

abbrev sizes : List WritableChunks → List ℕ
sizes bufs = map (λ (b : WritableChunks). length b.bytes) bufs

have_from : (ls : List ℕ) (place : ℕ) (bufs : List WritableChunks) (reads : List (ℕ × WritableChunks)) → ((i : ℕ) → slice_get ls (place + i) ≡ slice_get (sizes bufs) i) → placed_bytes reads ≡ placed place (bytes_of bufs) → All (λ (r : ℕ × WritableChunks). slice_get ls r.0 ≡ Some (length r.1.bytes)) reads
have_from ls place [] [] same is = All-nil (λ (r : ℕ × WritableChunks). slice_get ls r.0 ≡ Some (length r.1.bytes))
have_from ls place [] (r ∷ rs) same is = absurd (cc)
have_from ls place (b ∷ bs) [] same is = absurd (cc)
have_from ls place (b ∷ bs) (r ∷ rs) same is =
    let rest : placed_bytes rs ≡ placed (place + 1) (bytes_of bs) = cc in
    let zero-more : place + 0 ≡ place = omega arith in
    let head : (r.0, r.1.bytes) ≡ (place, b.bytes) = cc in
    let at : r.0 ≡ place = ap (λ (p : ℕ × List ℕ). p.0) head in
    let has : r.1.bytes ≡ b.bytes = ap (λ (p : ℕ × List ℕ). p.1) head in
    let first : slice_get ls place ≡ Some (length b.bytes) = subst (λ (n : ℕ). slice_get ls n ≡ Some (length b.bytes)) zero-more (same 0) in
    let here : slice_get ls r.0 ≡ Some (length r.1.bytes) = rw (at, has) first in
    let next = λ (i : ℕ). subst (λ (n : ℕ). slice_get ls n ≡ slice_get (sizes bs) i) (omega arith) (same (suc i)) in
    All-cons (λ (q : ℕ × WritableChunks). slice_get ls q.0 ≡ Some (length q.1.bytes)) r rs here (have_from ls (place + 1) bs rs next rest)

are_from : (n place : ℕ) (bufs : List WritableChunks) (reads : List (ℕ × WritableChunks)) → place + length bufs ≤ n → placed_bytes reads ≡ placed place (bytes_of bufs) → are_below n reads ≡ true
are_from n place [] [] fits is = refl
are_from n place [] (r ∷ rs) fits is = absurd (cc)
are_from n place (b ∷ bs) [] fits is = absurd (cc)
are_from n place (b ∷ bs) (r ∷ rs) fits is =
    let rest : placed_bytes rs ≡ placed (place + 1) (bytes_of bs) = cc in
    let below : nat_lt place n ≡ true = lt-ltb place n (omega (arith, fits)) in
    let head : (r.0, r.1.bytes) ≡ (place, b.bytes) = cc in
    let at : r.0 ≡ place = ap (λ (p : ℕ × List ℕ). p.0) head in
    rw (at, below) (are_from n (place + 1) bs rs (omega (arith, fits)) rest)

found_here : (i place len : ℕ) (t : Bool) (y : WritableChunks) (x : Option WritableChunks) → (i == place) ≡ t → IsSome x ⊎ ((place ≤ i) × (i < place + suc len)) → IsSome (cond t (Some y) x) ⊎ ((place + 1 ≤ i) × (i < place + 1 + len))
found_here i place len true y x is h = inl refl
found_here i place len false y x is (inl some) = inl some
found_here i place len false y x is (inr within) =
    let other : i ≡ place → ⊥ = eqb-false i place is in
    inr (omega (arith, within.0, other), omega (arith, within.1))

found_from : (i place : ℕ) (bufs : List WritableChunks) (reads : List (ℕ × WritableChunks)) (x : Option WritableChunks) → IsSome x ⊎ ((place ≤ i) × (i < place + length bufs)) → placed_bytes reads ≡ placed place (bytes_of bufs) → IsSome (last_or i reads x)
found_from i place [] [] x (inl some) is = some
found_from i place [] [] x (inr within) is = absurd (omega (arith, within.0, within.1))
found_from i place [] (r ∷ rs) x h is = absurd (cc)
found_from i place (b ∷ bs) [] x h is = absurd (cc)
found_from i place (b ∷ bs) (r ∷ rs) x h is =
    let rest : placed_bytes rs ≡ placed (place + 1) (bytes_of bs) = cc in
    let head : (r.0, r.1.bytes) ≡ (place, b.bytes) = cc in
    let at : r.0 ≡ place = ap (λ (p : ℕ × List ℕ). p.0) head in
    let next : IsSome (cond (i == r.0) (Some r.1) x) ⊎ ((place + 1 ≤ i) × (i < place + 1 + length bs)) = rw at (found_here i place (length bs) (i == place) r.1 x refl h) in
    found_from i (place + 1) bs rs (cond (i == r.0) (Some r.1) x) next rest

number_from : (place : ℕ) (bufs : List WritableChunks) (reads : List (ℕ × WritableChunks)) → placed_bytes reads ≡ placed place (bytes_of bufs) → length reads ≡ length bufs
number_from place [] [] is = refl
number_from place [] (r ∷ rs) is = absurd (cc)
number_from place (b ∷ bs) [] is = absurd (cc)
number_from place (b ∷ bs) (r ∷ rs) is =
    let rest : placed_bytes rs ≡ placed (place + 1) (bytes_of bs) = cc in
    ap suc (number_from (place + 1) bs rs rest)

pub number_placed : (bufs : List WritableChunks) (reads : List (ℕ × WritableChunks)) → placed_bytes reads ≡ placed 0 (bytes_of bufs) → length reads ≡ length bufs
number_placed bufs reads is = number_from 0 bufs reads is

pub whole_placed : (bufs : List WritableChunks) (reads : List (ℕ × WritableChunks)) → placed_bytes reads ≡ placed 0 (bytes_of bufs) → IsWhole (length bufs) reads
whole_placed bufs reads is = (are_from (length bufs) 0 bufs reads (omega arith) is, λ i below. found_from i 0 bufs reads None (inr (omega arith, omega (arith, below))) is)

pub lengths_placed : (ranges : List (ℕ × ℕ)) (bufs : List WritableChunks) (reads : List (ℕ × WritableChunks)) → placed_bytes reads ≡ placed 0 (bytes_of bufs) → HaveLengths ranges bufs → HavePlacedLengths ranges reads
lengths_placed ranges bufs reads is have = have_from (lengths_of ranges) 0 bufs reads (λ i. subst (λ (n : ℕ). slice_get (lengths_of ranges) n ≡ slice_get (sizes bufs) i) (omega arith) (ap (λ (ls : List ℕ). slice_get ls i) (sym have))) is
