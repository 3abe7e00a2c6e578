-- Bytes that are put over others.
use Rattle.rt_buffer.proofs.Prelude.{◌≡◌, ℕ, ◌+◌, ◌-◌, List, [], ◌++◌, length, take, drop, refl, ap, ◌∙◌, inl, inr, arith, replicate, take-append-add, drop-append-add, cases_lt, take-append-le, drop-append-le, append_assoc, append-nil, take-replicate, length-replicate, drop_all, take_all, written}

take_past : (n k : ℕ) (xs ys : List ℕ) → n ≡ length xs + k → take n (xs ++ ys) ≡ xs ++ take k ys
take_past n k xs ys e = rw e (take-append-add xs ys k)

drop_past : (n k : ℕ) (xs ys : List ℕ) → n ≡ length xs + k → drop n (xs ++ ys) ≡ drop k ys
drop_past n k xs ys e = rw e (drop-append-add xs ys k)

-- a cut of two lists cuts each
pub take-append : (n : ℕ) (xs ys : List ℕ) → take n (xs ++ ys) ≡ take n xs ++ take (n - length xs) ys
take-append n xs ys = elim (cases_lt (length xs) n) [
  | inl long ↦ rw (take_all n xs (omega arith)) (take_past n (n - length xs) xs ys (omega arith))
  | inr short ↦
      let none : n - length xs ≡ 0 = omega arith in
      rw (none, append-nil (take n xs)) (take-append-le n xs ys short)
]

pub drop-append : (n : ℕ) (xs ys : List ℕ) → drop n (xs ++ ys) ≡ drop n xs ++ drop (n - length xs) ys
drop-append n xs ys = elim (cases_lt (length xs) n) [
  | inl long ↦ rw (drop_all n xs (omega arith)) (drop_past n (n - length xs) xs ys (omega arith))
  | inr short ↦
      let none : n - length xs ≡ 0 = omega arith in
      rw none (drop-append-le n xs ys short)
]

-- bytes that are written over those of a list with zeros enough at its end
pub put_over : (at : ℕ) (new old : List ℕ) →
    take at (old ++ replicate ((at + length new) - length old) 0) ++ (new ++ drop (at + length new) (old ++ replicate ((at + length new) - length old) 0)) ≡ written at new old
put_over at new old =
    let end = at + length new in
    let zeros : List ℕ = replicate (end - length old) 0 in
    let gap : List ℕ = replicate (at - length old) 0 in
    let first : take (at - length old) zeros ≡ gap = take-replicate (at - length old) (end - length old) 0 (omega arith) in
    let none : drop (end - length old) zeros ≡ [] = drop_all (end - length old) zeros (omega (arith, length-replicate {A = ℕ} (end - length old) 0)) in
    let before : take at (old ++ zeros) ≡ take at old ++ gap = take-append at old zeros ∙ ap (λ x. take at old ++ x) first in
    let behind : drop end (old ++ zeros) ≡ drop end old = drop-append end old zeros ∙ (ap (λ x. drop end old ++ x) none ∙ append-nil (drop end old)) in
    rw (before, behind, append_assoc) refl
