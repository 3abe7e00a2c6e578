-- Buffers that stand at their places are all there, or one is missing.
use Rattle.rt_store.proofs.Prelude.{◌≡◌, ℕ, zero, suc, ◌<◌, ◌≤◌, ◌⊎◌, inl, inr, Bool, true, false, ◌||◌, cond, List, [], ◌∷◌, length, map, get_or, Some, None, Vec, Global, arith, refl, sym, ap, subst, ◌∙◌, rules, le-length_from_below, list_any, eqb, slice_get, IsSome, IfOk, IfErr, Error, NoMemory, ReadFailed, are_below, last_or, last_at, IsWhole, AreCollected}
use Rattle.std.proofs.Common.{Option}
use Rattle.std.specs.Prelude.{Result, Ok, Err}

both-false : (b c : Bool) → (b || c) ≡ false → (b ≡ false) × (c ≡ false)
both-false true c h = search rules
both-false false c h = (refl, h)

unless-false : (b : Bool) → (b ≡ false → ⊥) → b ≡ true
unless-false true k = refl
unless-false false k = absurd (k refl)

abbrev places : {A : Type 0} → List (ℕ × A) → List ℕ
places [] = []
places (r ∷ rs) = r.0 ∷ places rs

length-places : {A : Type 0} (rs : List (ℕ × A)) → length (places rs) ≡ length rs
length-places [] = refl
length-places (r ∷ rs) = let rec = length-places rs in omega arith

-- no place, no buffer
not-found : {A : Type 0} (q : ℕ) (rs : List (ℕ × A)) (x : Option A) → list_any (eqb q) (places rs) ≡ false → last_or q rs x ≡ x
not-found q [] x h = refl
not-found q (r ∷ rs) x h =
    let both = both-false (eqb q r.0) (list_any (eqb q) (places rs)) h in
    ap (λ (b : Bool). last_or q rs (cond b (Some r.1) x)) both.0 ∙ not-found q rs x both.1

none-some : {A : Type 0} (o : Option A) → o ≡ None → IsSome o → ⊥
none-some o e h = search rules

-- fewer buffers than places leave one out
pub fits_whole : {A : Type 0} (n : ℕ) (rs : List (ℕ × A)) → IsWhole n rs → n ≤ length rs
fits_whole n rs w =
    let here = le-length_from_below (places rs) n (λ q lt. unless-false (list_any (eqb q) (places rs)) (λ e. none-some (last_at q rs) (not-found q rs None e) (w.1 q lt))) in
    let same = length-places rs in
    omega arith

got : {A : Type 0} (bufs : List A) (i : ℕ) (o : Option A) → slice_get (map Some bufs) i ≡ Some o → slice_get bufs i ≡ o
got [] i o h = search rules
got (b ∷ bs) zero o h = cc
got (b ∷ bs) (suc i) o h = got bs i o h

within : {A : Type 0} (xs : List A) (i : ℕ) (d v : A) → i < length xs → get_or xs i d ≡ v → slice_get xs i ≡ Some v
within [] i d v lt h = absurd (omega arith)
within {A = A} (x ∷ xs) zero d v lt h = ap (λ (y : A). let o : Option A = Some y in o) h
within (x ∷ xs) (suc i) d v lt h = within xs i d v (omega arith) h

found-there : {A : Type 0} (xs : List A) (i : ℕ) (d v : A) → slice_get xs i ≡ Some v → (i < length xs) × (get_or xs i d ≡ v)
found-there [] i d v h = search rules
found-there (x ∷ xs) zero d v h = ((omega arith), (cc))
found-there (x ∷ xs) (suc i) d v h = let rec = found-there xs i d v h in ((omega arith), rec.1)

length-somes : {A : Type 0} (bufs : List A) → length (map Some bufs) ≡ length bufs
length-somes [] = refl
length-somes (b ∷ bs) = let rec = length-somes bs in omega arith

-- what stands in the slots after all buffers were put
abbrev pub AreSlots : {A : Type 0} → ℕ → List (ℕ × A) → List (Option A) → Type 0
AreSlots n rs slots = (are_below n rs ≡ true) × (length slots ≡ n) × ((i : ℕ) → i < n → get_or slots i None ≡ last_at i rs)

pub collected : {A : Type 0} (n : ℕ) (rs : List (ℕ × A)) (slots : List (Option A)) (r : Result (Vec A Global) Error) → AreSlots n rs slots → IfOk r (λ bufs. map Some bufs.items ≡ slots) → IfOk r (λ bufs. AreCollected n rs bufs.items)
collected n rs slots (Err e) s h = tt
collected {A = A} n rs slots (Ok bufs) s h =
    let len = ap (λ (os : List (Option A)). length os) h in
    let same = length-somes bufs.items in
    let size : length bufs.items ≡ n = omega (arith, s.1) in (
      s.0,
      size,
      λ i lt.
          let below : i < length slots = omega (arith, s.1) in
          got bufs.items i (last_at i rs) (subst (λ os. slice_get os i ≡ Some (last_at i rs)) (sym h) (within slots i None (last_at i rs) below (s.2 i lt))),
    )

pub not_collected : {A B : Type 0} (n : ℕ) (rs : List (ℕ × A)) (slots : List (Option A)) (r : Result B Error) → AreSlots n rs slots → IfErr r (λ e. (e ≡ NoMemory) ⊎ ((e ≡ ReadFailed) × ((i : ℕ) × (slice_get slots i ≡ Some None)))) → IfErr r (λ e. (e ≡ NoMemory) ⊎ ((e ≡ ReadFailed) × (IsWhole n rs → ⊥)))
not_collected n rs slots (Ok b) s h = tt
not_collected n rs slots (Err e) s (inl h) = inl h
not_collected n rs slots (Err e) s (inr h) =
    let there = found-there slots h.1.0 None None h.1.1 in
    inr (h.0, λ w. none-some (last_at h.1.0 rs) (sym (s.2 h.1.0 (omega (arith, s.1))) ∙ there.1) (w.1 h.1.0 (omega (arith, s.1))))
