use Rattle.std.proofs.Common.{◌≡◌, ℕ, zero, suc, ◌+◌, ◌-◌, ◌<◌, ◌≤◌, List, [], ◌++◌, Option, Some, None, IfSome, length, take, drop, refl, ◌∙◌, ap, subst, append_assoc, arith, length-drop}
use Rattle.std.proofs.Math.Seq.{take-add, take-length}
use Rattle.std.proofs.lemmas.List.{drop-drop, take_all}
use Rattle.rt_base.specs.Outside.{Appends, Takes}

-- some bytes are appended, and then others
pub appends_more : (old mid new : Option (List ℕ)) (xs ys : List ℕ) → Appends old xs mid → Appends mid ys new → Appends old (xs ++ ys) new
appends_more old mid None xs ys h k = tt
appends_more old mid (Some all) xs ys h k =
    let P : Option (List ℕ) → Type 0 = λ m. Appends old xs m in
    let before : Appends old xs (Some k.0) = subst P k.1 h in
    (before.0, before.1, k.2 ∙ ap (λ l. l ++ ys) before.2 ∙ append_assoc before.0 xs ys)

-- n bytes were read of those that a source told, and the others are left
abbrev pub ReadSoFar : Option (List ℕ) → List ℕ → ℕ → Option (List ℕ) → Type 0
ReadSoFar start bytes n now = IfSome start (λ left. (n ≤ length left) × (bytes ≡ take n left) × (now ≡ Some (drop n left)))

pub read_none : (start : Option (List ℕ)) → ReadSoFar start [] 0 start
read_none None = tt
read_none (Some left) = (omega arith, refl, refl)

pub read_more : (start now new : Option (List ℕ)) (bytes buf more : List ℕ) (n k room total : ℕ) → ReadSoFar start bytes n now → Takes now room k buf new → more ≡ bytes ++ take k buf → total ≡ n + k → ReadSoFar start more total new
read_more None now new bytes buf more n k room total h t e f = tt
read_more (Some left) now new bytes buf more n k room total h t e f =
    let P : Option (List ℕ) → Type 0 = λ m. Takes m room k buf new in
    let told : Takes (Some (drop n left)) room k buf new = subst P h.2 t in
    let fits : k ≤ length (drop n left) = told.0 in
    (omega (arith, length-drop n left, h.0), (rw (f, take-add n k left, e, h.1, told.1) refl), (rw (f, ← drop-drop k n left) told.2))

none_by : (a : ℕ) → (0 < a → 0 < 0) → a ≡ 0
none_by zero h = refl
none_by (suc a) h = absurd (omega (arith, h (omega arith)))

-- a read of nothing into some room is the end
pub read_all : (start now new : Option (List ℕ)) (bytes buf : List ℕ) (n k room : ℕ) → ReadSoFar start bytes n now → 0 < room → k ≡ 0 → Takes now room k buf new → IfSome start (λ left. bytes ≡ left)
read_all None now new bytes buf n k room h space z t = tt
read_all (Some left) now new bytes buf n k room h space z t =
    let P : Option (List ℕ) → Type 0 = λ m. Takes m room k buf new in
    let Q : ℕ → Type 0 = λ m. Takes (Some (drop n left)) room m buf new in
    let told : Takes (Some (drop n left)) room 0 buf new = subst Q z (subst P h.2 t) in
    let none_left : length (drop n left) ≡ 0 = none_by (length (drop n left)) (told.3 space) in
    let end : n ≡ length left = omega (arith, length-drop n left, h.0) in
    h.1 ∙ ap (λ m. take m left) end ∙ take-length left

-- the first bytes of a piece are appended, and then more of it
pub appends_on : (old mid new : Option (List ℕ)) (piece : List ℕ) (n k : ℕ) → Appends old (take n piece) mid → Appends mid (take k (take (length piece - n) (drop n piece))) new → Appends old (take (n + k) piece) new
appends_on old mid new piece n k h t =
    let rest : length (drop n piece) ≤ length piece - n = omega (arith, length-drop n piece) in
    let P : List ℕ → Type 0 = λ l. Appends mid (take k l) new in
    rw (take-add n k piece) (appends_more old mid new (take n piece) (take k (drop n piece)) h (subst P (take_all (length piece - n) (drop n piece) rest) t))
