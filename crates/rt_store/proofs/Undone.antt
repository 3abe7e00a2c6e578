-- A change is undone by writing back what it wrote over, and cutting to the old length.
use Rattle.rt_store.proofs.Prelude.{◌≡◌, ◌≤◌, ℕ, zero, suc, ◌+◌, ◌-◌, min, max, true, List, [], ◌∷◌, ◌++◌, length, take, drop, replicate, arith, refl, sym, subst, ◌∙◌, ap, rules, take-append_seam, common_steps, length-replicate, Change, Mutation, Write, Resize, undone, all_undone, mutations, zeroed, laid, len_after, len_before, written, resized, applied, has_none}

-- what stands from 0 on is written back
back : (c bs : List ℕ) → take (length c) (take (length bs) c ++ drop (length (take (length bs) c)) (bs ++ drop (length bs) c)) ≡ c
back [] bs = refl
back (x ∷ xs) [] = grind (arith, common_steps)
back (x ∷ xs) (y ∷ ys) = let rec = back xs ys in grind (arith, common_steps)

-- the first byte stays where the place is further on
written-step : (n x : ℕ) (bs xs : List ℕ) → written (suc n) bs (x ∷ xs) ≡ x ∷ written n bs xs
written-step n x bs xs =
    let e : suc n - suc (length xs) ≡ n - length xs = omega arith in
    let f : suc n + length bs ≡ suc (n + length bs) = omega arith in
    ap (λ (k : ℕ). x ∷ (take n xs ++ (replicate k 0 ++ (bs ++ drop (suc n + length bs) (x ∷ xs))))) e
    ∙ ap (λ (k : ℕ). x ∷ (take n xs ++ (replicate (n - length xs) 0 ++ (bs ++ drop k (x ∷ xs))))) f

-- a write, at any place
pub back_write : (at : ℕ) (c bs : List ℕ) → take (length c) (written (min at (length c)) (take (length bs) (drop (min at (length c)) c)) (written at bs c)) ≡ c
back_write zero c bs = let base = back c bs in let e : min 0 (length c) ≡ 0 = omega arith in rw e (grind (arith, common_steps))
back_write (suc n) [] bs = refl
back_write (suc n) (x ∷ xs) bs =
    let m = min n (length xs) in
    let saved = take (length bs) (drop m xs) in
    let e : min (suc n) (suc (length xs)) ≡ suc m = omega arith in
    ap (λ (k : ℕ). take (suc (length xs)) (written k (take (length bs) (drop k (x ∷ xs))) (written (suc n) bs (x ∷ xs)))) e
    ∙ ap (λ (w : List ℕ). take (suc (length xs)) (written (suc m) saved w)) (written-step n x bs xs)
    ∙ ap (λ (w : List ℕ). take (suc (length xs)) w) (written-step m x saved (written n bs xs))
    ∙ ap (λ (w : List ℕ). x ∷ w) (back_write n xs bs)

-- bytes that are there become zero where none is between the two places
zeroed-none : (n to : ℕ) (h : List ℕ) → n ≤ length h → to ≤ n → zeroed n to h ≡ h
zeroed-none n to h within le =
    let e : to - n ≡ 0 = omega arith in
    rw e (grind (arith, common_steps))

zeroed-step : (n to x : ℕ) (xs : List ℕ) → zeroed (suc n) (suc to) (x ∷ xs) ≡ x ∷ zeroed n to xs
zeroed-step n to x xs =
    let e : suc to - suc n ≡ to - n = omega arith in
    ap (λ (k : ℕ). written (suc n) (replicate k 0) (x ∷ xs)) e ∙ written-step n x (replicate (to - n) 0) xs

-- a write at the start, and one behind the first bytes
written-first : (bs h : List ℕ) → written 0 bs h ≡ bs ++ drop (length bs) h
written-first bs h =
    let e : 0 - length h ≡ 0 = omega arith in
    let d : 0 + length bs ≡ length bs = omega arith in
    ap (λ (k : ℕ). replicate k 0 ++ (bs ++ drop (0 + length bs) h)) e ∙ ap (λ (k : ℕ). bs ++ drop k h) d

written-behind : (zs bs h : List ℕ) → written (length zs) bs (zs ++ h) ≡ zs ++ (bs ++ drop (length bs) h)
written-behind [] bs h = written-first bs h
written-behind (z ∷ zs) bs h = written-step (length zs) z bs (zs ++ h) ∙ ap (λ (w : List ℕ). z ∷ w) (written-behind zs bs h)

-- where the blob has no byte there are zeros before a write
write-zeros : (at : ℕ) (bs h : List ℕ) → written at bs (zeroed 0 at h) ≡ (replicate at 0 ++ bs) ++ drop (length (replicate at 0 ++ bs)) h
write-zeros at bs h =
    let zs = replicate at 0 in
    let l : length zs ≡ at = length-replicate at 0 in
    let both : zs ++ (bs ++ drop (length bs) (drop (length zs) h)) ≡ (zs ++ bs) ++ drop (length (zs ++ bs)) h = grind (arith, common_steps) in
    let d : at - 0 ≡ at = omega arith in
    ap (λ (k : ℕ). written at bs (written 0 (replicate k 0) h)) d
    ∙ ap (λ (g : List ℕ). written at bs g) (written-first zs h)
    ∙ ap (λ (k : ℕ). written k bs (zs ++ drop (length zs) h)) (sym l)
    ∙ written-behind zs bs (drop (length zs) h)
    ∙ both

-- a write is one of zeros and the bytes
one-write : (at n : ℕ) (bs h : List ℕ) → n ≤ length h → written at bs (zeroed n at h) ≡ written (min at n) (replicate (at - n) 0 ++ bs) h
one-write at zero bs h le =
    let e : min at 0 ≡ 0 = omega arith in
    let d : at - 0 ≡ at = omega arith in
    write-zeros at bs h
    ∙ sym (written-first (replicate at 0 ++ bs) h)
    ∙ ap (λ (k : ℕ). written 0 (replicate k 0 ++ bs) h) (sym d)
    ∙ ap (λ (k : ℕ). written k (replicate (at - 0) 0 ++ bs) h) (sym e)
one-write zero (suc n) bs h le =
    let e : min 0 (suc n) ≡ 0 = omega arith in
    let d : 0 - suc n ≡ 0 = omega arith in
    ap (λ (g : List ℕ). written 0 bs g) (zeroed-none (suc n) 0 h le (omega arith))
    ∙ ap (λ (k : ℕ). written k bs h) (sym e)
    ∙ ap (λ (k : ℕ). written (min 0 (suc n)) (replicate k 0 ++ bs) h) (sym d)
one-write (suc at) (suc n) bs [] le = search rules
one-write (suc at) (suc n) bs (x ∷ xs) le =
    let xs-le : n ≤ length xs = omega arith in
    let e : min (suc at) (suc n) ≡ suc (min at n) = omega arith in
    let d : suc at - suc n ≡ at - n = omega arith in
    ap (λ (g : List ℕ). written (suc at) bs g) (zeroed-step n at x xs)
    ∙ written-step at x bs (zeroed n at xs)
    ∙ ap (λ (w : List ℕ). x ∷ w) (one-write at n bs xs xs-le)
    ∙ sym (written-step (min at n) x (replicate (at - n) 0 ++ bs) xs)
    ∙ ap (λ (k : ℕ). written k (replicate (at - n) 0 ++ bs) (x ∷ xs)) (sym e)
    ∙ ap (λ (k : ℕ). written (min (suc at) (suc n)) (replicate k 0 ++ bs) (x ∷ xs)) (sym d)

-- and a change of length one of zeros
one-length : (to n : ℕ) (h : List ℕ) → n ≤ length h → zeroed n to h ≡ written (min to n) (replicate (to - n) 0) h
one-length to zero h le = let e : min to 0 ≡ 0 = omega arith in rw e refl
one-length zero (suc n) h le =
    let e : min 0 (suc n) ≡ 0 = omega arith in
    let d : 0 - suc n ≡ 0 = omega arith in
    zeroed-none (suc n) 0 h le (omega arith)
    ∙ sym (written-first [] h)
    ∙ ap (λ (k : ℕ). written k [] h) (sym e)
    ∙ ap (λ (k : ℕ). written (min 0 (suc n)) (replicate k 0) h) (sym d)
one-length (suc to) (suc n) [] le = search rules
one-length (suc to) (suc n) (x ∷ xs) le =
    let xs-le : n ≤ length xs = omega arith in
    let e : min (suc to) (suc n) ≡ suc (min to n) = omega arith in
    let d : suc to - suc n ≡ to - n = omega arith in
    zeroed-step n to x xs
    ∙ ap (λ (w : List ℕ). x ∷ w) (one-length to n xs xs-le)
    ∙ sym (written-step (min to n) x (replicate (to - n) 0) xs)
    ∙ ap (λ (k : ℕ). written k (replicate (to - n) 0) (x ∷ xs)) (sym e)
    ∙ ap (λ (k : ℕ). written (min (suc to) (suc n)) (replicate k 0) (x ∷ xs)) (sym d)

-- what was written over from a place within the bytes is written back
back_over : (at n len : ℕ) (bs h : List ℕ) → n ≤ length h → len ≡ length bs → take (length h) (written (min at n) (take len (drop (min at n) h)) (written (min at n) bs h)) ≡ h
back_over at n len bs h le e =
    let m : min (min at n) (length h) ≡ min at n = omega arith in
    let b = back_write (min at n) h bs in
    rw e (subst (λ (k : ℕ). take (length h) (written k (take (length bs) (drop k h)) (written (min at n) bs h)) ≡ h) m b)

pub back_write_laid : (at n : ℕ) (bs h : List ℕ) → n ≤ length h → take (length h) (written (min at n) (take (at + length bs - min at n) (drop (min at n) h)) (written at bs (zeroed n at h))) ≡ h
back_write_laid at n bs h le =
    let e : at + length bs - min at n ≡ length (replicate (at - n) 0 ++ bs) = grind (arith, common_steps) in
    ap (λ (w : List ℕ). take (length h) (written (min at n) (take (at + length bs - min at n) (drop (min at n) h)) w)) (one-write at n bs h le)
    ∙ back_over at n (at + length bs - min at n) (replicate (at - n) 0 ++ bs) h le e

pub back_length_laid : (to n : ℕ) (h : List ℕ) → n ≤ length h → take (length h) (written (min to n) (take (to - min to n) (drop (min to n) h)) (zeroed n to h)) ≡ h
back_length_laid to n h le =
    let e : to - min to n ≡ length (replicate (to - n) 0) = grind (arith, common_steps) in
    ap (λ (w : List ℕ). take (length h) (written (min to n) (take (to - min to n) (drop (min to n) h)) w)) (one-length to n h le)
    ∙ back_over to n (to - min to n) (replicate (to - n) 0) h le e

over : (n : ℕ) (bs h : List ℕ) → n ≤ length h → take (max n (length bs)) (bs ++ drop (length bs) h) ≡ bs ++ drop (length bs) (take n h)
over n [] h le = let e : max n 0 ≡ n = omega arith in rw e refl
over zero (b ∷ bs) h le = grind (arith, common_steps)
over (suc n) (b ∷ bs) [] le = search rules
over (suc n) (b ∷ bs) (x ∷ xs) le =
    let xs-le : n ≤ length xs = omega arith in
    let e : max (suc n) (suc (length bs)) ≡ suc (max n (length bs)) = omega arith in
    rw e (ap (λ (w : List ℕ). b ∷ w) (over n bs xs xs-le))

-- the first bytes are those of the blob after the change
cut-write : (at n : ℕ) (bs h : List ℕ) → n ≤ length h → take (max n (at + length bs)) (written at bs (zeroed n at h)) ≡ written at bs (take n h)
cut-write at zero bs h le =
    let zs = replicate at 0 ++ bs in
    let e : max 0 (at + length bs) ≡ length zs = grind (arith, common_steps) in
    let none : written at bs [] ≡ zs = grind (arith, common_steps) in
    let first : take (length zs) (zs ++ drop (length zs) h) ≡ zs = take-append_seam zs (drop (length zs) h) in
    ap (λ (g : List ℕ). take (max 0 (at + length bs)) g) (write-zeros at bs h)
    ∙ ap (λ (k : ℕ). take k (zs ++ drop (length zs) h)) e
    ∙ first
    ∙ sym none
cut-write zero (suc n) bs h le =
    let d : 0 + length bs ≡ length bs = omega arith in
    ap (λ (g : List ℕ). take (max (suc n) (0 + length bs)) (written 0 bs g)) (zeroed-none (suc n) 0 h le (omega arith))
    ∙ ap (λ (g : List ℕ). take (max (suc n) (0 + length bs)) g) (written-first bs h)
    ∙ ap (λ (k : ℕ). take (max (suc n) k) (bs ++ drop (length bs) h)) d
    ∙ over (suc n) bs h le
    ∙ sym (written-first bs (take (suc n) h))
cut-write (suc at) (suc n) bs [] le = search rules
cut-write (suc at) (suc n) bs (x ∷ xs) le =
    let xs-le : n ≤ length xs = omega arith in
    let e : max (suc n) (suc at + length bs) ≡ suc (max n (at + length bs)) = omega arith in
    ap (λ (g : List ℕ). take (max (suc n) (suc at + length bs)) (written (suc at) bs g)) (zeroed-step n at x xs)
    ∙ ap (λ (g : List ℕ). take (max (suc n) (suc at + length bs)) g) (written-step at x bs (zeroed n at xs))
    ∙ ap (λ (k : ℕ). take k (x ∷ written at bs (zeroed n at xs))) e
    ∙ ap (λ (w : List ℕ). x ∷ w) (cut-write at n bs xs xs-le)
    ∙ sym (written-step at x bs (take n xs))

cut-length : (to n : ℕ) (h : List ℕ) → n ≤ length h → take to (zeroed n to h) ≡ resized to (take n h)
cut-length to zero h le = grind (arith, common_steps)
cut-length zero (suc n) h le = grind (arith, common_steps)
cut-length (suc to) (suc n) [] le = search rules
cut-length (suc to) (suc n) (x ∷ xs) le =
    let xs-le : n ≤ length xs = omega arith in
    let e : suc to - suc (length (take n xs)) ≡ to - length (take n xs) = omega arith in
    ap (λ (g : List ℕ). take (suc to) g) (zeroed-step n to x xs)
    ∙ ap (λ (w : List ℕ). x ∷ w) (cut-length to n xs xs-le)
    ∙ ap (λ (k : ℕ). x ∷ (take to (take n xs) ++ replicate k 0)) (sym e)

pub laid_is : (m : Mutation) (n : ℕ) (h : List ℕ) → n ≤ length h → take (len_after m n) (laid m n h) ≡ applied m (take n h)
laid_is (Write at bytes durable) n h le = cut-write at n bytes h le
laid_is (Resize to) n h le = cut-length to n h le

pub laid_long : (m : Mutation) (n : ℕ) (h : List ℕ) → n ≤ length h → len_after m n ≤ length (laid m n h)
laid_long (Write at bytes durable) n h le = grind (arith, common_steps)
laid_long (Resize to) n h le = grind (arith, common_steps)

-- the last change is undone first
pub undone_snoc : (us : List Change) (u : Change) (new : List ℕ) → all_undone (us ++ u ∷ []) new ≡ all_undone us (undone u.before new)
undone_snoc [] u new = refl
undone_snoc (v ∷ vs) u new = ap (λ (w : List ℕ). undone v.before w) (undone_snoc vs u new)

-- no change is left where none decides
pub none_left : (us : List Change) → has_none (mutations us) ≡ true → us ≡ []
none_left [] h = refl
none_left (u ∷ us) h = search rules

pub mutations_snoc : (us : List Change) (u : Change) → mutations (us ++ u ∷ []) ≡ mutations us ++ u.mutation ∷ []
mutations_snoc [] u = refl
mutations_snoc (v ∷ vs) u = ap (λ (ms : List Mutation). v.mutation ∷ ms) (mutations_snoc vs u)

-- how many bytes there were before the first change
pub len_before_snoc : (us : List Change) (u : Change) (len after : ℕ) → u.before.len ≡ len → len_before (us ++ u ∷ []) after ≡ len_before us len
len_before_snoc [] u len after e = e
len_before_snoc (v ∷ vs) u len after e = refl
