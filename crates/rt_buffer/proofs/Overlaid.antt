-- A blob that is written to beside its tip.
use Rattle.rt_buffer.proofs.Prelude.{◌≡◌, ℕ, ◌+◌, ◌-◌, ◌≤◌, ◌<◌, max, Bool, true, false, List, [], ◌∷◌, ◌++◌, length, take, drop, refl, sym, ap, ◌∙◌, arith, replicate, nat_tests, append-nil, append_assoc, drop-append-le, length-append, length-drop, length-replicate, length-take, length-take-le, drop-drop, take-append-drop, take-append-le, take-take, take_all, take_at, nat_le, nat_lt, resized, written, Tip, bytes_before, bytes_to_write, drained, empty_tip, end_of, laid_over, raised, resized_tip, shortened, LiesOver, has_bytes, is_in_the_way, chunks_written, with_bytes, NoneEmpty, concat}
use Rattle.std.specs.Prelude.{Some, None}
use Rattle.rt_buffer.proofs.Laid.{drop_behind, laid_is}
use Rattle.rt_buffer.proofs.Written.{take-append}

-- a write within the first part
written_before : (at : ℕ) (b p q : List ℕ) → at + length b ≤ length p → written at b (p ++ q) ≡ written at b p ++ q
written_before at b p q h =
    let none : at - length (p ++ q) ≡ 0 = omega (arith, length-append p q) in
    let zero : at - length p ≡ 0 = omega arith in
    let first : take at (p ++ q) ≡ take at p = take-append-le at p q (omega arith) in
    let last : drop (at + length b) (p ++ q) ≡ drop (at + length b) p ++ q = drop-append-le (at + length b) p q h in
    let parts : take at p ++ (b ++ (drop (at + length b) p ++ q)) ≡ (take at p ++ (b ++ drop (at + length b) p)) ++ q = sym (append_assoc (take at p) (b ++ drop (at + length b) p) q ∙ ap (λ (x : List ℕ). take at p ++ x) (append_assoc b (drop (at + length b) p) q)) in
    rw (none, zero, first, last) parts

written_length : (at : ℕ) (b c : List ℕ) → length (written at b c) ≡ max (length c) (at + length b)
written_length at b c =
    let zeros : List ℕ = replicate (at - length c) 0 in
    let rest : List ℕ = drop (at + length b) c in
    omega (arith, length-append (take at c) (zeros ++ (b ++ rest)), length-append zeros (b ++ rest), length-append b rest, length-take at c, length-replicate {A = ℕ} (at - length c) 0, length-drop (at + length b) c)

-- a write that ends before the tip
flat_before : (t : Tip) (b : List ℕ) (at : ℕ) (c : List ℕ) → LiesOver t c → at + length b ≤ t.offset → LiesOver t (written at b c) × (laid_over t (written at b c) ≡ written at b (laid_over t c))
flat_before t b at c lies h =
    let p : List ℕ = take t.offset c in
    let q : List ℕ = drop t.offset c in
    let front : length p ≡ t.offset = length-take-le t.offset c lies.0 in
    let put : written at b c ≡ written at b p ++ q = ap (λ (x : List ℕ). written at b x) (sym (take-append-drop t.offset c)) ∙ written_before at b p q (omega (arith, front)) in
    let same : length (written at b p) ≡ t.offset = omega (arith, written_length at b p, front) in
    let longs : length (written at b c) ≡ length c = omega (arith, written_length at b c, lies.0) in
    let over : LiesOver t (written at b c) = (omega (arith, longs, lies.0), omega (arith, longs, lies.1)) in
    let first : take t.offset (written at b c) ≡ written at b p = ap (λ (x : List ℕ). take t.offset x) put ∙ take_at (written at b p) q t.offset same in
    let seen : laid_over t (written at b c) ≡ written at b p ++ t.bytes = laid_is t (written at b c) over ∙ ap (λ (x : List ℕ). x ++ t.bytes) first in
    let back : written at b (laid_over t c) ≡ written at b p ++ t.bytes = ap (λ (x : List ℕ). written at b x) (laid_is t c lies) ∙ written_before at b p t.bytes (omega (arith, front)) in
    (over, seen ∙ sym back)

pub empty_shows : (offset capacity : ℕ) (c : List ℕ) → LiesOver (empty_tip offset capacity) c → laid_over (empty_tip offset capacity) c ≡ c
empty_shows offset capacity c lies = laid_is (empty_tip offset capacity) c lies ∙ (append-nil (take offset c) ∙ take_all offset c (omega (arith, lies.1)))

-- a write behind which an empty tip begins
flat_past : (offset capacity : ℕ) (b : List ℕ) (at : ℕ) (c : List ℕ) → LiesOver (empty_tip offset capacity) c
    → LiesOver (empty_tip (max offset (at + length b)) capacity) (written at b c) × (laid_over (empty_tip (max offset (at + length b)) capacity) (written at b c) ≡ written at b (laid_over (empty_tip offset capacity) c))
flat_past offset capacity b at c lies =
    let over : LiesOver (empty_tip (max offset (at + length b)) capacity) (written at b c) = (omega (arith, written_length at b c, lies.0, lies.1), omega (arith, written_length at b c, lies.0, lies.1)) in
    (over, empty_shows (max offset (at + length b)) capacity (written at b c) over ∙ ap (λ (x : List ℕ). written at b x) (sym (empty_shows offset capacity c lies)))

not_before : (n m : ℕ) → nat_lt n m ≡ false → m ≤ n
not_before n m e = grind (arith, nat_tests)

-- a write to a blob whose tip isn't in its way
pub flat_beside : (offset capacity : ℕ) (own b : List ℕ) (at : ℕ) (c : List ℕ) → is_in_the_way (record { offset = offset; bytes = own; capacity = capacity }) (at + length b) ≡ false → LiesOver (record { offset = offset; bytes = own; capacity = capacity }) c
    → LiesOver (raised (record { offset = offset; bytes = own; capacity = capacity }) (at + length b)) (written at b c)
    × (laid_over (raised (record { offset = offset; bytes = own; capacity = capacity }) (at + length b)) (written at b c) ≡ written at b (laid_over (record { offset = offset; bytes = own; capacity = capacity }) c))
flat_beside offset capacity [] b at c free lies = flat_past offset capacity b at c lies
flat_beside offset capacity (x ∷ xs) b at c free lies = flat_before (record { offset = offset; bytes = x ∷ xs; capacity = capacity }) b at c lies (not_before offset (at + length b) free)

-- a tip that was written out
pub flat_drained : (t : Tip) (c : List ℕ) → LiesOver t c → LiesOver (drained t) (laid_over t c) × (laid_over (drained t) (laid_over t c) ≡ laid_over t c)
flat_drained t c lies =
    let long : length (laid_over t c) ≡ t.offset + length t.bytes = omega (arith, ap (λ (x : List ℕ). length x) (laid_is t c lies), length-append (take t.offset c) t.bytes, length-take-le t.offset c lies.0) in
    let over : LiesOver (drained t) (laid_over t c) = (omega (arith, long), omega (arith, long)) in
    (over, empty_shows (end_of t) t.capacity (laid_over t c) over)

pub none_in_the_way : (offset capacity : ℕ) (own : List ℕ) (end : ℕ) → has_bytes own ≡ false → is_in_the_way (record { offset = offset; bytes = own; capacity = capacity }) end ≡ false
none_in_the_way offset capacity [] end none = refl
none_in_the_way offset capacity (x ∷ xs) end none = absurd (cc)

-- a write behind another
written_twice : (at : ℕ) (c d old : List ℕ) → written (at + length c) d (written at c old) ≡ written at (c ++ d) old
written_twice at c d old =
    let zeros : List ℕ = replicate (at - length old) 0 in
    let p : List ℕ = take at old ++ (zeros ++ c) in
    let q : List ℕ = drop (at + length c) old in
    let long : length p ≡ at + length c = omega (arith, length-append (take at old) (zeros ++ c), length-append zeros c, length-take at old, length-replicate {A = ℕ} (at - length old) 0) in
    let parts : written at c old ≡ p ++ q = sym (append_assoc (take at old) (zeros ++ c) q ∙ ap (λ (x : List ℕ). take at old ++ x) (append_assoc zeros c q)) in
    let first : take (at + length c) (p ++ q) ≡ p = take_at p q (at + length c) long in
    let none : (at + length c) - length (p ++ q) ≡ 0 = omega (arith, length-append p q, long) in
    let ends : (at + length c) + length d ≡ at + length (c ++ d) = omega (arith, length-append c d) in
    let behind : drop ((at + length c) + length d) (p ++ q) ≡ drop (at + length (c ++ d)) old = drop_behind (at + length c) (length d) p q long ∙ (drop-drop (length d) (at + length c) old ∙ ap (λ (n : ℕ). drop n old) ends) in
    let rest : List ℕ = drop (at + length (c ++ d)) old in
    let over : written (at + length c) d (p ++ q) ≡ p ++ (d ++ rest) = rw (first, none, behind) refl in
    let joined : p ++ (d ++ rest) ≡ written at (c ++ d) old = append_assoc (take at old) (zeros ++ c) (d ++ rest) ∙ ap (λ (x : List ℕ). take at old ++ x) (append_assoc zeros c (d ++ rest) ∙ ap (λ (x : List ℕ). zeros ++ x) (sym (append_assoc c d rest))) in
    ap (λ (x : List ℕ). written (at + length c) d x) parts ∙ (over ∙ joined)

-- no bytes within a content
written_none : (at : ℕ) (old : List ℕ) → at ≤ length old → written at [] old ≡ old
written_none at old h =
    let none : at - length old ≡ 0 = omega arith in
    let here : at + 0 ≡ at = omega arith in
    rw (none, here) (take-append-drop at old)

chunks_within : (at : ℕ) (chunks : List (List ℕ)) (old : List ℕ) → at ≤ length old → chunks_written at chunks old ≡ written at (concat chunks) old
chunks_within at [] old h = sym (written_none at old h)
chunks_within at (c ∷ cs) old h = chunks_within (at + length c) cs (written at c old) (omega (arith, written_length at c old)) ∙ written_twice at c (concat cs) old

some_bytes : (at : ℕ) (c rest old : List ℕ) → 0 < length c → written at (c ++ rest) old ≡ with_bytes at (c ++ rest) old
some_bytes at [] rest old some = absurd (omega (arith, some))
some_bytes at (x ∷ xs) rest old some = refl

-- chunk by chunk, or all at once
pub chunks_are : (at : ℕ) (chunks : List (List ℕ)) (bytes old : List ℕ) → NoneEmpty chunks → concat chunks ≡ bytes → chunks_written at chunks old ≡ with_bytes at bytes old
chunks_are at [] bytes old filled joined = rw (sym joined) refl
chunks_are at (c ∷ cs) bytes old filled joined =
    let rest : chunks_written (at + length c) cs (written at c old) ≡ written (at + length c) (concat cs) (written at c old) = chunks_within (at + length c) cs (written at c old) (omega (arith, written_length at c old)) in
    rw (sym joined) (rest ∙ (written_twice at c (concat cs) old ∙ some_bytes at c (concat cs) old (filled 0 [] (omega arith))))

-- New lengths.

resized_length : (len : ℕ) (c : List ℕ) → length (resized len c) ≡ len
resized_length len c = omega (arith, length-append (take len c) (replicate (len - length c) 0), length-take len c, length-replicate {A = ℕ} (len - length c) 0)

pub flat_longer : (len capacity : ℕ) (c : List ℕ) → LiesOver (empty_tip len capacity) (resized len c) × (laid_over (empty_tip len capacity) (resized len c) ≡ resized len c)
flat_longer len capacity c =
    let over : LiesOver (empty_tip len capacity) (resized len c) = (omega (arith, resized_length len c), omega (arith, resized_length len c)) in
    (over, empty_shows len capacity (resized len c) over)

-- the new length lies in the tip
flat_cut : (t : Tip) (len : ℕ) (c : List ℕ) → LiesOver t c → t.offset < len → len < end_of t
    → LiesOver (record t { bytes = take (len - t.offset) t.bytes }) (resized len c) × (laid_over (record t { bytes = take (len - t.offset) t.bytes }) (resized len c) ≡ resized len (laid_over t c))
flat_cut t len c lies h k =
    let cut : Tip = record t { bytes = take (len - t.offset) t.bytes } in
    let a : List ℕ = take t.offset c in
    let front : length a ≡ t.offset = length-take-le t.offset c lies.0 in
    let long : length (take (len - t.offset) t.bytes) ≡ len - t.offset = length-take-le (len - t.offset) t.bytes (omega arith) in
    let over : LiesOver cut (resized len c) = (omega (arith, resized_length len c), omega (arith, resized_length len c, long)) in
    let first : take t.offset (resized len c) ≡ a = take-append-le t.offset (take len c) (replicate (len - length c) 0) (omega (arith, length-take len c, lies.0)) ∙ take-take t.offset len c (omega arith) in
    let seen : laid_over cut (resized len c) ≡ a ++ take (len - t.offset) t.bytes = laid_is cut (resized len c) over ∙ ap (λ (x : List ℕ). x ++ take (len - t.offset) t.bytes) first in
    let none : len - length (a ++ t.bytes) ≡ 0 = omega (arith, length-append a t.bytes, front) in
    let whole : take len a ≡ a = take_all len a (omega (arith, front)) in
    let left : len - length a ≡ len - t.offset = omega (arith, front) in
    let both : take len (a ++ t.bytes) ≡ a ++ take (len - t.offset) t.bytes = take-append len a t.bytes ∙ rw (whole, left) refl in
    let back : resized len (a ++ t.bytes) ≡ a ++ take (len - t.offset) t.bytes = rw (none, both) (append-nil (a ++ take (len - t.offset) t.bytes)) in
    (over, seen ∙ sym (ap (λ (x : List ℕ). resized len x) (laid_is t c lies) ∙ back))

-- the new length lies before the tip
flat_gone : (t : Tip) (len : ℕ) (c : List ℕ) → LiesOver t c → len ≤ t.offset → resized len c ≡ resized len (laid_over t c)
flat_gone t len c lies h =
    let a : List ℕ = take t.offset c in
    let front : length a ≡ t.offset = length-take-le t.offset c lies.0 in
    let none : len - length (a ++ t.bytes) ≡ 0 = omega (arith, length-append a t.bytes, front) in
    let zero : len - length c ≡ 0 = omega (arith, lies.0) in
    let both : take len (a ++ t.bytes) ≡ take len c = take-append-le len a t.bytes (omega (arith, front)) ∙ take-take len t.offset c h in
    let back : resized len (a ++ t.bytes) ≡ take len c ++ [] = rw (none, both) refl in
    let here : resized len c ≡ take len c ++ [] = rw zero refl in
    here ∙ sym (ap (λ (x : List ℕ). resized len x) (laid_is t c lies) ∙ back)

ltb_before : (n m : ℕ) → nat_lt n m ≡ true → n < m
ltb_before n m e = grind (arith, nat_tests)

past_end : (n m : ℕ) → nat_le n m ≡ false → m < n
past_end n m e = grind (arith, nat_tests)

flat_shorter : (t : Tip) (len : ℕ) (c : List ℕ) (within : Bool) → nat_lt t.offset len ≡ within → len < end_of t → LiesOver t c
    → LiesOver (shortened t len) (resized len c) × (laid_over (shortened t len) (resized len c) ≡ resized len (laid_over t c))
flat_shorter t len c true is k lies = rw is (flat_cut t len c lies (ltb_before t.offset len is) k)
flat_shorter t len c false is k lies =
    let longer = flat_longer len t.capacity c in
    rw is (longer.0, longer.1 ∙ flat_gone t len c lies (not_before t.offset len is))

-- nothing is to be written before
flat_resized_for : (t : Tip) (len : ℕ) (c : List ℕ) (past : Bool) → nat_le (end_of t) len ≡ past → bytes_before t len ≡ None → (bytes_to_write t ≡ None → c ≡ laid_over t c) → LiesOver t c
    → LiesOver (resized_tip t len) (resized len c) × (laid_over (resized_tip t len) (resized len c) ≡ resized len (laid_over t c))
flat_resized_for t len c true is none shows lies =
    let longer = flat_longer len t.capacity c in
    let gives : bytes_to_write t ≡ None = rw is at none in
    rw is (longer.0, longer.1 ∙ ap (λ (x : List ℕ). resized len x) (shows gives))
flat_resized_for t len c false is none shows lies = rw is (flat_shorter t len c (nat_lt t.offset len) refl (past_end (end_of t) len is) lies)

pub flat_resized : (t : Tip) (len : ℕ) (c : List ℕ) → bytes_before t len ≡ None → (bytes_to_write t ≡ None → c ≡ laid_over t c) → LiesOver t c
    → LiesOver (resized_tip t len) (resized len c) × (laid_over (resized_tip t len) (resized len c) ≡ resized len (laid_over t c))
flat_resized t len c none shows lies = flat_resized_for t len c (nat_le (end_of t) len) refl none shows lies

given_for : (t : Tip) (len : ℕ) (v : List ℕ × ℕ) (past : Bool) → nat_le (end_of t) len ≡ past → bytes_before t len ≡ Some v → (bytes_to_write t ≡ Some v) × (resized_tip t len ≡ empty_tip len t.capacity)
given_for t len v true is some = (rw is at some, rw is refl)
given_for t len v false is some = let none : bytes_before t len ≡ None = rw is refl in absurd (cc)

-- bytes that are given out for a new length
pub given_before : (t : Tip) (len : ℕ) (v : List ℕ × ℕ) → bytes_before t len ≡ Some v → (bytes_to_write t ≡ Some v) × (resized_tip t len ≡ empty_tip len t.capacity)
given_before t len v some = given_for t len v (nat_le (end_of t) len) refl some
