-- A content seen through a tip.
use Rattle.rt_buffer.proofs.Prelude.{◌≡◌, ℕ, ◌+◌, ◌-◌, ◌≤◌, ◌<◌, min, Bool, true, List, [], ◌++◌, length, take, drop, Result, Ok, Err, IfOk, OnOk, refl, sym, ap, ◌∙◌, inl, inr, arith, replicate, cases_lt, leb-true, and_parts, drop_all, take_all, drop-take, take-take, drop-append-le, take-append-le, append-nil, length-append, length-take, length-take-le, length-drop, length-replicate, append_assoc, nat_le, nat_lt, ◌^◌, if◌then◌else◌, Error, Noted, WritableChunks, Chunked, written, Ghosts, Tip, is_within, merged, laid_over, LiesOver, ReadsTip, before_tip, AddsTip, ReadsThrough}
use Rattle.std.specs.Prelude.{◌&&◌}
use Rattle.rt_buffer.proofs.Written.{take-append, drop-append}

-- bytes that begin within a content and end no earlier than it
pub written_end : (at : ℕ) (b c : List ℕ) → at ≤ length c → length c ≤ at + length b → written at b c ≡ take at c ++ b
written_end at b c h k =
    let none : at - length c ≡ 0 = omega arith in
    let rest : drop (at + length b) c ≡ [] = drop_all (at + length b) c k in
    let whole : b ++ drop (at + length b) c ≡ b = ap (λ (x : List ℕ). b ++ x) rest ∙ append-nil b in
    rw (none, whole) refl

pub laid_is : (t : Tip) (c : List ℕ) → LiesOver t c → laid_over t c ≡ take t.offset c ++ t.bytes
laid_is t c l = written_end t.offset t.bytes c l.0 l.1

-- a cut behind the first part
pub drop_behind : (n k : ℕ) (xs ys : List ℕ) → length xs ≡ n → drop (n + k) (xs ++ ys) ≡ drop k ys
drop_behind n k xs ys e =
    let gone : drop (n + k) xs ≡ [] = drop_all (n + k) xs (omega arith) in
    let left : (n + k) - length xs ≡ k = omega arith in
    rw (drop-append (n + k) xs ys, gone, left) refl

take_behind : (n k : ℕ) (xs ys : List ℕ) → length xs ≡ n → take (n + k) (xs ++ ys) ≡ xs ++ take k ys
take_behind n k xs ys e =
    let all : take (n + k) xs ≡ xs = take_all (n + k) xs (omega arith) in
    let left : (n + k) - length xs ≡ k = omega arith in
    rw (take-append (n + k) xs ys, all, left) refl

-- a read within the tip
pub flat_tip : (t : Tip) (offset len : ℕ) (r : Result Chunked Error) (c : List ℕ) → LiesOver t c → t.offset ≤ offset → ReadsTip t offset len r → IfOk r (λ b. b.bytes ≡ take len (drop offset (laid_over t c)))
flat_tip t offset len (Ok b) c l h e =
    let k = offset - t.offset in
    let place : offset ≡ t.offset + k = omega arith in
    let front : length (take t.offset c) ≡ t.offset = length-take-le t.offset c l.0 in
    let seen : drop offset (laid_over t c) ≡ drop k t.bytes = ap (λ (x : List ℕ). drop offset x) (laid_is t c l) ∙ (ap (λ (n : ℕ). drop n (take t.offset c ++ t.bytes)) place ∙ drop_behind t.offset k (take t.offset c) t.bytes front) in
    e ∙ ap (λ (x : List ℕ). take len x) (sym seen)
flat_tip t offset len (Err x) c l h e = tt

-- the first bytes of a part and of what follows it
cut_part : (len m : ℕ) (d tb : List ℕ) → m ≤ length d → take len (take m d ++ tb) ≡ take (min len m) d ++ take (len - min len m) tb
cut_part len m d tb h = elim (cases_lt m len) [
  | inl long ↦
      let n : min len m ≡ m = omega arith in
      let k = len - m in
      let place : len ≡ m + k = omega arith in
      let front : length (take m d) ≡ m = length-take-le m d h in
      rw n (ap (λ (x : ℕ). take x (take m d ++ tb)) place ∙ take_behind m k (take m d) tb front)
  | inr short ↦
      let n : min len m ≡ len = omega arith in
      let zero : len - len ≡ 0 = omega arith in
      let fits : len ≤ length (take m d) = omega (arith, length-take-le m d h) in
      rw (n, zero, append-nil (take len d)) (take-append-le len (take m d) tb fits ∙ take-take len m d short)
]

-- a read that begins before the tip
pub flat_through : (t : Tip) (offset len : ℕ) (f : List ℕ) (c : List ℕ) → LiesOver t c → offset < t.offset → f ≡ take (before_tip t offset len) (drop offset c)
    → f ++ take (len - before_tip t offset len) t.bytes ≡ take len (drop offset (laid_over t c))
flat_through t offset len f c l h e =
    let m = t.offset - offset in
    let place : t.offset ≡ offset + m = omega arith in
    let near : offset ≤ length (take t.offset c) = omega (arith, length-take-le t.offset c l.0) in
    let cut : drop offset (take t.offset c) ≡ take m (drop offset c) = ap (λ (n : ℕ). drop offset (take n c)) place ∙ drop-take offset m c in
    let seen : drop offset (laid_over t c) ≡ take m (drop offset c) ++ t.bytes = ap (λ (x : List ℕ). drop offset x) (laid_is t c l) ∙ (drop-append-le offset (take t.offset c) t.bytes near ∙ ap (λ (x : List ℕ). x ++ t.bytes) cut) in
    let long : m ≤ length (drop offset c) = omega (arith, length-drop offset c, l.0) in
    rw (e, seen) (sym (cut_part len m (drop offset c) t.bytes long))

-- what is written is no shorter
written_longer : (k : ℕ) (b old : List ℕ) → length old ≤ length (written k b old)
written_longer k b old =
    let zeros : List ℕ = replicate (k - length old) 0 in
    let rest : List ℕ = drop (k + length b) old in
    omega (arith, length-append (take k old) (zeros ++ (b ++ rest)), length-append zeros (b ++ rest), length-append b rest, length-take k old, length-replicate {A = ℕ} (k - length old) 0, length-drop (k + length b) old)

-- bytes that go into the tip are written over what is seen through it
pub flat_merged : (t : Tip) (b : List ℕ) (offset : ℕ) (c : List ℕ) → LiesOver t c → t.offset ≤ offset → LiesOver (merged t b offset) c × (laid_over (merged t b offset) c ≡ written offset b (laid_over t c))
flat_merged t b offset c l h =
    let k = offset - t.offset in
    let a : List ℕ = take t.offset c in
    let place : offset ≡ t.offset + k = omega arith in
    let behind : offset + length b ≡ t.offset + (k + length b) = omega arith in
    let front : length a ≡ t.offset = length-take-le t.offset c l.0 in
    let longer = written_longer k b t.bytes in
    let lies : LiesOver (merged t b offset) c = (l.0, omega (arith, l.1, longer)) in
    let x : List ℕ = a ++ t.bytes in
    let seen : laid_over t c ≡ x = laid_is t c l in
    let first : take offset x ≡ a ++ take k t.bytes = ap (λ (n : ℕ). take n x) place ∙ take_behind t.offset k a t.bytes front in
    let last : drop (offset + length b) x ≡ drop (k + length b) t.bytes = ap (λ (n : ℕ). drop n x) behind ∙ drop_behind t.offset (k + length b) a t.bytes front in
    let gap : offset - length x ≡ k - length t.bytes = omega (arith, length-append a t.bytes) in
    let over : written offset b x ≡ (a ++ take k t.bytes) ++ (replicate (k - length t.bytes) 0 ++ (b ++ drop (k + length b) t.bytes)) = rw (first, last, gap) refl in
    let all : written offset b x ≡ a ++ written k b t.bytes = over ∙ append_assoc a (take k t.bytes) (replicate (k - length t.bytes) 0 ++ (b ++ drop (k + length b) t.bytes)) in
    (lies, laid_is (merged t b offset) c lies ∙ (sym all ∙ ap (λ (y : List ℕ). written offset b y) (sym seen)))

-- a write into the tip, where it went in
pub flat_try : {E : Type 0} (t new : Tip) (b : List ℕ) (offset : ℕ) (r : Result Bool E) (c : List ℕ) → LiesOver t c → r ≡ Ok true
    → IfOk r (λ went. went ≡ is_within t offset (length b)) → OnOk r (new ≡ (if is_within t offset (length b) then merged t b offset else t))
    → LiesOver new c × (laid_over new c ≡ written offset b (laid_over t c))
flat_try t new b offset (Err e) c l h within put = absurd (cc)
flat_try t new b offset (Ok went) c l h within put =
    let truly : went ≡ true = cc in
    let reach : is_within t offset (length b) ≡ true = sym within ∙ truly in
    let begins : t.offset ≤ offset = leb-true t.offset offset (and_parts (nat_le t.offset offset) (nat_le (offset + length b) (t.offset + t.capacity) && nat_lt (offset + length b) (2 ^ 64)) reach).0 in
    let is : new ≡ merged t b offset = put ∙ rw reach refl in
    rw is (flat_merged t b offset c l begins)

-- a read that begins before the tip, by what the store answered
pub flat_adds : (t : Tip) (offset len : ℕ) (f : Result WritableChunks Error) (r : Result Chunked Error) (c : List ℕ) → LiesOver t c → offset < t.offset
    → ((b : WritableChunks) → f ≡ Ok b → b.bytes ≡ take (before_tip t offset len) (drop offset c)) → AddsTip t (len - before_tip t offset len) f r
    → IfOk r (λ b. b.bytes ≡ take len (drop offset (laid_over t c)))
flat_adds t offset len (Ok f) (Ok b) c l h e g = g ∙ flat_through t offset len f.bytes c l h (e f refl)
flat_adds t offset len (Ok f) (Err x) c l h e g = tt
flat_adds t offset len (Err x) r c l h e g = rw g tt

pub flat_reads : {S B : Type 0} (c : Ghosts S B) (blob : B) (t : Tip) (offset len : ℕ) (old new : S) (r : Result Chunked Error) (x : List Noted)
    → LiesOver t (c.bytes old blob) → offset < t.offset → ReadsThrough c blob t offset len old r new x → IfOk r (λ b. b.bytes ≡ take len (drop offset (laid_over t (c.bytes old blob))))
flat_reads c blob t offset len old new r x l h f =
    let reads = f.1 in
    let answers = reads.1.1 in
    flat_adds t offset len f.0 r (c.bytes old blob) l h (λ b is. rw is at answers) f.3
