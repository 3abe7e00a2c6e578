-- What a reader stands for, read by read.
use Rattle.rt_buffer.proofs.Prelude.{◌≡◌, ℕ, ◌+◌, ◌-◌, ◌≤◌, true, false, List, [], ◌++◌, length, take, drop, Result, Ok, Err, IfOk, OnOk, OnErr, refl, ap, ◌∙◌, inl, inr, arith, take-add, cases_lt, lt-leb, le-leb, drop-drop, drop-take, take-take, length-drop, drop_all, nat_le, Error, Noted, Chunked, WritableChunks, Ghosts, Ahead, advanced, placed_at, sought, filled, fetch_len, TakesHeld, Joins, Gives, Fetches, StandsFor}
use Rattle.rt_buffer.specs.Reading.{end_of}

drop_part : (n k m : ℕ) (xs : List ℕ) → m ≡ n + k → drop n (take m xs) ≡ take k (drop n xs)
drop_part n k m xs e = rw e (drop-take n k xs)

-- what is left of a part, behind its first bytes
later : (k n : ℕ) (f xs : List ℕ) → f ≡ take n xs → length f ≡ n → k ≤ n → drop k f ≡ take (length (drop k f)) (drop k xs)
later k n f xs e l h =
    let cut : drop k f ≡ take (n - k) (drop k xs) = ap (λ (y : List ℕ). drop k y) e ∙ drop_part k (n - k) n xs (omega arith) in
    let len : length (drop k f) ≡ n - k = omega (arith, length-drop k f) in
    rw len cut

-- the same, where the part lies at a place of the whole
later_at : (k n p q : ℕ) (f xs : List ℕ) → f ≡ take n (drop p xs) → length f ≡ n → k ≤ n → q ≡ p + k → drop k f ≡ take (length (drop k f)) (drop q xs)
later_at k n p q f xs e l h place = rw (place, ← (drop-drop k p xs)) (later k n f (drop p xs) e l h)

-- the same, where it may be nothing
later_on : (k n p q : ℕ) (f xs : List ℕ) → f ≡ take n (drop p xs) → length f ≡ n → q ≡ p + k → drop k f ≡ take (length (drop k f)) (drop q xs)
later_on k n p q f xs e l place = elim (cases_lt n k) [
  | inl far ↦
      let none : drop k f ≡ [] = drop_all k f (omega arith) in
      rw none refl
  | inr near ↦ later_at k n p q f xs e l near place
]

pub stands_advanced : (a : Ahead) (len : ℕ) (c : List ℕ) → StandsFor a c → len ≤ length a.held → StandsFor (advanced a len) c
stands_advanced a len c s h = (s.0, later_at len (length a.held) a.position (a.position + len) a.held c s.1 refl h refl)

pub stands_placed : (a : Ahead) (p : ℕ) (c : List ℕ) → StandsFor a c → StandsFor (placed_at a p) c
stands_placed a p c s = (s.0, refl)

pub stands_filled : (a : Ahead) (w n : ℕ) (f c : List ℕ) → StandsFor a c → f ≡ take n (drop (end_of a) c) → length f ≡ n → w ≤ n → StandsFor (filled a w f) c
stands_filled a w n f c s e l h = (s.0, later_at w n (end_of a) (end_of a + w) f c e l h refl)

pub first_held : (a : Ahead) (len : ℕ) (c : List ℕ) → StandsFor a c → len ≤ length a.held → take len a.held ≡ take len (drop a.position c)
first_held a len c s h = ap (λ (y : List ℕ). take len y) s.1 ∙ take-take len (length a.held) (drop a.position c) h

pub first_fetched : (a : Ahead) (w n : ℕ) (f c : List ℕ) → StandsFor a c → f ≡ take n (drop (end_of a) c) → w ≤ n → a.held ++ take w f ≡ take (length a.held + w) (drop a.position c)
first_fetched a w n f c s e h =
    let more : take w f ≡ take w (drop (end_of a) c) = ap (λ (y : List ℕ). take w y) e ∙ take-take w n (drop (end_of a) c) h in
    let both : take (length a.held + w) (drop a.position c) ≡ take (length a.held) (drop a.position c) ++ take w (drop (length a.held) (drop a.position c)) = take-add (length a.held) w (drop a.position c) in
    let place : drop (length a.held) (drop a.position c) ≡ drop (end_of a) c = drop-drop (length a.held) a.position c in
    rw (both, place, more) (ap (λ (y : List ℕ). y ++ take w (drop (end_of a) c)) s.1)

-- a read from memory
pub flat_held : (a new : Ahead) (len : ℕ) (r : Result Chunked Error) (c : List ℕ) → StandsFor a c → len ≤ length a.held → TakesHeld a len r new → StandsFor new c × IfOk r (λ b. b.bytes ≡ take len (drop a.position c))
flat_held a new len (Ok b) c s h t = (rw t.1 (stands_advanced a len c s h), t.0 ∙ first_held a len c s h)
flat_held a new len (Err e) c s h t = (rw t.1 s, tt)

flat_joins : (a new : Ahead) (w n : ℕ) (f : List ℕ) (r : Result Chunked Error) (c : List ℕ) → StandsFor a c → f ≡ take n (drop (end_of a) c) → length f ≡ n → w ≤ n → Joins a.held f w (placed_at a (end_of a)) r new
    → StandsFor new c × IfOk r (λ b. b.bytes ≡ take (length a.held + w) (drop a.position c))
flat_joins a new w n f (Ok b) c s e l h j =
    let there : end_of (placed_at a (end_of a)) ≡ end_of a = omega arith in
    (rw j.1 (rw there (stands_filled a w n f c s e l h)), j.0 ∙ first_fetched a w n f c s e h)
flat_joins a new w n f (Err e) c s g l h j = (rw j.1 (stands_placed a (end_of a) c s), tt)

flat_gives : (a new : Ahead) (w n : ℕ) (fetched : Result WritableChunks Error) (r : Result Chunked Error) (c : List ℕ) → StandsFor a c → w ≤ n
    → ((f : WritableChunks) → fetched ≡ Ok f → f.bytes ≡ take n (drop (end_of a) c)) → IfOk fetched (λ b. length b.bytes ≡ n) → Gives a.held w (placed_at a (end_of a)) fetched r new
    → StandsFor new c × IfOk r (λ b. b.bytes ≡ take (length a.held + w) (drop a.position c))
flat_gives a new w n (Ok f) r c s h e l g = flat_joins a new w n f.bytes r c s (e f refl) l h g
flat_gives a new w n (Err x) r c s h e l g = (rw g.1 (stands_placed a (end_of a) c s), rw g.0 tt)

-- a read that fetches
pub flat_fetched : {S B : Type 0} (c : Ghosts S B) (blob : B) (a new : Ahead) (w len : ℕ) (old store : S) (r : Result Chunked Error) (x : List Noted)
    → StandsFor a (c.bytes old blob) → w ≤ fetch_len a w → len ≡ length a.held + w → Fetches c blob a w old r store new x
    → StandsFor new (c.bytes store blob) × IfOk r (λ b. b.bytes ≡ take len (drop a.position (c.bytes old blob)))
flat_fetched c blob a new w len old store r x s h e f =
    let reads = f.1 in
    let kept = reads.1.0 in
    let answers = reads.1.1 in
    rw (kept, e) (flat_gives a new w (fetch_len a w) f.0 r (c.bytes old blob) s h (λ b is. rw is at answers) f.3 f.4)

pub stands_sought : (a : Ahead) (p : ℕ) (c : List ℕ) → StandsFor a c → StandsFor (sought a p) c
stands_sought a p c s = elim (cases_lt p a.position) [
  | inl before ↦
      let none : nat_le a.position p ≡ false = lt-leb a.position p before in
      (s.0, rw none refl)
  | inr within ↦
      let some : nat_le a.position p ≡ true = le-leb a.position p within in
      (s.0, rw some (later_on (p - a.position) (length a.held) a.position p a.held c s.1 refl (omega arith)))
]

pub stands_after_seek : (a new : Ahead) (p : ℕ) (r : Result Unit Error) (why : Type 0) (c : List ℕ) → OnOk r (new ≡ sought a p) → OnErr r (why × (new ≡ a)) → StandsFor a c → StandsFor new c
stands_after_seek a new p (Ok u) why c moved kept s = rw moved (stands_sought a p c s)
stands_after_seek a new p (Err e) why c moved kept s = rw kept.1 s
