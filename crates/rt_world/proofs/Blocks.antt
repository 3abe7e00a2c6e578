-- States in blocks of their own.
use Rattle.rt_world.proofs.Prelude.{◌≡◌, ◌+◌, ℕ, List, [], ◌∷◌, ◌++◌, refl, arith, Option, Some, None, get_or, length, set, length-append, Global, Vec, slice_get, find, without, with_task, AreFull, held_in, numbers_of, with_top}

-- the state in the block that has a number, if one has
abbrev pub top_of : {A : Type 0} → Option (Vec A Global) → Option A
top_of None = None
top_of (Some b) = slice_get b.items 0

pub numbers-held : {A : Type 0} → (bs : List (ℕ × Vec A Global)) → AreFull bs → numbers_of (held_in bs) ≡ numbers_of bs
unfolding AreFull held_in
numbers-held [] full = refl
numbers-held (b ∷ bs) full = grind (arith, numbers-held bs full.1)

pub found-held : {A : Type 0} → (k : ℕ) (bs : List (ℕ × Vec A Global)) → AreFull bs → find k (held_in bs) ≡ top_of (find k bs)
unfolding AreFull held_in
found-held k [] full = refl
found-held k (b ∷ bs) full = grind (arith, found-held k bs full.1)

pub unheld : {A : Type 0} → (k : ℕ) (bs : List (ℕ × Vec A Global)) → AreFull bs → find k (held_in bs) ≡ None → find k bs ≡ None
unfolding AreFull held_in
unheld k [] full none = refl
unheld k (b ∷ bs) full none = grind (arith, unheld k bs full.1)

pub full-found : {A : Type 0} → (k : ℕ) (bs : List (ℕ × Vec A Global)) (b : Vec A Global) → AreFull bs → find k bs ≡ Some b → length b.items ≡ 1
unfolding AreFull
full-found k [] b full e = cc
full-found k (c ∷ bs) b full e = grind (arith, full-found k bs b full.1)

pub held-without : {A : Type 0} → (k : ℕ) (bs : List (ℕ × Vec A Global)) → AreFull bs → held_in (without k bs) ≡ without k (held_in bs)
unfolding AreFull held_in
held-without k [] full = refl
held-without k (b ∷ bs) full = grind (arith, held-without k bs full.1)

pub full-without : {A : Type 0} → (k : ℕ) (bs : List (ℕ × Vec A Global)) → AreFull bs → AreFull (without k bs)
unfolding AreFull
full-without k [] full = full
full-without k (b ∷ bs) full = grind (arith, full-without k bs full.1)

pub held-with : {A : Type 0} → (k : ℕ) (c : Vec A Global) (bs : List (ℕ × Vec A Global)) → AreFull bs → length c.items ≡ 1 → held_in (with_task k c bs) ≡ with_top k c.items (held_in bs)
unfolding AreFull held_in
held-with k c [] full one = grind arith
held-with k c (b ∷ bs) full one = grind (arith, held-with k c bs full.1 one)

pub full-with : {A : Type 0} → (k : ℕ) (c : Vec A Global) (bs : List (ℕ × Vec A Global)) → AreFull bs → length c.items ≡ 1 → AreFull (with_task k c bs)
unfolding AreFull
full-with k c [] full one = (one, tt)
full-with k c (b ∷ bs) full one = grind (arith, full-with k c bs full.1 one)

pub held-empty : {A : Type 0} → (bs : List (ℕ × Vec A Global)) → AreFull bs → held_in bs ≡ [] → bs ≡ []
unfolding AreFull held_in
held-empty [] full none = refl
held-empty (b ∷ bs) full none = grind (arith, held-empty bs full.1)

-- the one that is taken out of its block
pub popped : {A : Type 0} → (xs ys : List A) (a : A) → length xs ≡ 1 → xs ≡ ys ++ a ∷ [] → slice_get xs 0 ≡ Some a
popped xs [] a one e = rw e refl
popped xs (y ∷ ys) a one e = absurd (omega (arith, rw (e, length-append ys (a ∷ [])) at one))

-- the state of a block, and a block in which it is set
pub top-of : {A : Type 0} → (xs : List A) (a : A) → length xs ≡ 1 → a ≡ get_or xs 0 a → slice_get xs 0 ≡ Some a
top-of [] a one e = cc
top-of (x ∷ []) a one e = grind arith
top-of (x ∷ y ∷ xs) a one e = absurd (omega (arith, one))

pub set-top : {A : Type 0} → (xs : List A) (a : A) → length xs ≡ 1 → set xs 0 a ≡ a ∷ []
set-top [] a one = cc
set-top (x ∷ []) a one = refl
set-top (x ∷ y ∷ xs) a one = absurd (omega (arith, one))

-- a block is put in as a state is
pub top-task : {A : Type 0} → (k : ℕ) (xs : List A) (ts : List (ℕ × A)) → length xs ≡ 1 → (a : A) × (with_top k xs ts ≡ with_task k a ts)
top-task k [] ts one = cc
top-task k (x ∷ xs) ts one = (x, refl)

pub ruleset block_laws = (numbers-held, found-held, unheld, held-empty, full-found, held-without, full-without, held-with, full-with)
