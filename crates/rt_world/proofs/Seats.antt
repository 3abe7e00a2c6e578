-- Who is seated, as tasks are taken out and put back.
use Rattle.rt_world.proofs.Prelude.{◌≡◌, ◌≤◌, ◌<◌, ◌+◌, ℕ, List, [], ◌∷◌, refl, true, false, arith, Option, Some, None, is_some, ◌∙◌, ◌++◌, eq-eqb, has_number, with_number, without_number, from_running, ends_next, ends-runs, find, without, with_task, Bool, Phase, is_closing, Stream, World, Grows, Kept, numbers_of, seated, OutRuns, AreRising}
use Rattle.rt_world.proofs.Lasting.{grows-of}

pub numbers-without : {A : Type 0} → (k : ℕ) (ts : List (ℕ × A)) → numbers_of (without k ts) ≡ without_number k (numbers_of ts)
numbers-without k [] = refl
numbers-without k (t ∷ ts) = grind (arith, numbers-without k ts)

pub numbers-with : {A : Type 0} → (k : ℕ) (a : A) (ts : List (ℕ × A)) → numbers_of (with_task k a ts) ≡ with_number k (numbers_of ts)
numbers-with k a [] = refl
numbers-with k a (t ∷ ts) = grind (arith, numbers-with k a ts)

pub find-none : {A : Type 0} → (k : ℕ) (ts : List (ℕ × A)) → find k ts ≡ None → has_number k (numbers_of ts) ≡ false
find-none k [] h = refl
find-none k (t ∷ ts) h = grind (arith, find-none k ts)

rising-fits : (n m : ℕ) (ns : List ℕ) → AreRising n ns m → n ≤ m
rising-fits n m [] s = s
rising-fits n m (j ∷ ns) s = omega (arith, rising-fits (j + 1) m ns s.1, s.0)

-- a number that is in has its place
pub rising-has : (k n m : ℕ) (ns : List ℕ) → AreRising n ns m → has_number k ns ≡ true → (n ≤ k) × (k < m)
rising-has k n m [] s h = cc
rising-has k n m (j ∷ ns) s h = grind (arith, rising-has k (j + 1) m ns s.1, rising-fits (j + 1) m ns s.1)

pub rising-wider : (l n m : ℕ) (ns : List ℕ) → l ≤ n → AreRising n ns m → AreRising l ns m
rising-wider l n m [] h s = omega (arith, s)
rising-wider l n m (j ∷ ns) h s = (omega (arith, s.0), s.1)

-- without one of them they rise, and it is gone
pub rising-without : (k n m : ℕ) (ns : List ℕ) → AreRising n ns m → AreRising n (without_number k ns) m
rising-without k n m [] s = s
rising-without k n m (j ∷ ns) s = grind (arith, rising-without k (j + 1) m ns s.1, rising-wider n (j + 1) m ns)

rising-below : (k n m : ℕ) (ns : List ℕ) → k < n → AreRising n ns m → has_number k ns ≡ false
rising-below k n m [] h s = refl
rising-below k n m (j ∷ ns) h s = grind (arith, rising-below k (j + 1) m ns)

pub rising-gone : (k n m : ℕ) (ns : List ℕ) → AreRising n ns m → has_number k (without_number k ns) ≡ false
rising-gone k n m [] s = refl
rising-gone k n m (j ∷ ns) s = grind (arith, rising-gone k (j + 1) m ns s.1, rising-below k (j + 1) m ns)

put-front : (k n m : ℕ) (ns : List ℕ) → k < n → AreRising n ns m → with_number k ns ≡ k ∷ ns
put-front k n m [] h s = refl
put-front k n m (j ∷ ns) h s = grind (arith)

-- put back, it has its place again
pub put-back : (k n m : ℕ) (ns : List ℕ) → AreRising n ns m → has_number k ns ≡ true → with_number k (without_number k ns) ≡ ns
put-back k n m [] s h = cc
put-back k n m (j ∷ ns) s h = grind (arith, put-back k (j + 1) m ns s.1, put-front k (j + 1) m ns, rising-has k (j + 1) m ns s.1)

-- the next number is added
pub rising-more : (n m : ℕ) (ns : List ℕ) → AreRising n ns m → AreRising n (with_number m ns) (m + 1)
rising-more n m [] s = (s, omega arith)
rising-more n m (j ∷ ns) s = grind (arith, rising-more (j + 1) m ns s.1, rising-fits (j + 1) m ns s.1)

last-in : (n m : ℕ) (ns : List ℕ) → AreRising n ns m → with_number m ns ≡ ns ++ m ∷ []
last-in n m [] s = refl
last-in n m (j ∷ ns) s = grind (arith, last-in (j + 1) m ns s.1, rising-fits (j + 1) m ns s.1)

without-last : (t m : ℕ) (ns : List ℕ) → has_number t ns ≡ true → without_number t (ns ++ m ∷ []) ≡ without_number t ns ++ m ∷ []
without-last t m [] h = cc
without-last t m (j ∷ ns) h = grind (arith, without-last t m ns)

-- a number more, while one is out
pub seated-more : (n m : ℕ) (out : Option ℕ) (ns : List ℕ) → AreRising n ns m → OutRuns out ns → seated out (with_number m ns) ≡ with_number m (seated out ns)
seated-more n m None ns s runs = refl
seated-more n m (Some t) ns s runs =
    rw (last-in n m ns s, last-in n m (without_number t ns) (rising-without t n m ns s)) (without-last t m ns runs)

has-more : (t m : ℕ) (ns : List ℕ) → has_number t ns ≡ true → has_number t (with_number m ns) ≡ true
has-more t m [] h = cc
has-more t m (j ∷ ns) h = grind (arith, has-more t m ns)

pub runs-more : (m : ℕ) (out : Option ℕ) (ns : List ℕ) → OutRuns out ns → OutRuns out (with_number m ns)
runs-more m None ns runs = tt
runs-more m (Some t) ns runs = has-more t m ns runs

pub grows-more : (phase : Phase) (m : ℕ) (ns : List ℕ) → is_closing phase ≡ false → Grows phase ns (with_number m ns)
unfolding Grows
grows-more phase m ns going = (λ closing. absurd (both (is_closing phase) closing going), λ task runs. has-more task m ns runs)
  where
    both : (b : Bool) → b ≡ true → b ≡ false → ⊥
    both true h k = cc
    both false h k = cc

-- in a cleanup nobody is added
pub grows-closing : (phase : Phase) (old new : List ℕ) → Grows phase old new → is_closing phase ≡ true → new ≡ old
unfolding Grows
grows-closing phase old new grows closing = grows.0 closing

pub closing-kept : {A O G : Type 0} {stream : G → Stream} (a b : World A O G) → Kept stream a b → is_closing a.told.state.phase ≡ true → b.told.state.running ≡ a.told.state.running
closing-kept {stream = stream} a b kept closing = grows-closing _ _ _ (grows-of stream a b kept.lasts) closing

pub not-closing : (b : Bool) → (b ≡ true → ⊥) → b ≡ false
not-closing true h = absurd (h refl)
not-closing false h = refl

pub some-none : {V : Type 0} {v : V} → Some v ≡ None → ⊥
some-none e = cc

-- where no number has a place, none is in
pub rising-none : (n m : ℕ) (ns : List ℕ) → AreRising n ns m → m ≡ n → ns ≡ []
rising-none n m [] s h = refl
rising-none n m (j ∷ ns) s h = absurd (omega (arith, rising-fits (j + 1) m ns s.1, s.0))

pub runs-next : (k : ℕ) (running left rest : List ℕ) → from_running running left ≡ k ∷ rest → has_number k running ≡ true
runs-next k running [] rest h = cc
runs-next k running (n ∷ left) rest h = grind (arith, runs-next k running left rest)

pub find-some : {A : Type 0} → (k : ℕ) (ts : List (ℕ × A)) → is_some (find k ts) ≡ has_number k (numbers_of ts)
find-some k [] = refl
find-some k (t ∷ ts) = grind (arith, find-some k ts)

pub numbers-none : {A : Type 0} → (ts : List (ℕ × A)) → numbers_of ts ≡ [] → ts ≡ []
numbers-none [] h = refl
numbers-none (t ∷ ts) h = cc

pub ends-found : {A : Type 0} → (ts : List (ℕ × A)) (root : Option ℕ) (k : ℕ) → ends_next (numbers_of ts) root ≡ Some k → is_some (find k ts) ≡ true
ends-found ts root k h = find-some k ts ∙ ends-runs (numbers_of ts) root k h

pub find-gone : {A : Type 0} → (k : ℕ) (ts : List (ℕ × A)) → has_number k (numbers_of ts) ≡ false → find k ts ≡ None
find-gone k [] h = refl
find-gone k (t ∷ ts) h = grind (arith, find-gone k ts)

-- a number that is put last is in
pub has-last : (k : ℕ) (ns : List ℕ) → has_number k (ns ++ k ∷ []) ≡ true
has-last k [] = rw (eq-eqb k k refl) refl
has-last k (n ∷ ns) = grind (arith, has-last k ns)

pub ruleset seat_laws = (rising-more, numbers-none, ends-found, find-some, numbers-without, numbers-with, find-none, find-gone, put-back, rising-without, rising-gone, rising-has, rising-none, runs-next)

pub ruleset closing_laws = (has-last, closing-kept)
