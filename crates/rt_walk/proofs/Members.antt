-- Whether a number is in a list, and the front of a list.
use Rattle.rt_walk.proofs.Prelude.{◌≡◌, ◌<◌, ◌≤◌, ◌+◌, ℕ, zero, suc, Some, None, List, [], ◌∷◌, refl, sym, arith, drop, take, length, get_or, nat_eq, list_any, drop-drop, has_number, those}

pub list_any-number : (k : ℕ) (xs : List ℕ) → list_any (λ y. nat_eq y k) xs ≡ has_number k xs
list_any-number k [] = refl
list_any-number k (x ∷ xs) = rw (list_any-number k xs) refl

-- one further
pub drop-further : (i j : ℕ) (xs ys : List ℕ) → drop j (drop i xs) ≡ ys → drop (i + j + 1) xs ≡ drop 1 ys
drop-further i j xs ys h = rw (← h, drop-drop j i xs, drop-drop 1 (i + j) xs) refl

-- what stands at the front of the rest
front-there : (i : ℕ) (xs : List ℕ) (d : ℕ) → i < length xs → get_or xs i d ∷ [] ≡ take 1 (drop i xs)
front-there i [] d h = absurd (omega arith)
front-there zero (x ∷ xs) d h = refl
front-there (suc i) (x ∷ xs) d h = front-there i xs d (omega arith)

front-gone : (i : ℕ) (xs : List ℕ) → length xs ≤ i → take 1 (drop i xs) ≡ []
front-gone zero [] h = refl
front-gone (suc i) [] h = refl
front-gone zero (x ∷ xs) h = absurd (omega arith)
front-gone (suc i) (x ∷ xs) h = front-gone i xs (omega arith)

pub front-at : (i : ℕ) (xs ys : List ℕ) (d : ℕ) → drop i xs ≡ ys → i < length xs → get_or xs i d ∷ [] ≡ take 1 ys
front-at i xs ys d e h = rw (← e) (front-there i xs d h)

pub front-past : (i : ℕ) (xs ys : List ℕ) → drop i xs ≡ ys → length xs ≤ i → take 1 ys ≡ []
front-past i xs ys e h = rw (← e) (front-gone i xs h)

pub drop-next : (i : ℕ) (xs : List ℕ) → drop (i + 1) xs ≡ drop 1 (drop i xs)
drop-next i xs = sym (drop-drop 1 i xs)

pub drop-none : (i : ℕ) (xs : List ℕ) → length xs ≤ i → drop i xs ≡ drop 1 (drop i xs)
drop-none zero [] h = refl
drop-none (suc i) [] h = refl
drop-none zero (x ∷ xs) h = absurd (omega arith)
drop-none (suc i) (x ∷ xs) h = drop-none i xs (omega arith)

pub ruleset number_laws = (list_any-number, drop-next, drop-none, drop-further, front-at, front-past)

pub front-none : (xs : List ℕ) → those None ≡ take 1 xs → xs ≡ []
front-none [] e = refl
front-none (x ∷ xs) e = cc

pub front-some : (k : ℕ) (xs : List ℕ) → those (Some k) ≡ take 1 xs → xs ≡ k ∷ drop 1 xs
front-some k [] e = cc
front-some k (x ∷ xs) e = cc

pub ruleset front_laws = (front-none, front-some)
