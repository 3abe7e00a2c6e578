-- A walk over the front of a list of entries.
use Rattle.rt_walk.proofs.Prelude.{◌≡◌, ◌<◌, ◌+◌, ℕ, zero, suc, Some, List, [], ◌∷◌, ◌++◌, refl, ap, sym, arith, take, length, get_or, ◌∙◌, take_more, slice_get-get_or, slice_get_within, get_or_from_slice_get, Entry, State, May, renewed, run_after, runs_after, AreLawful, runs_after-append, AreLawful-append, BreaksAt}

-- one entry further

take-further : (xs : List Entry) (i : ℕ) (e : Entry) → i < length xs → e ≡ get_or xs i e → take (i + 1) xs ≡ take i xs ++ e ∷ []
take-further xs i e l there = take_more xs i e l ∙ ap (λ x. take i xs ++ x ∷ []) (sym there)

pub after-further : (r : State) (xs : List Entry) (i : ℕ) (e : Entry) → i < length xs → e ≡ get_or xs i e → runs_after r (take (i + 1) xs) ≡ run_after (runs_after r (take i xs)) e
after-further r xs i e l there = rw (take-further xs i e l there, runs_after-append r (take i xs) (e ∷ [])) refl

pub lawful-further : (r : State) (xs : List Entry) (i : ℕ) (e : Entry) → i < length xs → e ≡ get_or xs i e → AreLawful r (take i xs) → May (renewed (runs_after r (take i xs)) e) e → AreLawful r (take (i + 1) xs)
lawful-further r xs i e l there before next =
    rw (take-further xs i e l there) (AreLawful-append r (take i xs) (e ∷ []) before (next, tt))

pub breaks-here : (r : State) (xs : List Entry) (i : ℕ) (e : Entry) → i < length xs → e ≡ get_or xs i e → AreLawful r (take i xs) → (May (renewed (runs_after r (take i xs)) e) e → ⊥) → BreaksAt r xs i
breaks-here r xs i e l there before breaks = record {
  entry = e;
  there = slice_get-get_or xs i e l ∙ ap Some (sym there);
  before = before;
  breaks = breaks;
}

-- each entry of a lawful list may come where it stands
lawful-there : (r : State) (xs : List Entry) (i : ℕ) (d : Entry) → i < length xs → AreLawful r xs → May (renewed (runs_after r (take i xs)) (get_or xs i d)) (get_or xs i d)
lawful-there r [] i d l h = absurd (omega arith)
lawful-there r (x ∷ xs) zero d l h = h.0
lawful-there r (x ∷ xs) (suc i) d l h = lawful-there (run_after r x) xs i d (omega arith) h.1

pub broken-unlawful : (r : State) (xs : List Entry) (i : ℕ) → BreaksAt r xs i → AreLawful r xs → ⊥
broken-unlawful r xs i at-it h =
    let l = slice_get_within xs i at-it.entry at-it.there in
    at-it.breaks (rw (get_or_from_slice_get xs i at-it.entry at-it.entry at-it.there) at (lawful-there r xs i at-it.entry l h))
