-- Stray spaces, by one pass over a text.
use Rattle.rt_scenario.proofs.Prelude.{◌≡◌, ℕ, ◌==◌, ◌||◌, ◌&&◌, ◌∙◌, Bool, true, false, List, [], ◌∷◌, length, refl, arith, if◌then◌else◌, nat_tests, list_any, words_of, onto_first}

-- a space stands where a word would begin, from here on, or the text ends there
abbrev pub stray_from : Bool → List ℕ → Bool
stray_from behind_space [] = behind_space
stray_from behind_space (b ∷ bs) = if b == 32 then behind_space || stray_from true bs else stray_from false bs

abbrev pub has_empty : List (List ℕ) → Bool
has_empty words = list_any (λ word. length word == 0) words

not_empty : (x : ℕ) (xs : List ℕ) → (length (x ∷ xs) == 0) ≡ false
not_empty x xs = grind (arith, nat_tests)

two_onto : (a b : ℕ) (words : List (List ℕ)) → has_empty (onto_first a (onto_first b words)) ≡ has_empty (onto_first b words)
two_onto a b [] = refl
two_onto a b (word ∷ words) = rw (not_empty a (b ∷ word), not_empty b word) refl

-- the first word of a text with a byte before it isn't empty
strays : (text : List ℕ) → ((a : ℕ) → has_empty (onto_first a (words_of text)) ≡ stray_from false text) × (has_empty (words_of text) ≡ stray_from true text)
strays [] = ((λ a. refl), refl)
strays (b ∷ bs) =
    let rest = strays bs in (
      (λ a. elim (b == 32) as (λ space. has_empty (onto_first a (if space then [] ∷ words_of bs else onto_first b (words_of bs))) ≡ (if space then false || stray_from true bs else stray_from false bs)) [ true ↦ rest.1 | false ↦ two_onto a b (words_of bs) ∙ rest.0 b ]),
      (elim (b == 32) as (λ space. has_empty (if space then [] ∷ words_of bs else onto_first b (words_of bs)) ≡ (if space then true || stray_from true bs else stray_from false bs)) [ true ↦ refl | false ↦ rest.0 b ]),
    )

pub has_empty_by_pass : (text : List ℕ) → has_empty (words_of text) ≡ stray_from true text
has_empty_by_pass text = (strays text).1

-- one byte further
pub stray_step : (stray behind : Bool) (b : ℕ) (bs : List ℕ) → stray || stray_from behind (b ∷ bs) ≡ (stray || ((b == 32) && behind)) || stray_from (b == 32) bs
stray_step true behind b bs = refl
stray_step false behind b bs = elim (b == 32) as (λ space. (if space then behind || stray_from true bs else stray_from false bs) ≡ (space && behind) || stray_from space bs) [ true ↦ refl | false ↦ refl ]
