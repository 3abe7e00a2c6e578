-- Scripts whose lines stand apart.
use Rattle.rt_scenario.proofs.Prelude.{◌≡◌, ℕ, zero, suc, List, [], ◌∷◌, ◌++◌, ◌<◌, length, slice_index_or, refl, ap, arith, text_at, whole, wholes, Line, Parts}

pub length-wholes : (parts : List Parts) (lines : List (List Line)) → length (wholes parts lines) ≡ length parts
length-wholes [] lines = refl
length-wholes (p ∷ parts) [] = ap suc (length-wholes parts [])
length-wholes (p ∷ parts) (own ∷ lines) = ap suc (length-wholes parts lines)

-- the script at a place has the parts and the lines there
pub whole-at : (parts : List Parts) (lines : List (List Line)) (n : ℕ) (p : Parts) → n < length parts → length lines ≡ length parts → text_at (wholes parts lines) n ≡ whole (slice_index_or parts n p) (slice_index_or lines n [])
whole-at [] lines n d there long = absurd (omega (arith, there))
whole-at (p ∷ parts) [] n d there long = absurd (omega (arith, long))
whole-at (p ∷ parts) (own ∷ lines) zero d there long = refl
whole-at (p ∷ parts) (own ∷ lines) (suc n) d there long = whole-at parts lines n d (omega (arith, there)) (omega (arith, long))

pub lines-at : (parts : List Parts) (lines : List (List Line)) (n : ℕ) → n < length parts → length lines ≡ length parts → (text_at (wholes parts lines) n).lines ≡ slice_index_or lines n []
lines-at [] lines n there long = absurd (omega (arith, there))
lines-at (p ∷ parts) lines n there long = ap (λ text. text.lines) (whole-at (p ∷ parts) lines n p there long)

-- a script more
pub wholes-push : (parts : List Parts) (lines : List (List Line)) (p : Parts) (own : List Line) → length lines ≡ length parts → wholes (parts ++ p ∷ []) (lines ++ own ∷ []) ≡ wholes parts lines ++ whole p own ∷ []
wholes-push [] [] p own long = refl
wholes-push [] (ls ∷ lines) p own long = absurd (omega (arith, long))
wholes-push (q ∷ parts) [] p own long = absurd (omega (arith, long))
wholes-push (q ∷ parts) (ls ∷ lines) p own long = ap (λ ts. whole q ls ∷ ts) (wholes-push parts lines p own (omega (arith, long)))

pub ruleset text_laws = (length-wholes, whole-at, lines-at, wholes-push)
