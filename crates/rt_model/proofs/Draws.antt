-- A shuffle is a permutation.
use Rattle.std.proofs.Common.{◌≡◌, ◌++◌, ◌⊎◌, inl, inr, ◌<◌, ◌+◌, ◌-◌, ◌%◌, ℕ, zero, suc, List, [], ◌∷◌, Option, length, refl, arith}
use Rattle.std.specs.List.{swap}
use Rattle.std.specs.List.Sorted.{IsPermutation}
use Rattle.std.proofs.lemmas.List.Edits.{length-swap}
use Rattle.std.proofs.lemmas.List.Sorted.{IsPermutation-refl, IsPermutation-trans, IsPermutation-swap}
use Rattle.rt_model.specs.Draws.{shuffled_from, shuffled}
use Rattle.rt_model.specs.State.{State, Phase, Blank, Making, Between, Visiting, Entered, Polling, Halted, Ending, Leaving, Turning, Over, Cleaning, Closing, Crashed, Finished}
use Rattle.rt_model.specs.Rules.{MayRound, MayDraw, IsOfDraws, IsOfCrash}

shuffled_from-permutes : (top : ℕ) (xs draws : List ℕ) → top < length xs → IsPermutation xs (shuffled_from top xs draws)
shuffled_from-permutes top xs [] h = IsPermutation-refl xs
shuffled_from-permutes zero xs (draw ∷ draws) h = IsPermutation-refl xs
shuffled_from-permutes (suc below) xs (draw ∷ draws) h =
    let ys : List ℕ = swap xs (suc below) (draw % (below + 2)) in
    let low : draw % (below + 2) < length xs = omega arith in
    let first : IsPermutation xs ys = IsPermutation-swap xs ys (suc below) (draw % (below + 2)) h low refl in
    IsPermutation-trans xs ys _ first (shuffled_from-permutes below ys draws (omega (arith, length-swap xs (suc below) (draw % (below + 2)))))

pub shuffled-permutes : (xs draws : List ℕ) → IsPermutation xs (shuffled xs draws)
shuffled-permutes [] [] = IsPermutation-refl []
shuffled-permutes [] (draw ∷ draws) = IsPermutation-refl []
shuffled-permutes (x ∷ xs) draws = shuffled_from-permutes (length (x ∷ xs) - 1) (x ∷ xs) draws (omega arith)

-- some draw is left out
some-more : {A : Type 0} (P : Type 0) (xs more : List A) (x : A) → xs ++ x ∷ more ≡ [] → P
some-more P [] more x h = cc
some-more P (y ∷ xs) more x h = cc

no-draws : (P : Type 0) (s : State) (by : Option ℕ) (value : ℕ) → IsOfDraws s by value → P
no-draws P s by value h = some-more P s.draws h.3 value h.4

no-crash : (P : Type 0) (s : State) (value : ℕ) → IsOfCrash s value → P
no-crash P s value h = some-more P s.draws h.2 value h.3.1

-- so far no call draws, and no crash
pub only-rounds : (p : Phase) (s : State) (value : ℕ) → MayDraw p s value → MayRound p s
only-rounds Between s value m = m
only-rounds Turning s value m = m
only-rounds (Closing cause) s value (inl m) = no-draws _ s m.0 value m.2
only-rounds (Closing cause) s value (inr m) = no-crash _ s value m
only-rounds _ s value m = no-draws _ s m.0 value m.2

-- where a round may begin, a number may be drawn for it
pub round-draws : (p : Phase) (s : State) (value : ℕ) → MayRound p s → MayDraw p s value
round-draws Between s value m = m
round-draws Turning s value m = m
round-draws _ s value m = absurd m
