use Rattle.rt_scenario.proofs.Prelude.{◌≡◌, ◌++◌, ◌<◌, ℕ, List, drop, length, map, All, IsPermutation, IsStrictlySortedBy, text_cmp, numbered_from}
use Rattle.rt_scenario.proofs.FirstUse.{Filled}
use Rattle.rt_scenario.proofs.handles.apart.Given as goal

-- the names so far and those to come, and the places so far
abbrev pub invariant-loop-pair : goal.invariant-loop-pair
invariant-loop-pair l =
    let rest = drop l.pair-index l.fn.numbered in
    let names = map (λ (p : List ℕ × ℕ). p.0) l.fn.numbered in
    (l.names.items ++ map (λ (p : List ℕ × ℕ). p.0) rest ≡ names)
    × (length l.places.items ≡ length l.fn.numbered)
    × All (λ (p : List ℕ × ℕ). p.1 < length l.fn.numbered) rest
    × IsStrictlySortedBy text_cmp names
    × ((first : List (List ℕ)) → IsPermutation (numbered_from 0 first) l.fn.numbered → Filled names first l.places.items rest)
