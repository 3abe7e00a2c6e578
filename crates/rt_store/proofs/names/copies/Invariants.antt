use Rattle.rt_store.proofs.Prelude.{◌≡◌, ◌++◌, ℕ, map, Vec, Global, keys}
use Rattle.rt_store.proofs.names.copies.Given as goal

abbrev pub invariant-loop-name : goal.invariant-loop-name
invariant-loop-name l =
    map (λ (n : Vec ℕ Global). n.items) l.names.items ++ map (λ (n : Vec ℕ Global). n.items) l.name-iterator
    ≡ map (λ (n : Vec ℕ Global). n.items) (keys l.numbers)
