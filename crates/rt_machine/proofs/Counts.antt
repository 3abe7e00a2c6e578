-- How many tasks run, and which of them a cleanup ends next.
use Rattle.rt_machine.proofs.Prelude.{◌≡◌, ◌+◌, ℕ, List, [], ◌∷◌, refl, true, Option, Some, None, length, arith, ◌<◌, IfSome, Alarm, has_number, with_number, without_number, fires, AreBelow, ends_next}

pub length-with : (k : ℕ) (ns : List ℕ) → length (with_number k ns) ≡ length ns + 1
length-with k [] = refl
length-with k (n ∷ ns) = grind (arith, length-with k ns)

pub length-without : (k : ℕ) (ns : List ℕ) → has_number k ns ≡ true → length (without_number k ns) + 1 ≡ length ns
length-without k [] h = cc
length-without k (n ∷ ns) h = grind (arith, length-without k ns)

pub ends-runs : (ns : List ℕ) (root : Option ℕ) (k : ℕ) → ends_next ns root ≡ Some k → has_number k ns ≡ true
ends-runs [] root k h = cc
ends-runs (n ∷ ns) root k h = grind (arith, ends-runs ns root k)

pub ends-none : (ns : List ℕ) (root : Option ℕ) → ends_next ns root ≡ None → ns ≡ []
ends-none [] root h = refl
ends-none (n ∷ ns) root h = grind (arith, ends-none ns root)

pub ends-fewer : (ns : List ℕ) (root : Option ℕ) (k : ℕ) → ends_next ns root ≡ Some k → length (without_number k ns) + 1 ≡ length ns
ends-fewer ns root k h = length-without k ns (ends-runs ns root k h)

pub fires-some : (set : List Alarm) (time number : ℕ) → fires set time ≡ Some number → 0 < length set
fires-some [] time number h = cc
fires-some (a ∷ set) time number h = omega arith

-- numbers below a bound, with one more and with one fewer
pub below-with : (bound k : ℕ) (ns : List ℕ) → k < bound → AreBelow bound ns → AreBelow bound (with_number k ns)
below-with bound k [] h b = (h, tt)
below-with bound k (n ∷ ns) h b = grind (arith, below-with bound k ns h b.1)

pub below-without : (bound k : ℕ) (ns : List ℕ) → AreBelow bound ns → AreBelow bound (without_number k ns)
below-without bound k [] b = tt
below-without bound k (n ∷ ns) b = grind (arith, below-without bound k ns b.1)

pub below-has : (bound k : ℕ) (ns : List ℕ) → AreBelow bound ns → has_number k ns ≡ true → k < bound
below-has bound k [] b h = cc
below-has bound k (n ∷ ns) b h = grind (arith, below-has bound k ns b.1)

pub below-some : (bound : ℕ) (by : Option ℕ) (ns : List ℕ) → AreBelow bound ns → IfSome by (λ k. has_number k ns ≡ true) → IfSome by (λ k. k < bound)
below-some bound None ns b h = tt
below-some bound (Some k) ns b h = below-has bound k ns b h

pub ruleset count_laws = (below-some, length-with, ends-fewer, ends-runs, ends-none, fires-some, below-with, below-without, below-has)
