use Rattle.rt_scenario.proofs.Prelude.{◌≡◌, ℕ, ◌<◌, get_or}
use Rattle.rt_scenario.proofs.split.front_len.Given as goal

abbrev pub invariant-loop-place : goal.invariant-loop-place
invariant-loop-place l = (k : ℕ) → k < l.place → get_or l.text k 0 ≡ l.byte → ⊥
