use Rattle.rt_walk.proofs.Prelude.{◌≡◌, take, State, runs_after, AreLawful, quiet}
use Rattle.rt_walk.proofs.first.first_refused.Given as goal

abbrev pub invariant-loop-place : goal.invariant-loop-place
invariant-loop-place l = (s : State) → quiet s ≡ l.fn.walker → record {
  walked : quiet (runs_after s (take l.place l.entries)) ≡ l.walker;
  lawful : AreLawful s (take l.place l.entries);
}
