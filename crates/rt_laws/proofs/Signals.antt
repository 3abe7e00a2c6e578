-- A root that signals to itself has its run.
use Rattle.rt_laws.proofs.Prelude.{◌≡◌, ◌<◌, ℕ, refl, arith, Completed, begun, after, after_all, nothing, IsRun, small_begin, gave, signaling_root, signaling_journal}
use Rattle.rt_laws.proofs.Decided.{lawful}
use Rattle.rt_laws.proofs.Followed.{tied}

pub signaling_run : IsRun signaling_root small_begin signaling_journal Completed (after_all (begun small_begin) signaling_journal) (gave 5)
unfolding begun after
signaling_run = record {
  lawful = lawful small_begin signaling_journal refl;
  reaches = refl;
  ends = refl;
  caused = λ e. cc;
  tied = tied signaling_root (begun small_begin) nothing (gave 5) signaling_journal refl;
  whole = refl;
}

pub apart : (n m : ℕ) → n < m → n ≡ m → ⊥
apart n m less e = omega (arith, e)
