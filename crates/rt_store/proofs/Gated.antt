-- A store that gates nothing.
use Rattle.rt_store.proofs.Prelude.{ℕ, Result, Ok, Err, IfOk, Counts, Error, CountsDone, IsNow, Done, Now, Gated}

pub counts_done : (old new : ℕ) (r : Result Done Error) → IfOk r IsNow → Counts old new r → CountsDone old new r
counts_done old new (Ok Now) is h = h
counts_done old new (Ok (Gated t)) is h = absurd (cc)
counts_done old new (Err e) is h = h
