-- A store's count with another one added to it.
use Rattle.rt_buffer.proofs.Prelude.{◌≡◌, ℕ, ◌+◌, ◌≤◌, ◌<◌, Result, Ok, Err, arith, ◌^◌, Counts, HasRisen, Error, NoMemory, one_more, CountsDone, CountsPoll, CountsStart, Done, Now, Gated, Ticket, Ready, Numbered}

pub counts_more : {A : Type 0} (old new more : ℕ) (r : Result A Error) → Counts old new r → Counts (old + more) (new + more) r
counts_more old new more (Ok a) h = omega (arith, h)
counts_more old new more (Err NoMemory) h = omega (arith, h)
counts_more old new more (Err e) h = (omega (arith, h.0), λ below. omega (arith, h.1 (omega (arith, below))))

pub counts_done_more : (old new more : ℕ) (r : Result Done Error) → CountsDone old new r → CountsDone (old + more) (new + more) r
counts_done_more old new more (Ok Now) h = omega (arith, h)
counts_done_more old new more (Ok (Gated (Ready held))) h = counts_more old new more held h
counts_done_more old new more (Ok (Gated (Numbered n))) h = omega (arith, h)
counts_done_more old new more (Err e) h = let r : Result Done Error = Err e in counts_more old new more r h

pub counts_up : {A : Type 0} (old new : ℕ) (r : Result A Error) → Counts old new r → old ≤ new
counts_up old new (Ok a) h = h
counts_up old new (Err NoMemory) h = h
counts_up old new (Err e) h = h.0

pub counts_done_up : (old new : ℕ) (r : Result Done Error) → CountsDone old new r → old ≤ new
counts_done_up old new (Ok Now) h = h
counts_done_up old new (Ok (Gated (Ready held))) h = counts_up old new held h
counts_done_up old new (Ok (Gated (Numbered n))) h = h
counts_done_up old new (Err e) h = let r : Result Done Error = Err e in counts_up old new r h

pub counts_start_more : (old new more : ℕ) (r : Result Ticket Error) → CountsStart old new r → CountsStart (old + more) (new + more) r
counts_start_more old new more (Ok (Ready held)) h = counts_more old new more held h
counts_start_more old new more (Ok (Numbered n)) h = omega (arith, h)
counts_start_more old new more (Err e) h = let r : Result Unit Error = Err e in counts_more old new more r h

pub counts_poll_more : (old new more : ℕ) (before after : Ticket) → CountsPoll old new before after → CountsPoll (old + more) (new + more) before after
counts_poll_more old new more (Ready held) after h = omega (arith, h)
counts_poll_more old new more (Numbered n) (Ready held) h = counts_more old new more held h
counts_poll_more old new more (Numbered n) (Numbered m) h = omega (arith, h)

-- one more of a count, beside another that stayed
pub rises : (n k m l : ℕ) → k ≡ n → l ≡ one_more m → m < 2 ^ 64 → (n + m ≤ k + l) × HasRisen (n + m) (k + l)
rises n k m l same more fits = (omega (arith, same, more, fits), λ below. omega (arith, same, more, fits, below))
