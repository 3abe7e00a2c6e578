-- How a call of a store counts: the count of refusals, and the answers that hold an error within an Ok. And what becomes of
-- a ticket.
use Rattle.std.specs.Prelude.{◌≡◌, ℕ, ◌≤◌, ◌⊎◌, ⊤, Bool, true, false, Result, Ok, Err}
use Rattle.rt_base.specs.declared.error.Error.{Error}
use Rattle.rt_base.specs.declared.error.Error.TheVariants.{NoMemory, UnknownToken}
use Rattle.rt_base.specs.declared.poll.Poll.{Poll}
use Rattle.rt_base.specs.declared.poll.Poll.TheVariants as poll
use Rattle.rt_base.specs.Counted.{Counts}
use Rattle.rt_store.specs.declared.ticket.Done.{Done}
use Rattle.rt_store.specs.declared.ticket.Done.TheVariants.{Now, Gated}
use Rattle.rt_store.specs.declared.ticket.Ticket.{Ticket}
use Rattle.rt_store.specs.declared.ticket.Ticket.TheVariants.{Ready, Numbered}

-- a started sync: a ticket that holds a refusal counts as one
abbrev pub CountsStart : ℕ → ℕ → Result Ticket Error → Type 0
CountsStart old new (Ok (Ready held)) = Counts old new held
CountsStart old new (Ok (Numbered n)) = old ≤ new
CountsStart old new (Err e) = let r : Result Unit Error = Err e in Counts old new r

-- a change that may be gated: a ticket that holds a refusal counts as one
abbrev pub CountsDone : ℕ → ℕ → Result Done Error → Type 0
CountsDone old new (Ok Now) = old ≤ new
CountsDone old new (Ok (Gated (Ready held))) = Counts old new held
CountsDone old new (Ok (Gated (Numbered n))) = old ≤ new
CountsDone old new (Err e) = let r : Result Done Error = Err e in Counts old new r

-- a start of a sync is itself refused for two causes alone; any other refusal is in the ticket
abbrev pub StartsOrLacks : Result Ticket Error → Type 0
StartsOrLacks (Ok ticket) = ⊤
StartsOrLacks (Err NoMemory) = ⊤
StartsOrLacks (Err UnknownToken) = ⊤
StartsOrLacks (Err e) = ⊥

abbrev pub is_numbered : Ticket → Bool
is_numbered (Ready held) = false
is_numbered (Numbered n) = true

-- a copy of an answer, where there is memory for it
abbrev pub IsCopy : Result Unit Error → Poll (Result Unit Error) → Type 0
IsCopy (Ok u) p = p ≡ poll.Ready (Ok tt)
IsCopy (Err e) p = (p ≡ poll.Ready (Err e)) ⊎ (p ≡ poll.Ready (Err NoMemory))

-- a poll returns a copy of what the ticket holds then: a ready ticket stays as it is, and one with a number is ready once it
-- is answered
abbrev pub PollsTicket : Ticket → Poll (Result Unit Error) → Ticket → Type 0
PollsTicket (Ready held) p new = IsCopy held p × (new ≡ Ready held)
PollsTicket (Numbered n) poll.Pending new = new ≡ Numbered n
PollsTicket (Numbered n) (poll.Ready r) new = (held : Result Unit Error) × (new ≡ Ready held) × IsCopy held (poll.Ready r)

-- a polled sync: the error that a numbered ticket is ready with, but for a lack of memory, comes only where the count rose
abbrev pub CountsPoll : ℕ → ℕ → Ticket → Ticket → Type 0
CountsPoll old new (Numbered n) (Ready held) = Counts old new held
CountsPoll old new (Numbered n) (Numbered m) = old ≤ new
CountsPoll old new (Ready held) after = old ≤ new
