-- A journal: the list of its entries, and what of them moves the time, the rounds and the digest.
use Rattle.std.specs.Prelude.{ℕ, ◌+◌, List, [], ◌∷◌}
use Rattle.rt_audit.specs.declared.entry.Entry.{Entry}
use Rattle.rt_audit.specs.declared.entry.Entry.TheVariants.{Start, Event, Round, Advance, Skip}
use Rattle.rt_hasher.specs.Digest.{first_digest, event_digest}

-- the entries, and how many more have room
pub record Kept : Type 0 where
  pub entries : List Entry
  pub spare : ℕ

-- the time after an entry
abbrev pub time_after : ℕ → Entry → ℕ
time_after time (Start next now deadline cycle) = now
time_after time (Advance now) = now
time_after time (Skip now) = now
time_after time _ = time

abbrev pub last_time_from : ℕ → List Entry → ℕ
last_time_from time [] = time
last_time_from time (entry ∷ entries) = last_time_from (time_after time entry) entries

-- the time of the last start, advance or skip, and 0 before any
abbrev pub last_time : List Entry → ℕ
last_time entries = last_time_from 0 entries

-- how many rounds there are
abbrev pub rounds_in : List Entry → ℕ
rounds_in [] = 0
rounds_in (Round order ∷ entries) = rounds_in entries + 1
rounds_in (entry ∷ entries) = rounds_in entries

-- the digest after an entry: events alone move it
abbrev pub digest_after : List ℕ → Entry → List ℕ
digest_after digest (Event label fields) = event_digest digest label fields
digest_after digest _ = digest

abbrev pub digest_from : List ℕ → List Entry → List ℕ
digest_from digest [] = digest
digest_from digest (entry ∷ entries) = digest_from (digest_after digest entry) entries

-- the digest of all events, in order
abbrev pub digest_of : List Entry → List ℕ
digest_of entries = digest_from first_digest entries
