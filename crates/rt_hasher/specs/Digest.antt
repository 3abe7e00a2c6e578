-- The digest of a run's events. Each event makes it anew, from the digest before and from what the event says.
use Rattle.std.specs.Prelude.{ℕ, List, [], ◌∷◌}
use Rattle.std.specs.Int.{w32, to_be_bytes}
use Rattle.rt_hasher.specs.Crc32c.{crc32c}
use Rattle.rt_hasher.specs.Framing.{framed}

-- the digest of fields: the checksum of their framed bytes, as four bytes, the highest first
unfoldable pub fields_digest : List (List ℕ) → List ℕ
fields_digest fields = to_be_bytes w32 (crc32c (framed fields))

-- the digest of no events
abbrev pub first_digest : List ℕ
first_digest = 0 ∷ 0 ∷ 0 ∷ 0 ∷ []

-- the digest after an event: that of the digest before, the label and the event's fields, in this order
abbrev pub event_digest : List ℕ → List ℕ → List (List ℕ) → List ℕ
event_digest digest label fields = fields_digest (digest ∷ label ∷ fields)
