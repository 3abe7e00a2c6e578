-- Bytes that are still to be written, chunk by chunk.
use Rattle.std.specs.Prelude.{ℕ, ◌+◌, List, [], ◌∷◌, length, take, drop, if◌then◌else◌}
use Rattle.rt_buffer.specs.Tip.{Tip, is_within, merged}
use Rattle.rt_store.specs.Content.{written}

-- the chunks, and where in the blob the first of them goes
pub record Pieces : Type 0 where
  pub at : ℕ
  pub chunks : List (List ℕ)

abbrev pub pieces : ℕ → List (List ℕ) → Pieces
pieces at chunks = record { at = at; chunks = chunks }

-- the first chunk is done
abbrev pub passed : ℕ → List (List ℕ) → Pieces
passed at [] = pieces at []
passed at (c ∷ cs) = pieces (at + length c) cs

-- bytes in pieces of these lengths, one after the other
abbrev pub cut : List ℕ → List ℕ → List (List ℕ)
cut [] bytes = []
cut (n ∷ ns) bytes = take n bytes ∷ cut ns (drop n bytes)

-- a content with these bytes written over it, where there are any
abbrev pub with_bytes : ℕ → List ℕ → List ℕ → List ℕ
with_bytes at [] old = old
with_bytes at (b ∷ bs) old = written at (b ∷ bs) old

-- a content with each chunk written over it, one after the other
abbrev pub chunks_written : ℕ → List (List ℕ) → List ℕ → List ℕ
chunks_written at [] old = old
chunks_written at (c ∷ cs) old = chunks_written (at + length c) cs (written at c old)

-- a tip, and the chunks that it didn't take
pub record Merging : Type 0 where
  pub tip : Tip
  pub left : Pieces

-- chunks go into a tip, up to the first one that lies beyond its reach
abbrev pub merged_chunks : Tip → ℕ → List (List ℕ) → Merging
merged_chunks t at [] = record { tip = t; left = pieces at [] }
merged_chunks t at (c ∷ cs) = if is_within t at (length c) then merged_chunks (merged t c at) (at + length c) cs else record { tip = t; left = pieces at (c ∷ cs) }
