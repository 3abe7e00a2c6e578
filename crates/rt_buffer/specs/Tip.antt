-- The tip of a blob: bytes that lie over its content from an offset on.
use Rattle.std.specs.Prelude.{ℕ, ◌+◌, ◌-◌, ◌^◌, max, Bool, ◌&&◌, nat_le, nat_lt, if◌then◌else◌, List, [], ◌∷◌, length, take, Option, Some, None}
use Rattle.rt_store.specs.Content.{written}

-- `capacity` is how far after the offset a write may end that goes into the tip
pub record Tip : Type 0 where
  pub offset : ℕ
  pub bytes : List ℕ
  pub capacity : ℕ

-- a tip without bytes
abbrev pub empty_tip : ℕ → ℕ → Tip
empty_tip offset capacity = record { offset = offset; bytes = []; capacity = capacity }

-- the end of the bytes
abbrev pub end_of : Tip → ℕ
end_of t = t.offset + length t.bytes

-- the bytes of a blob with this content, seen through its tip
abbrev pub laid_over : Tip → List ℕ → List ℕ
laid_over t content = written t.offset t.bytes content

-- a write of so many bytes at this place lies within the tip's reach
abbrev pub is_within : Tip → ℕ → ℕ → Bool
is_within t offset len =
    nat_le t.offset offset && (nat_le (offset + len) (t.offset + t.capacity) && nat_lt (offset + len) (2 ^ 64))

-- the tip with these bytes at this place, and zeros before them where it had ended earlier
abbrev pub merged : Tip → List ℕ → ℕ → Tip
merged t bytes offset = record t { bytes = written (offset - t.offset) bytes t.bytes }

-- what is to be written out of a tip: its bytes, and where they begin
abbrev pub bytes_to_write : Tip → Option (List ℕ × ℕ)
bytes_to_write t = elim t.bytes [ [] ↦ None | b ∷ bs ↦ Some (t.bytes, t.offset) ]

-- the tip once its bytes are written out
abbrev pub drained : Tip → Tip
drained t = empty_tip (end_of t) t.capacity

-- a new length of the blob: the bytes past it go, and a tip that it doesn't lie in begins at it
abbrev pub shortened : Tip → ℕ → Tip
shortened t len = if nat_lt t.offset len then record t { bytes = take (len - t.offset) t.bytes } else empty_tip len t.capacity

abbrev pub resized_tip : Tip → ℕ → Tip
resized_tip t len = if nat_le (end_of t) len then empty_tip len t.capacity else shortened t len

-- the bytes to write out before the blob gets a new length, which is no shorter than the end of the tip
abbrev pub bytes_before : Tip → ℕ → Option (List ℕ × ℕ)
bytes_before t len = if nat_le (end_of t) len then bytes_to_write t else None

-- the tip once its blob has bytes up to this place: where it has none of its own it begins no earlier
abbrev pub raised : Tip → ℕ → Tip
raised t end = elim t.bytes [ [] ↦ empty_tip (max t.offset end) t.capacity | b ∷ bs ↦ t ]
