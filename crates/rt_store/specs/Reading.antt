-- Reads of several ranges, and how their buffers are put into the order of the ranges.
use Rattle.std.specs.Prelude.{◌≡◌, ℕ, ◌+◌, ◌<◌, ◌==◌, if◌then◌else◌, Bool, true, List, [], ◌∷◌, length, map, take, drop, Option, None, Some, IsSome, nat_lt, slice_get}
use Rattle.std.specs.List.{All, list_all}
use Rattle.rt_base.specs.declared.error.Error.{Error}
use Rattle.rt_bufs.specs.WritableChunks.{WritableChunks}
use Rattle.rt_store.specs.Store.{or_else, read_refusal_of}

-- the first refusal of a range, in their order
abbrev pub ranges_refusal : List (ℕ × ℕ) → ℕ → Option Error
ranges_refusal [] size = None
ranges_refusal (r ∷ rs) size = or_else (read_refusal_of r.0 r.1 size) (ranges_refusal rs size)

-- the bytes of each range
abbrev pub ranges_of : List (ℕ × ℕ) → List ℕ → List (List ℕ)
ranges_of rs content = map (λ r. take r.1 (drop r.0 content)) rs

-- how many bytes each range asks for
abbrev pub lengths_of : List (ℕ × ℕ) → List ℕ
lengths_of rs = map (λ (r : ℕ × ℕ). r.1) rs

-- each buffer has as many bytes as its range asks for, in the order of the ranges
abbrev pub HaveLengths : List (ℕ × ℕ) → List WritableChunks → Type 0
HaveLengths rs bufs = map (λ (b : WritableChunks). length b.bytes) bufs ≡ lengths_of rs

-- the same of buffers with their places
abbrev pub HavePlacedLengths : List (ℕ × ℕ) → List (ℕ × WritableChunks) → Type 0
HavePlacedLengths rs reads = All (λ (r : ℕ × WritableChunks). slice_get (lengths_of rs) r.0 ≡ Some (length r.1.bytes)) reads

-- each with its place, from `place` on
abbrev pub placed : {A : Type 0} → ℕ → List A → List (ℕ × A)
placed place [] = []
placed place (x ∷ xs) = (place, x) ∷ placed (place + 1) xs

-- the bytes of buffers, and of buffers with their places
abbrev pub bytes_of : List WritableChunks → List (List ℕ)
bytes_of bufs = map (λ b. b.bytes) bufs

abbrev pub placed_bytes : List (ℕ × WritableChunks) → List (ℕ × List ℕ)
placed_bytes reads = map (λ (r : ℕ × WritableChunks). (r.0, r.1.bytes)) reads

-- the last one for a place, and else `x`
abbrev pub last_or : {A : Type 0} → ℕ → List (ℕ × A) → Option A → Option A
last_or i [] x = x
last_or i (r ∷ rs) x = last_or i rs (if i == r.0 then Some r.1 else x)

abbrev pub last_at : {A : Type 0} → ℕ → List (ℕ × A) → Option A
last_at i reads = last_or i reads None

-- each place is below `n`, and each number below `n` is a place
abbrev pub are_below : {A : Type 0} → ℕ → List (ℕ × A) → Bool
are_below n reads = list_all (λ r. nat_lt r.0 n) reads

abbrev pub IsWhole : {A : Type 0} → ℕ → List (ℕ × A) → Type 0
IsWhole n reads = (are_below n reads ≡ true) × ((i : ℕ) → i < n → IsSome (last_at i reads))

-- at each place stands the last one for it
abbrev pub AreCollected : {A : Type 0} → ℕ → List (ℕ × A) → List A → Type 0
AreCollected n reads all = (are_below n reads ≡ true) × (length all ≡ n) × ((i : ℕ) → i < n → slice_get all i ≡ last_at i reads)
