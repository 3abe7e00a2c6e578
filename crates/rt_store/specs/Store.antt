-- A store as a record: a directory that gives each name its blob by number, and the blobs ever made. A removed blob
-- has no name any more, and lives on by its token.
use Rattle.std.specs.Prelude.{ℕ, ◌+◌, ◌-◌, ◌^◌, ◌==◌, Bool, false, if◌then◌else◌, List, [], ◌∷◌, length, Option, Some, None, slice_get, slice_set, nat_lt}
use Rattle.rt_base.specs.declared.error.Error.{Error}
use Rattle.rt_base.specs.declared.error.Error.TheVariants.{UnknownToken, OffsetOverflow, BlobInsufficientLength}
use Rattle.rt_store.specs.declared.blob.Blob.{Blob}
use Rattle.rt_store.specs.Directory.{Partitions, no_partitions}
use Rattle.rt_store.specs.File.{FileState, detached}

-- `opened` is the number of the next token
pub record StoreState : Type 0 where
  pub directory : Partitions
  pub files : List FileState
  pub opened : ℕ

-- the token is the live one of this blob
abbrev pub is_token : ℕ → Option ℕ → Bool
is_token n None = false
is_token n (Some t) = t == n

abbrev pub if_open : ℕ → Option FileState → Option FileState
if_open n None = None
if_open n (Some b) = if is_token n b.token then Some b else None

-- the blob of a token, where the token is live
abbrev pub live : List FileState → Blob → Option FileState
live files k = if_open k.number (slice_get files k.place)

-- the first of two causes
abbrev pub or_else : Option Error → Option Error → Option Error
or_else (Some e) next = Some e
or_else None next = next

-- why a call on a token is refused: by its blob where the token is live
abbrev pub refusal_at : Option FileState → (FileState → Option Error) → Option Error
refusal_at None f = Some UnknownToken
refusal_at (Some b) f = f b

-- the bytes of the blob of a token
abbrev pub content_at : Option FileState → List ℕ
content_at None = []
content_at (Some b) = b.content

-- a change of the blob of a token
abbrev pub at_blob : List FileState → ℕ → (FileState → FileState) → Option FileState → List FileState
at_blob files place f None = files
at_blob files place f (Some b) = slice_set files place (f b)

-- a change of the blob at a place, where one is there
abbrev pub at_place : List FileState → ℕ → (FileState → FileState) → List FileState
at_place files place f = at_blob files place f (slice_get files place)

-- the blobs at these places are removed
abbrev pub all_detached : List ℕ → List FileState → List FileState
all_detached [] files = files
all_detached (i ∷ is) files = all_detached is (at_place files i detached)

-- a read is past the end of numbers, or past the end of the bytes
abbrev pub read_refusal_of : ℕ → ℕ → ℕ → Option Error
read_refusal_of offset len size =
    if nat_lt (2 ^ 64 - 1) (offset + len) then Some OffsetOverflow
    else if nat_lt size (offset + len) then Some BlobInsufficientLength
    else None

abbrev pub read_refusal : ℕ → ℕ → FileState → Option Error
read_refusal offset len b = read_refusal_of offset len (length b.content)

-- a change ends past the end of numbers
abbrev pub end_refusal : ℕ → FileState → Option Error
end_refusal end b = if nat_lt (2 ^ 64 - 1) end then Some OffsetOverflow else None

-- no other call on a token has a cause of its own
abbrev pub no_refusal : FileState → Option Error
no_refusal b = None

-- how many changes a crash decides over
abbrev pub count_later : List FileState → ℕ
count_later [] = 0
count_later (b ∷ bs) = length b.later + count_later bs

-- a store where nothing was made
abbrev pub empty_state : StoreState
empty_state = record { directory = no_partitions; files = []; opened = 0 }
