-- The digest of a store: a checksum of the fields of all blobs that have a name.
use Rattle.std.specs.Prelude.{◌≡◌, ℕ, List, [], ◌∷◌, ◌++◌, Option, None, Some, slice_get}
use Rattle.std.specs.Int.{w16, to_be_bytes}
use Rattle.std.specs.List.{flat_map}
use Rattle.rt_hasher.specs.Crc32c.{register_of}
use Rattle.rt_hasher.specs.Framing.{framed}
use Rattle.rt_store.specs.Directory.{Names}
use Rattle.rt_store.specs.File.{FileState}
use Rattle.rt_store.specs.Store.{StoreState}

-- the fields of a blob: partition, name, version as two bytes with the highest first, and content
abbrev pub blob_fields : List ℕ → List ℕ → Option FileState → List (List ℕ)
blob_fields partition name None = []
blob_fields partition name (Some b) = partition ∷ name ∷ to_be_bytes w16 b.version.version ∷ b.content ∷ []

-- those of the blobs of a partition, in the order of their names
abbrev pub names_fields : List FileState → List ℕ → Names → List (List ℕ)
names_fields files partition names = flat_map (λ e. blob_fields partition e.0 (slice_get files e.1)) names

abbrev pub shelf_fields : List FileState → List ℕ → Option Names → List (List ℕ)
shelf_fields files partition None = []
shelf_fields files partition (Some names) = names_fields files partition names

-- those of all blobs, in the order of the partitions
abbrev pub partitions_fields : List FileState → List Names → Names → List (List ℕ)
partitions_fields files shelves partitions = flat_map (λ e. shelf_fields files e.0 (slice_get shelves e.1)) partitions

abbrev pub audit_fields : StoreState → List (List ℕ)
audit_fields s = partitions_fields s.files s.directory.shelves s.directory.shelf

-- a checksum takes further fields in, after those that it had
abbrev pub TakesFields : List (List ℕ) → ℕ → ℕ → Type 0
TakesFields fields old new = (before : List (List ℕ)) → old ≡ register_of (framed before) → new ≡ register_of (framed (before ++ fields))
