-- Options as sets of bits.
use Rattle.std.specs.Prelude.{ℕ, Bool, IsTrue, if◌then◌else◌, ◌&&◌, ◌||◌, not}
use Rattle.rt_base.specs.declared.options.ReadOptions.{ReadOptions}
use Rattle.rt_base.specs.declared.options.WriteOptions.{WriteOptions}

-- a bit of this value, where it is set
abbrev pub bit : Bool → ℕ → ℕ
bit set value = if set then value else 0

-- each bit of the second is set in the first
abbrev pub HasReadOptions : ReadOptions → ReadOptions → Type 0
HasReadOptions a b = IsTrue b.dont_cache → IsTrue a.dont_cache

abbrev pub HasWriteOptions : WriteOptions → WriteOptions → Type 0
HasWriteOptions a b = (IsTrue b.sync → IsTrue a.sync) × (IsTrue b.dont_cache → IsTrue a.dont_cache)

-- the bits of both
abbrev pub united_read_options : ReadOptions → ReadOptions → ReadOptions
united_read_options a b = record { dont_cache = a.dont_cache || b.dont_cache }

abbrev pub united_write_options : WriteOptions → WriteOptions → WriteOptions
united_write_options a b = record { sync = a.sync || b.sync; dont_cache = a.dont_cache || b.dont_cache }

-- the bits of the first that the second lacks
abbrev pub without_read_options : ReadOptions → ReadOptions → ReadOptions
without_read_options a b = record { dont_cache = a.dont_cache && not b.dont_cache }

abbrev pub without_write_options : WriteOptions → WriteOptions → WriteOptions
without_write_options a b = record { sync = a.sync && not b.sync; dont_cache = a.dont_cache && not b.dont_cache }
