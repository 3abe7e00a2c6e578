-- The attributes of a name: a list of keys and values, sorted by key.
use Rattle.std.specs.Prelude.{◌≡◌, ℕ, ◌∷◌, [], ◌≤◌, List, length, Result, Ok, Err, slice_set, insert, ◌<◌, slice_index_or}
use Rattle.std.specs.declared.cmp.Ordering.{Ordering}
use Rattle.std.specs.declared.cmp.Ordering.TheVariants.{Less}
use Rattle.std.specs.Ordering.{nat_cmp}
use Rattle.std.specs.Cmp.Lexicographic.{slice_cmp}
use Rattle.std.specs.BTreeMap.{insert_entry}

-- the order of texts, byte by byte
abbrev pub text_cmp : List ℕ → List ℕ → Ordering
text_cmp = slice_cmp nat_cmp

-- the list with this value at this key: as an insertion into an ordered map
abbrev pub with_attribute : List (List ℕ × List ℕ) → List ℕ → List ℕ → List (List ℕ × List ℕ)
with_attribute attributes key value = insert_entry text_cmp attributes key value

-- this key is before the first of these
abbrev pub IsBefore : List ℕ → List (List ℕ × List ℕ) → Type 0
IsBefore key [] = Unit {0}
IsBefore key (e ∷ es) = text_cmp key e.0 ≡ Less

-- each key is before the next
abbrev pub IsSortedByKey : List (List ℕ × List ℕ) → Type 0
IsSortedByKey [] = Unit {0}
IsSortedByKey (e ∷ es) = IsBefore e.0 es × IsSortedByKey es

-- where a key is, or where it would go
abbrev pub PutAt : List (List ℕ × List ℕ) → List ℕ → Result ℕ ℕ → Type 0
PutAt attributes key (Ok at) =
    (at < length attributes)
    × ((value : List ℕ) (any : List ℕ × List ℕ) → with_attribute attributes key value ≡ slice_set attributes at ((slice_index_or attributes at any).0, value))
PutAt attributes key (Err at) = (at ≤ length attributes) × ((value : List ℕ) → with_attribute attributes key value ≡ insert attributes at (key, value))
