-- Updates that are published in batches.
use Rattle.std.specs.Prelude.{ℕ, ◌+◌, ◌-◌, ◌^◌, ◌%◌, ℤ, ◌+ℤ◌, ◌-ℤ◌, Bool, not, nat_lt}
use Rattle.std.specs.Int.{int_wrap, w64}

-- what a home takes in
pub data Change : Type 0 where
  Counts : ℕ → Change
  Levels : ℤ → Change

-- a home takes a change, by what it does at counters and at gauges
abbrev pub Takes : {S : Type 0} → (S → ℕ → ℕ → S → Type 0) → (S → ℕ → ℤ → S → Type 0) → S → ℕ → Change → S → Type 0
Takes counts levels old id (Counts n) new = counts old id n new
Takes counts levels old id (Levels z) new = levels old id z new

-- the update that comes next completes a batch of this size
abbrev pub is_full : ℕ → ℕ → Bool
is_full pending size = not (nat_lt (pending + 1) size)

-- values of counters and of gauges wrap

abbrev pub raised_count : ℕ → ℕ → ℕ
raised_count value by = (value + by) % 2 ^ 64

abbrev pub count_change : ℕ → ℕ → ℕ
count_change from to = (to + (2 ^ 64 - from)) % 2 ^ 64

abbrev pub raised_level : ℤ → ℤ → ℤ
raised_level value by = int_wrap w64 (value +ℤ by)

abbrev pub lowered_level : ℤ → ℤ → ℤ
lowered_level value by = int_wrap w64 (value -ℤ by)

abbrev pub level_change : ℤ → ℤ → ℤ
level_change from to = int_wrap w64 (to -ℤ from)
