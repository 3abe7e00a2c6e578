-- What a crash draws: each later change is kept, dropped or cut by numbers of the environment.
use Rattle.std.specs.Prelude.{◌≡◌, ◌⊎◌, ℕ, zero, suc, ◌+◌, ◌%◌, ◌<◌, ◌≤◌, true, false, List, [], ◌∷◌, length, take, drop, Option, None, Some, slice_get}
use Rattle.rt_base.specs.Counted.{Notes}
use Rattle.rt_base.specs.declared.choice.Choice.{Choice}
use Rattle.rt_base.specs.declared.choice.Choice.TheVariants.{Kept, Dropped, Prefix}
use Rattle.rt_base.specs.Noted.{Noted, Drawn}
use Rattle.rt_store.specs.declared.faults.FaultConfig.{FaultConfig}
use Rattle.rt_store.specs.declared.faults.PartialWriteMode.{PartialWriteMode}
use Rattle.rt_store.specs.declared.faults.PartialWriteMode.TheVariants as partial
use Rattle.rt_store.specs.declared.mutation.Mutation.{Mutation}
use Rattle.rt_store.specs.declared.mutation.Mutation.TheVariants.{Write, Resize}
use Rattle.rt_store.specs.File.{FileState, crashed}
use Rattle.rt_store.specs.Store.{at_place}

-- a change is kept where the number drawn for it is below `keep`, in parts per million
abbrev pub IsKept : ℕ → Choice → List Noted → Type 0
IsKept keep choice x = (d : ℕ) × (x ≡ Drawn d ∷ []) × (choice ≡ Kept) × (d % 1000000 < keep)

abbrev pub IsDropped : ℕ → Choice → List Noted → Type 0
IsDropped keep choice x = (d : ℕ) × (x ≡ Drawn d ∷ []) × (choice ≡ Dropped) × (keep ≤ d % 1000000)

-- only first bytes of a write stay, as many as a second number tells
abbrev pub IsCut : ℕ → ℕ → Choice → List Noted → Type 0
IsCut keep len choice x =
    (d : ℕ) × (e : ℕ) × (x ≡ Drawn d ∷ Drawn e ∷ []) × (choice ≡ Prefix (e % (len + 1))) × (keep ≤ d % 1000000)

-- what is drawn for a change, and the choice: none is drawn where it can only be kept, or only be dropped
abbrev pub WriteChosen : ℕ → PartialWriteMode → ℕ → Choice → List Noted → Type 0
WriteChosen keep partial.Prefix len choice x = IsKept keep choice x ⊎ IsCut keep len choice x
WriteChosen zero partial.Off len choice x = (choice ≡ Dropped) × (x ≡ [])
WriteChosen (suc keep) partial.Off len choice x = IsKept (suc keep) choice x ⊎ IsDropped (suc keep) choice x

abbrev pub ResizeChosen : ℕ → Choice → List Noted → Type 0
ResizeChosen zero choice x = (choice ≡ Dropped) × (x ≡ [])
ResizeChosen (suc keep) choice x = IsKept (suc keep) choice x ⊎ IsDropped (suc keep) choice x

abbrev pub Chosen : FaultConfig → Mutation → Choice → List Noted → Type 0
Chosen f (Write at bytes true) choice x = (choice ≡ Kept) × (x ≡ [])
Chosen f (Write at bytes false) choice x = WriteChosen f.write.keep f.write.partial (length bytes) choice x
Chosen f (Resize len) choice x = ResizeChosen f.resize.keep choice x

-- one choice for each change, in their order, and the record of the environment before and after
abbrev pub Chooses : FaultConfig → List Mutation → List Choice → Option (List Noted) → Option (List Noted) → Type 0
Chooses f [] [] old new = new ≡ old
Chooses f [] (c ∷ cs) old new = ⊥
Chooses f (m ∷ ms) [] old new = ⊥
Chooses f (m ∷ ms) (c ∷ cs) old new = (mid : Option (List Noted)) × Notes old (Chosen f m c) mid × Chooses f ms cs mid new

-- the changes of a blob that a crash decides over
abbrev pub later_of : Option FileState → List Mutation
later_of None = []
later_of (Some b) = b.later

abbrev pub later_at : List FileState → ℕ → List Mutation
later_at files i = later_of (slice_get files i)

-- a blob crashes by as many choices as it has such changes
abbrev pub crashed_at : List FileState → ℕ → List Choice → List FileState
crashed_at files i cs = at_place files i (crashed (take (length (later_at files i)) cs))

-- the choices that are left for the next blobs
abbrev pub choices_after : List FileState → ℕ → List Choice → List Choice
choices_after files i cs = drop (length (later_at files i)) cs

-- the blobs after those of these numbers crashed, one after the other
abbrev pub all_crashed : List ℕ → List Choice → List FileState → List FileState
all_crashed [] cs files = files
all_crashed (i ∷ is) cs files = all_crashed is (choices_after files i cs) (crashed_at files i cs)

-- one choice for each of their changes, and what is drawn for them
abbrev pub ChoosesAll : FaultConfig → List ℕ → List FileState → List Choice → Option (List Noted) → Option (List Noted) → Type 0
ChoosesAll f [] files [] old new = new ≡ old
ChoosesAll f [] files (c ∷ cs) old new = ⊥
ChoosesAll f (i ∷ is) files cs old new =
    (mid : Option (List Noted)) × Chooses f (later_at files i) (take (length (later_at files i)) cs) old mid
    × ChoosesAll f is (crashed_at files i cs) (choices_after files i cs) mid new
