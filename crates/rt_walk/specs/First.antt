-- The first entry that may not come where it is.
use Rattle.std.specs.Prelude.{◌≡◌, ℕ, List, Option, Some, None, take}
use Rattle.std.specs.List.{slice_get}
use Rattle.rt_audit.specs.declared.entry.Entry.{Entry}
use Rattle.rt_model.specs.State.{State}
use Rattle.rt_model.specs.Rules.{May}
use Rattle.rt_model.specs.Runs.{renewed, runs_after, AreLawful}

-- from here on the entries before this place may come where they are, and the one at it may not
pub record BreaksAt (runs : State) (entries : List Entry) (place : ℕ) : Type 0 where
  pub entry : Entry
  pub there : slice_get entries place ≡ Some entry
  pub before : AreLawful runs (take place entries)
  pub breaks : May (renewed (runs_after runs (take place entries)) entry) entry → ⊥

abbrev pub IsFirstUnlawful : State → List Entry → Option ℕ → Type 0
IsFirstUnlawful runs entries None = AreLawful runs entries
IsFirstUnlawful runs entries (Some place) = BreaksAt runs entries place
