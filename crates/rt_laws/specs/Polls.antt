-- Where a poll of a task begins.
use Rattle.std.specs.Prelude.{◌≡◌, ℕ, List, [], ◌∷◌}
use Rattle.rt_audit.specs.declared.entry.Entry.{Entry}
use Rattle.rt_audit.specs.declared.entry.Entry.TheVariants.{Event}
use Rattle.rt_model.specs.State.{State, Entered, Polling}
use Rattle.rt_model.specs.Effects.{after}

-- the entry is the event of a visit that polls this task
abbrev pub BeginsPoll : State → Entry → ℕ → Type 0
BeginsPoll s (Event label fields) task = (left : List ℕ) × (s.phase ≡ Entered task left) × ((after s (Event label fields)).phase ≡ Polling task left)
BeginsPoll s _ task = ⊥

-- none of these entries, from this state on, begins a poll of this task
abbrev pub PollsNone : State → List Entry → ℕ → Type 0
PollsNone s [] task = Unit {0}
PollsNone s (e ∷ es) task = (BeginsPoll s e task → ⊥) × PollsNone (after s e) es task
