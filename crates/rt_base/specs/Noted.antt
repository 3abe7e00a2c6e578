-- What an environment keeps of the calls that are noted in it.
use Rattle.std.specs.Prelude.{◌≡◌, ℕ, List, ◌++◌, Option, Some, IfSome}
use Rattle.rt_base.specs.declared.event.Event.{Event}

-- one thing that is kept: an event, or the number that was drawn
pub data Noted : Type 0 where
  Happened : Event → Noted
  Drawn : ℕ → Noted

-- where the record is shown, it grows by these
abbrev pub Adds : Option (List Noted) → List Noted → Option (List Noted) → Type 0
Adds old more new = IfSome old (λ kept. new ≡ Some (kept ++ more))
