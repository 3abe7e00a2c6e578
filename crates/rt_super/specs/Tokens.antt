-- How the waits of a group are met, one number after the other.
use Rattle.std.specs.Prelude.{◌≡◌, ℕ, ◌==◌, ◌&&◌, ◌≤◌, if◌then◌else◌, true, false, List, [], ◌∷◌, map, Some, None, is_some, Vec}
use Rattle.std.specs.Global.{Global}
use Rattle.rt_super.specs.Ancestry.{stands_in}
use Rattle.rt_super.specs.Rows.{find, replaced, those, AreRising}
use Rattle.rt_super.specs.Signals.{new_token}
use Rattle.rt_super.specs.declared.signal_token.SignalToken.{SignalToken}

-- the numbers in these lists
abbrev pub lists_of : List (Vec ℕ Global) → List (List ℕ)
lists_of vs = map (λ (v : Vec ℕ Global). v.items) vs

-- who waits by this one, if it is of the group
abbrev pub wait_of : ℕ → ℕ → List (ℕ × SignalToken) → List ℕ
wait_of group number ts = elim (find number ts) [ None ↦ [] | Some t ↦ if t.group == group then those t.waits else [] ]

-- nobody waits by this one any more, if it is of the group
abbrev pub with_met : ℕ → ℕ → List (ℕ × SignalToken) → List (ℕ × SignalToken)
with_met group number ts = elim (find number ts) [ None ↦ ts | Some t ↦ if t.group == group then replaced (λ old. new_token group) number ts else ts ]

-- each number is less than those after it
abbrev pub AreAscending : List ℕ → Type 0
AreAscending [] = Unit {0}
AreAscending (n ∷ ns) = ((m : ℕ) → m ≤ n → stands_in ns m ≡ false) × AreAscending ns

-- those of the group that wait are among these numbers
abbrev pub Stand : ℕ → List ℕ → List (ℕ × SignalToken) → Type 0
Stand group numbers ts = (n : ℕ) (t : SignalToken) → find n ts ≡ Some t → (t.group == group && is_some t.waits) ≡ true → stands_in numbers n ≡ true

-- these numbers are left to be met
pub record IsLeft (group : ℕ) (numbers : List ℕ) (ts : List (ℕ × SignalToken)) : Type 0 where
  pub stand : Stand group numbers ts
  pub ascending : AreAscending numbers
  pub rising : AreRising ts
