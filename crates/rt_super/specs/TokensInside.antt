-- How signals are kept in memory.
use Rattle.std.specs.Prelude.{◌≡◌, ℕ, ◌-◌, ◌≤◌, ◌+◌, ◌==◌, if◌then◌else◌, true, false, min, List, [], ◌∷◌, map, length, get_or, Some, vec_len, vec_capacity}
use Rattle.rt_super.specs.Ancestry.{stands_in}
use Rattle.rt_super.specs.Rows.{Rows, find}
use Rattle.rt_super.specs.Tokens.{AreAscending, lists_of}
use Rattle.rt_super.specs.declared.signal_token.SignalToken.{SignalToken}
use Rattle.rt_super.specs.declared.tokens.Tokens.TheInside.{Inside}

abbrev pub rows_of : Inside → Rows SignalToken
rows_of t = record {
  items = t.table.items;
  next = t.table.next;
  spare = min t.table.spare (min (vec_capacity t.later - vec_len t.later) (vec_capacity t.live - vec_len t.live));
}

-- each with the number of its group
abbrev pub owners : List (ℕ × SignalToken) → List (ℕ × ℕ)
owners ts = map {B = ℕ × ℕ} (λ t. (t.0, t.1.group)) ts

-- how many are of a group
abbrev pub count_of : ℕ → List (ℕ × ℕ) → ℕ
count_of group [] = 0
count_of group (x ∷ xs) = (if x.1 == group then 1 else 0) + count_of group xs

-- a group's own number, and the later ones that were given in it
abbrev pub numbers_at : List (List ℕ) → ℕ → List ℕ
numbers_at lists group = group ∷ get_or lists group []

-- Each one is in the list of its group, the lists are in order, and the counts are right.
pub record AreTied (os : List (ℕ × ℕ)) (ls : List (List ℕ)) (live : List ℕ) (next : ℕ) : Type 0 where
  pub lists : length ls ≡ next
  pub lives : length live ≡ next
  pub listed : (n group : ℕ) → find n os ≡ Some group → stands_in (numbers_at ls group) n ≡ true
  pub ascending : (group : ℕ) → AreAscending (numbers_at ls group)
  pub given : (group n : ℕ) → next ≤ n → stands_in (get_or ls group []) n ≡ false
  pub counted : (group : ℕ) → get_or live group 0 ≡ count_of group os

pub record IsWhole (t : Inside) : Type 0 where
  pub tied : AreTied (owners t.table.items) (lists_of t.later.items) t.live.items t.table.next
