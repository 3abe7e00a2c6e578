-- The alarms: a list in the order of (due, number).
use Rattle.std.specs.Prelude.{◌≡◌, ℕ, ◌+◌, ◌≤◌, Bool, ◌&&◌, ◌||◌, ◌==◌, if◌then◌else◌, nat_lt, nat_le, IsTrue, List, [], ◌∷◌, map, find, All, Option, Some, None, option_map}

-- an alarm: when it is due, its number, and the task that it wakes, if it wakes one
pub record Alarm : Type 0 where
  pub due : ℕ
  pub number : ℕ
  pub task : Option ℕ

-- the live alarms, the least by (due, number) first, and how many were ever set
pub record AlarmList : Type 0 where
  pub alarms : List Alarm
  pub count : ℕ

abbrev pub no_alarms : AlarmList
no_alarms = record { alarms = []; count = 0 }

-- whether an alarm goes before another, by (due, number)
abbrev pub is_before : Alarm → Alarm → Bool
is_before a b = nat_lt a.due b.due || (a.due == b.due && nat_lt a.number b.number)

-- each alarm goes before those after it
abbrev pub AreInOrder : List Alarm → Type 0
AreInOrder [] = Unit {0}
AreInOrder (a ∷ rest) = All (λ b. IsTrue (is_before a b)) rest × AreInOrder rest

-- with an alarm in its place
abbrev pub with_alarm : Alarm → List Alarm → List Alarm
with_alarm a [] = a ∷ []
with_alarm a (b ∷ rest) = if is_before a b then a ∷ b ∷ rest else b ∷ with_alarm a rest

-- an alarm was set, under the next number
abbrev pub alarm_set : AlarmList → ℕ → Option ℕ → AlarmList
alarm_set list due task = record {
  alarms = with_alarm (record { due = due; number = list.count; task = task }) list.alarms;
  count = list.count + 1;
}

-- the live alarm with this number
abbrev pub alarm_at : List Alarm → ℕ → Option Alarm
alarm_at alarms number = find (λ a. a.number == number) alarms

-- when the live alarm with this number is due
abbrev pub due_at : List Alarm → ℕ → Option ℕ
due_at alarms number = option_map (λ a. a.due) (alarm_at alarms number)

-- an alarm, waking this task if it has this number
abbrev pub waking : ℕ → Option ℕ → Alarm → Alarm
waking number task a = if a.number == number then record { due = a.due; number = a.number; task = task } else a

-- the alarm with this number wakes this task
abbrev pub alarm_rewoken : AlarmList → ℕ → Option ℕ → AlarmList
alarm_rewoken list number task = record {
  alarms = map (waking number task) list.alarms;
  count = list.count;
}

-- when the first alarm is due
abbrev pub first_due : List Alarm → Option ℕ
first_due [] = None
first_due (a ∷ rest) = Some a.due

-- the first alarm, if it is due
abbrev pub due_first : List Alarm → ℕ → Option Alarm
due_first [] now = None
due_first (a ∷ rest) now = if nat_le a.due now then Some a else None

-- its number, and whom it wakes
abbrev pub woken_of : Alarm → ℕ × Option ℕ
woken_of a = (a.number, a.task)

-- the alarms without the first, if it is due
abbrev pub after_due : List Alarm → ℕ → List Alarm
after_due [] now = []
after_due (a ∷ rest) now = if nat_le a.due now then rest else a ∷ rest

-- the first alarm went off, if it was due
abbrev pub alarm_popped : AlarmList → ℕ → AlarmList
alarm_popped list now = record { alarms = after_due list.alarms now; count = list.count }

-- no alarm is set any more; the numbers go on
abbrev pub alarms_cleared : AlarmList → AlarmList
alarms_cleared list = record { alarms = []; count = list.count }

-- no number comes twice
abbrev pub AreOnce : List Alarm → Type 0
AreOnce [] = Unit {0}
AreOnce (a ∷ rest) = (alarm_at rest a.number ≡ None) × AreOnce rest

-- The alarms are in order, their numbers were given, and none comes twice.
pub record AreSet (list : AlarmList) : Type 0 where
  pub ordered : AreInOrder list.alarms
  pub given : (n : ℕ) → list.count ≤ n → alarm_at list.alarms n ≡ None
  pub once : AreOnce list.alarms
