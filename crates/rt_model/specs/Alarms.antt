-- Alarms, as a run sets them, skips to them and lets them go off.
use Rattle.std.specs.Prelude.{ℕ, List, [], ◌∷◌, Option, Some, None, option_map, Bool, false, ltb, eqb, ◌==◌, if◌then◌else◌}
use Rattle.std.specs.Option.{option_and_then, option_map_or}
use Rattle.rt_super.specs.Alarms.{Alarm, AlarmList, alarm_set, alarm_rewoken, alarm_at, first_due, due_first, woken_of}
use Rattle.rt_model.specs.Lists.{those}

-- the alarm of this number is set for this time
abbrev pub is_set : List Alarm → ℕ → ℕ → Bool
is_set alarms due number = option_map_or (λ a. a.due == due) (alarm_at alarms number) false

-- the number of the alarm of a sleep that has had this one or none: its own where that is still set for this time, else the next
abbrev pub alarm_of : AlarmList → ℕ → Option ℕ → ℕ
alarm_of a due None = a.count
alarm_of a due (Some number) = if is_set a.alarms due number then number else a.count

-- after a sleep received this number: a new alarm, or its own with the task in the place of the one before
abbrev pub slept : AlarmList → Option ℕ → ℕ → ℕ → AlarmList
slept a by due number = if eqb number a.count then alarm_set a due by else alarm_rewoken a number by

-- the due time of the earliest alarm, where it lies ahead
abbrev pub ahead : List Alarm → ℕ → Option ℕ
ahead alarms time = option_and_then (λ due. if ltb time due then Some due else None) (first_due alarms)

-- the moment that time skips to: the earliest alarm's, with nobody ready
abbrev pub skip_to : List ℕ → List Alarm → ℕ → Option ℕ
skip_to [] alarms time = ahead alarms time
skip_to (k ∷ ready) alarms time = None

-- the number of the alarm that goes off now
abbrev pub fires : List Alarm → ℕ → Option ℕ
fires alarms time = option_map (λ a. a.number) (due_first alarms time)

-- whom the earliest alarm wakes
abbrev pub woken_by : List Alarm → List ℕ
woken_by [] = []
woken_by (a ∷ rest) = those (woken_of a).1
