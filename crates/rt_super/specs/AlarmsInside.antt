-- How alarms are kept in memory.
use Rattle.std.specs.Prelude.{◌≡◌, ℕ, List, map, length, Some, slice_get, vec_len}
use Rattle.rt_super.specs.Wakers.{waker_of}
use Rattle.rt_super.specs.Alarms.{Alarm, AlarmList, AreSet, due_at}
use Rattle.rt_super.specs.declared.alarms.Alarms.TheInside.{Inside}

-- an entry of the map from (due, number) to the task
abbrev pub alarm_of : (ℕ × ℕ) × ℕ → Alarm
alarm_of e = record { due = e.0.0; number = e.0.1; task = waker_of e.1 }

abbrev pub alarms_of : List ((ℕ × ℕ) × ℕ) → List Alarm
alarms_of entries = map alarm_of entries

abbrev pub list_of : Inside → AlarmList
list_of a = record { alarms = alarms_of a.tasks; count = vec_len a.dues }

-- The due times are in places by number, and a live alarm's is its own.
pub record IsWhole (a : Inside) : Type 0 where
  pub set : AreSet (list_of a)
  pub counted : vec_len a.dues ≡ length a.dues.items
  pub dues : (n due : ℕ) → due_at (alarms_of a.tasks) n ≡ Some due → slice_get a.dues.items n ≡ Some due
