-- A sleep's alarm: its own, or a further one.
use Rattle.rt_machine.proofs.Prelude.{◌≡◌, ◌<◌, ◌+◌, ℕ, List, [], ◌∷◌, refl, length, arith, Option, Some, eq-eqb, Alarm, AlarmList, AreSet, alarm_set, alarm_rewoken, due_at, with_alarm, slept}

-- the number of a live alarm was given
pub set-given : (list : AlarmList) (number due : ℕ) → AreSet list → due_at list.alarms number ≡ Some due → number < list.count
set-given list number due s h = grind (arith, s.given number)

pub slept-own : (list : AlarmList) (by : Option ℕ) (due number : ℕ) → number < list.count → slept list by due number ≡ alarm_rewoken list number by
slept-own list by due number h = grind arith

pub slept-new : (list : AlarmList) (by : Option ℕ) (due : ℕ) → slept list by due list.count ≡ alarm_set list due by
slept-new list by due = rw (eq-eqb list.count list.count refl) refl

pub length-with : (a : Alarm) (alarms : List Alarm) → length (with_alarm a alarms) ≡ length alarms + 1
length-with a [] = refl
length-with a (b ∷ rest) = grind (arith, length-with a rest)

pub ruleset alarm_laws = (set-given, slept-own, slept-new, length-with)
