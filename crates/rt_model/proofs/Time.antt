-- No time of a lawful run lies past the last moment, and no alarm is due past it.
use Rattle.std.proofs.Common.{◌≡◌, ◌≤◌, ℕ, List, [], ◌∷◌, map, drop, arith, Option, Some}
use Rattle.rt_base.specs.declared.time.TheConstants.{MAX_TIME}
use Rattle.rt_audit.specs.declared.call.Call.{Call}
use Rattle.rt_audit.specs.declared.call.Call.TheVariants.{SleepPoll}
use Rattle.rt_audit.specs.declared.reply.CallReply.{CallReply}
use Rattle.rt_audit.specs.declared.reply.CallReply.TheVariants.{PendingAt}
use Rattle.rt_audit.specs.declared.entry.Entry.{Entry}
use Rattle.rt_audit.specs.declared.entry.Entry.TheVariants.{Call as CallEntry, Advance, Skip, Fire, Cleanup}
use Rattle.rt_super.specs.Alarms.{Alarm, AlarmList, with_alarm, waking}
use Rattle.rt_model.specs.declared.begin.Begin.{Begin}
use Rattle.rt_model.specs.State.{State, begun}
use Rattle.rt_model.specs.Alarms.{slept, skip_to}
use Rattle.rt_model.specs.Effects.{alarms_called, after, after_all}
use Rattle.rt_model.specs.Rules.{Answers, May, IsLawful}

abbrev AreDue : List Alarm → Type 0
AreDue [] = Unit {0}
AreDue (a ∷ rest) = (a.due ≤ MAX_TIME) × AreDue rest

due-with : (a : Alarm) (alarms : List Alarm) → a.due ≤ MAX_TIME → AreDue alarms → AreDue (with_alarm a alarms)
due-with a [] h k = (h, tt)
due-with a (b ∷ rest) h k = grind (arith, due-with a rest h k.1)

due-waking : (number : ℕ) (task : Option ℕ) (alarms : List Alarm) → AreDue alarms → AreDue (map (waking number task) alarms)
due-waking number task [] k = tt
due-waking number task (a ∷ rest) k = grind (arith, due-waking number task rest k.1)

due-slept : (list : AlarmList) (by : Option ℕ) (due number : ℕ) → due ≤ MAX_TIME → AreDue list.alarms → AreDue (slept list by due number).alarms
due-slept list by due number h k = grind (arith, due-with, due-waking)

due-drop : (alarms : List Alarm) → AreDue alarms → AreDue (drop 1 alarms)
due-drop [] k = tt
due-drop (a ∷ rest) k = k.1

skip-due : (ready : List ℕ) (alarms : List Alarm) (time now : ℕ) → skip_to ready alarms time ≡ Some now → AreDue alarms → now ≤ MAX_TIME
skip-due [] [] time now h k = cc
skip-due [] (a ∷ rest) time now h k = grind arith
skip-due (r ∷ ready) alarms time now h k = cc

due-called : (s : State) (by : Option ℕ) (call : Call) (reply : CallReply) → Answers s call reply → AreDue s.stood.alarms.alarms → AreDue (alarms_called s.stood.alarms by call reply).alarms
due-called s by (SleepPoll due) (PendingAt number) h k = due-slept s.stood.alarms by due number h.1 k
due-called s by _ _ h k = k

record IsInTime (s : State) : Type 0 where
  pub time : s.clock.time ≤ MAX_TIME
  pub alarms : AreDue s.stood.alarms.alarms

in-time-after : (s : State) (e : Entry) → IsInTime s → May s e → IsInTime (after s e)
unfolding after
in-time-after s (CallEntry by call reply) i m = record { time = i.time; alarms = due-called s by call reply m.1.1 i.alarms }
in-time-after s (Advance now) i m = record { time = m.1.3; alarms = i.alarms }
in-time-after s (Skip now) i m = record { time = skip-due s.ready s.stood.alarms.alarms s.clock.time now m.1.1 i.alarms; alarms = i.alarms }
in-time-after s (Fire alarm) i m = record { time = i.time; alarms = due-drop s.stood.alarms.alarms i.alarms }
in-time-after s Cleanup i m = record { time = i.time; alarms = tt }
in-time-after s _ i m = record { time = i.time; alarms = i.alarms }

in-time-all : (s : State) (x : List Entry) → IsInTime s → IsLawful s x → IsInTime (after_all s x)
in-time-all s [] i h = i
in-time-all s (e ∷ x) i h = in-time-all (after s e) x (in-time-after s e i h.0) h.1

pub time-within : (b : Begin) (x : List Entry) → b.start ≤ MAX_TIME → IsLawful (begun b) x → (after_all (begun b) x).clock.time ≤ MAX_TIME
unfolding begun
time-within b x h l = (in-time-all (begun b) x (record { time = h; alarms = tt }) l).time
