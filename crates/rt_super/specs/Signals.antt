-- Signals: values that are shown once to all who hold a signal of a group. A group has a signaler, by whose number it goes; signals,
-- which show its value; and completions, which are met once the value came and every signal was given up.
use Rattle.std.specs.Prelude.{◌≡◌, ℕ, ℤ, ◌+◌, ◌==◌, ◌&&◌, if◌then◌else◌, nat_lt, Bool, true, false, not, List, [], ◌∷◌, ◌++◌, map, Option, Some, None, is_some, IsSome, Result, Ok, Err}
use Rattle.std.specs.List.{list_any}
use Rattle.std.specs.Option.{option_map, option_map_or}
use Rattle.rt_base.specs.declared.poll.Poll.{Poll}
use Rattle.rt_base.specs.declared.poll.Poll.TheVariants.{Ready, Pending}
use Rattle.rt_base.specs.declared.error.Error.{Error}
use Rattle.rt_base.specs.declared.error.Error.TheVariants.{UnknownToken, Closed}
use Rattle.rt_super.specs.Rows.{find, without, replaced, those}
use Rattle.rt_super.specs.declared.signal_group.SignalGroup.{SignalGroup}
use Rattle.rt_super.specs.declared.signal_token.SignalToken.{SignalToken}
use Rattle.rt_super.specs.declared.stopper.Stopped.{Stopped}
use Rattle.rt_super.specs.declared.stopper.Stopped.TheVariants.{Waiting, Resolved}

-- all groups by the numbers of their signalers, the open signals, the live completions, each in order of numbers, and the number
-- that comes next. A signaler, its first signal and its completion have one number
pub record SignalRecord : Type 0 where
  pub groups : List (ℕ × SignalGroup)
  pub signals : List (ℕ × SignalToken)
  pub completions : List (ℕ × SignalToken)
  pub count : ℕ

-- the record, and those whom the last call met and nobody took yet
pub record SignalState : Type 0 where
  pub told : SignalRecord
  pub woken : List ℕ

abbrev pub no_signals : SignalRecord
no_signals = record { groups = []; signals = []; completions = []; count = 0 }

abbrev pub new_token : ℕ → SignalToken
new_token group = record { group = group; waits = None }

-- looking up

abbrev pub group_of : SignalRecord → ℕ → Option SignalGroup
group_of r group = find group r.groups

-- its signaler is there
abbrev pub is_alive : SignalRecord → ℕ → Bool
is_alive r group = option_map_or (λ g. g.alive) (group_of r group) false

-- its value came
abbrev pub has_value : SignalRecord → ℕ → Bool
has_value r group = option_map_or (λ g. is_some g.value) (group_of r group) false

-- one of these is of the group
abbrev pub is_open : ℕ → List (ℕ × SignalToken) → Bool
is_open group ts = list_any (λ t. t.1.group == group) ts

-- who waits by those of the group, in order of numbers
abbrev pub waits_in : ℕ → List (ℕ × SignalToken) → List ℕ
waits_in group [] = []
waits_in group (t ∷ ts) = if t.1.group == group then those t.1.waits ++ waits_in group ts else waits_in group ts

-- somebody waits by this one
abbrev pub is_waited : ℕ → List (ℕ × SignalToken) → Bool
is_waited number ts = option_map_or (λ t. is_some t.waits) (find number ts) false

-- nobody waits by those of the group any more
abbrev pub unwaited : ℕ → List (ℕ × SignalToken) → List (ℕ × SignalToken)
unwaited group ts = map (λ t. if t.1.group == group then (t.0, new_token group) else t) ts

-- a new group, under the next number

abbrev pub new_group : SignalGroup
new_group = record { value = None; alive = true }

abbrev pub with_group : SignalRecord → SignalRecord
with_group r = record {
  groups = r.groups ++ (r.count, new_group) ∷ [];
  signals = r.signals ++ (r.count, new_token r.count) ∷ [];
  completions = r.completions ++ (r.count, new_token r.count) ∷ [];
  count = r.count + 1;
}

-- a further signal or completion of a group, under the next number. Where the group's number was never given, it is of its own
-- number's group, which never is there
abbrev pub group_for : ℕ → ℕ → ℕ
group_for group count = if nat_lt group count then group else count

abbrev pub with_signal : SignalRecord → ℕ → SignalRecord
with_signal r group = record r { signals = r.signals ++ (r.count, new_token (group_for group r.count)) ∷ []; count = r.count + 1 }

abbrev pub with_completion : SignalRecord → ℕ → SignalRecord
with_completion r group = record r { completions = r.completions ++ (r.count, new_token (group_for group r.count)) ∷ []; count = r.count + 1 }

-- the signal that is a copy of this one
abbrev pub with_clone : SignalRecord → ℕ → SignalRecord
with_clone r signal = option_map_or (λ t. with_signal r t.group) (find signal r.signals) r

-- the value comes, where the signaler is there

-- completions are met where no signal is open
abbrev pub met_at : Bool → ℕ → List (ℕ × SignalToken) → List (ℕ × SignalToken)
met_at true group completions = completions
met_at false group completions = unwaited group completions

abbrev pub woken_at : Bool → ℕ → List (ℕ × SignalToken) → List ℕ
woken_at true group completions = []
woken_at false group completions = waits_in group completions

abbrev pub signaled : SignalRecord → ℕ → ℤ → SignalRecord
signaled r group value =
    if is_alive r group then record r {
      groups = replaced (λ g. record { value = Some value; alive = false }) group r.groups;
      signals = unwaited group r.signals;
      completions = met_at (is_open group r.signals) group r.completions;
    } else r

-- whom the value wakes: who waits by the signals, and then by the completions
abbrev pub woken_by_value : SignalRecord → ℕ → List ℕ
woken_by_value r group =
    if is_alive r group
    then waits_in group r.signals ++ woken_at (is_open group r.signals) group r.completions
    else []

-- the signaler is given up without a value, and its own completion with it

abbrev pub signaler_closed : SignalRecord → ℕ → SignalRecord
signaler_closed r group =
    if is_alive r group then record r {
      groups = replaced (λ g. record { value = None; alive = false }) group r.groups;
      signals = unwaited group r.signals;
      completions = without group r.completions;
    } else r

abbrev pub woken_by_closing : SignalRecord → ℕ → List ℕ
woken_by_closing r group = if is_alive r group then waits_in group r.signals else []

-- a signal is given up: with the last one of a group whose value came its completions are met

abbrev pub completes : SignalRecord → ℕ → Bool
completes r group = has_value r group && not (is_open group r.signals)

abbrev pub completed : SignalRecord → ℕ → SignalRecord
completed r group = if completes r group then record r { completions = unwaited group r.completions } else r

abbrev pub without_signal : SignalRecord → ℕ → SignalRecord
without_signal r signal = record r { signals = without signal r.signals }

abbrev pub signal_closed : SignalRecord → ℕ → SignalRecord
signal_closed r signal = option_map_or (λ t. completed (without_signal r signal) t.group) (find signal r.signals) r

abbrev pub woken_by_last : SignalRecord → ℕ → List ℕ
woken_by_last r signal =
    option_map_or
    (λ t. if completes (without_signal r signal) t.group then waits_in t.group r.completions else [])
    (find signal r.signals) []

abbrev pub completion_closed : SignalRecord → ℕ → SignalRecord
completion_closed r completion = record r { completions = without completion r.completions }

-- polls

-- what the signals of a group show: its value, each time, or that none comes any more. A group that isn't there never gets one
abbrev pub shown : Option SignalGroup → Result (Poll ℤ) Error
shown None = Ok Pending
shown (Some g) = elim g.value [ Some value ↦ Ok (Ready value) | None ↦ if g.alive then Ok Pending else Err Closed ]

abbrev pub signal_answer : SignalRecord → ℕ → Result (Poll ℤ) Error
signal_answer r signal = option_map_or (λ t. shown (group_of r t.group)) (find signal r.signals) (Err UnknownToken)

abbrev pub completion_answer : SignalRecord → ℕ → Result (Poll Unit) Error
completion_answer r completion =
    option_map_or (λ t. if completes r t.group then Ok (Ready tt) else Ok Pending) (find completion r.completions) (Err UnknownToken)

abbrev pub waiting_as : Option ℕ → SignalToken → SignalToken
waiting_as waits t = record t { waits = waits }

-- after a poll that is pending its task waits, in the place of who waited before
abbrev pub signal_polled : SignalRecord → ℕ → Option ℕ → SignalRecord
signal_polled r signal waits = elim (signal_answer r signal) [
  | Ok Pending ↦ record r { signals = replaced (waiting_as waits) signal r.signals }
  | _ ↦ r
]

abbrev pub completion_polled : SignalRecord → ℕ → Option ℕ → SignalRecord
completion_polled r completion waits = elim (completion_answer r completion) [
  | Ok Pending ↦ record r { completions = replaced (waiting_as waits) completion r.completions }
  | _ ↦ r
]

-- the shutdown of a run: a group whose first stop decides its value

-- its group, and the value once it came
pub record StopRecord : Type 0 where
  pub group : ℕ
  pub value : Option ℤ

abbrev pub new_stop : SignalRecord → StopRecord
new_stop r = record { group = r.count; value = None }

-- the first stop gives the value, and gives up the group's first signal and its own completion. Each stop has a completion of its own
abbrev pub stopped_first : SignalRecord → ℕ → ℤ → SignalRecord
stopped_first r group value = completion_closed (signal_closed (signaled (with_completion r group) group value) group) group

abbrev pub stop_after : SignalRecord → StopRecord → ℤ → SignalRecord
stop_after r s value = elim s.value [ None ↦ stopped_first r s.group value | Some first ↦ with_completion r s.group ]

abbrev pub woken_by_stop : SignalRecord → StopRecord → ℤ → List ℕ
woken_by_stop r s value = elim s.value [
  | None ↦ woken_by_value r s.group ++ woken_by_last (signaled (with_completion r s.group) s.group value) s.group
  | Some first ↦ []
]

abbrev pub with_stop : StopRecord → ℤ → StopRecord
with_stop s value = elim s.value [ None ↦ record s { value = Some value } | Some first ↦ s ]

-- a signal of the shutdown is open before the first stop, and has no number after it
abbrev pub stopped_after : SignalRecord → StopRecord → SignalRecord
stopped_after r s = elim s.value [ None ↦ with_signal r s.group | Some value ↦ r ]

abbrev pub stopped_answer : SignalRecord → StopRecord → Stopped
stopped_answer r s = elim s.value [ None ↦ Waiting r.count | Some value ↦ Resolved value ]

-- the shutdown's group is there: as it was made until the first stop, and from then on with the value of the first stop, for good
abbrev pub IsShutdown : SignalRecord → StopRecord → Type 0
IsShutdown r s = group_of r s.group ≡ Some (record { value = s.value; alive = not (is_some s.value) })

-- each shutdown stays one
abbrev pub KeepShutdowns : SignalRecord → SignalRecord → Type 0
KeepShutdowns old new = (s : StopRecord) → IsShutdown old s → IsShutdown new s

-- each shutdown stays one, but for one of this group that nobody stopped yet
abbrev pub KeepOthers : ℕ → SignalRecord → SignalRecord → Type 0
KeepOthers group old new = (s : StopRecord) → (s.group ≡ group → IsSome s.value) → IsShutdown old s → IsShutdown new s

-- what the open signals of a shutdown show: the value of the first stop, once it came
abbrev pub stop_shown : StopRecord → Result (Poll ℤ) Error
stop_shown s = elim s.value [ None ↦ Ok Pending | Some value ↦ Ok (Ready value) ]

-- the group of an open signal
abbrev pub signal_group : SignalRecord → ℕ → Option ℕ
signal_group r signal = option_map (λ t. t.group) (find signal r.signals)

-- each open signal of the shutdown shows what the shutdown says
abbrev pub ShowShutdown : SignalRecord → StopRecord → Type 0
ShowShutdown r s = (signal : ℕ) → signal_group r signal ≡ Some s.group → signal_answer r signal ≡ stop_shown s

-- the number is no group's, no signal's and no completion's
pub record AreFresh (r : SignalRecord) (number : ℕ) : Type 0 where
  pub groups : group_of r number ≡ None
  pub signals : find number r.signals ≡ None
  pub completions : find number r.completions ≡ None
