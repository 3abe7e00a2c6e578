-- Slots: places for one-time results, the n-th at the place n of a list.
use Rattle.std.specs.Prelude.{ℕ, Bool, true, false, List, Option, Some, None, slice_get, slice_set}
use Rattle.rt_base.specs.declared.poll.Poll.{Poll}
use Rattle.rt_base.specs.declared.poll.Poll.TheVariants.{Ready, Pending}
use Rattle.rt_super.specs.declared.slot_state.SlotState.{SlotState}
use Rattle.rt_super.specs.declared.slot_state.SlotState.TheVariants.{Open, Full, Closed, Aborted, GivenUp}

-- the task that waits at an open slot
abbrev pub waiting_of : {V : Type 0} → Option (SlotState V) → Option ℕ
waiting_of (Some (Open waiting)) = waiting
waiting_of _ = None

-- whether the slot was added and not given up
abbrev pub is_held : {V : Type 0} → Option (SlotState V) → Bool
is_held None = false
is_held (Some GivenUp) = false
is_held (Some _) = true

abbrev pub is_aborted : {V : Type 0} → Option (SlotState V) → Bool
is_aborted (Some Aborted) = true
is_aborted _ = false

-- the slots with this one changed; a slot that isn't there stays away
abbrev pub changed_at : {V : Type 0} → List (SlotState V) → ℕ → (SlotState V → SlotState V) → List (SlotState V)
changed_at slots slot change = elim (slice_get slots slot) [ None ↦ slots | Some state ↦ slice_set slots slot (change state) ]

-- a value comes: only an open slot takes it
abbrev pub with_value : {V : Type 0} → V → SlotState V → SlotState V
with_value value (Open waiting) = Full value
with_value value state = state

-- nothing comes any more: only an open slot changes
abbrev pub without_value : {V : Type 0} → SlotState V → SlotState V
without_value (Open waiting) = Closed
without_value state = state

-- an abort: whatever came before, unless the slot was given up
abbrev pub with_abort : {V : Type 0} → SlotState V → SlotState V
with_abort GivenUp = GivenUp
with_abort _ = Aborted

-- what a poll returns: a value, that none comes any more, or that neither is known yet
abbrev pub poll_answer : {V : Type 0} → Option (SlotState V) → Poll (Option V)
poll_answer (Some (Full value)) = Ready (Some value)
poll_answer (Some (Open waiting)) = Pending
poll_answer _ = Ready None

-- after a poll: an open slot knows who waits, and a value is gone
abbrev pub after_poll : {V : Type 0} → Option ℕ → SlotState V → SlotState V
after_poll waiting (Open before) = Open waiting
after_poll waiting (Full value) = Closed
after_poll waiting state = state

-- the value that nobody took yet
abbrev pub value_in : {V : Type 0} → SlotState V → Option V
value_in (Full value) = Some value
value_in _ = None
