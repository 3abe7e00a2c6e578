-- The room of slots, and what a call on them does to it.
use Rattle.std.specs.Prelude.{◌≡◌, ◌<◌, ◌+◌, ◌^◌, ℕ, Bool, true, false}
use Rattle.rt_audit.specs.declared.slot_call.SlotCall.{SlotCall}
use Rattle.rt_audit.specs.declared.slot_call.SlotCall.TheVariants.{Make, Poll}
use Rattle.rt_model.specs.declared.result.TaskResult.{TaskResult}
use Rattle.rt_model.specs.Rows.{Rows, total}
use Rattle.rt_model.specs.Slots.{Slotted}
use Rattle.rt_parts.specs.Room.{result_places, sender_places}

-- what tables tell
abbrev pub slotted : Rows TaskResult → Rows (Unit {0}) → Slotted
slotted slots senders = record { results = slots.items; senders = senders.items; count = slots.next }

-- the entries for which slots may still ask without memory
abbrev pub slots_owe : Slotted → ℕ
slots_owe ss = total result_places ss.results + total sender_places ss.senders

-- those for which a slot asks that a call makes
abbrev pub slot_cost : SlotCall → ℕ
slot_cost Make = 4
slot_cost _ = 0

-- the call spends a token, with the place of its entry
abbrev pub is_spending : SlotCall → Bool
is_spending Make = false
is_spending (Poll slot) = false
is_spending _ = true

-- a slot more has room, where the call makes one
abbrev pub HasRoom : Rows TaskResult → Rows (Unit {0}) → SlotCall → Type 0
HasRoom slots senders Make = (slots.next < 2 ^ 64) × (0 < slots.spare) × (0 < senders.spare)
HasRoom slots senders _ = Unit {0}
