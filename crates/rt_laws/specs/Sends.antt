-- What spends the sender of a slot.
use Rattle.std.specs.Prelude.{◌≡◌, ℕ}
use Rattle.rt_audit.specs.declared.call.Call.TheVariants.{Slots}
use Rattle.rt_audit.specs.declared.slot_call.SlotCall.TheVariants.{Send as SlotSend, Close as SlotClose}
use Rattle.rt_audit.specs.declared.reply.CallReply.TheVariants.{Done}
use Rattle.rt_audit.specs.declared.entry.Entry.{Entry}
use Rattle.rt_audit.specs.declared.entry.Entry.TheVariants.{Call}

-- the entry sends a result into this slot, or says that none comes
abbrev pub SpendsSender : ℕ → Entry → Type 0
SpendsSender slot (Call by (Slots (SlotSend other)) Done) = other ≡ slot
SpendsSender slot (Call by (Slots (SlotClose other)) Done) = other ≡ slot
SpendsSender slot _ = ⊥
