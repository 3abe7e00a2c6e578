-- Stores that a test lets fail, over an inner store.
use Rattle.std.specs.Prelude.{◌≡◌, ℕ, ◌+◌, ◌-◌, ◌^◌, min, Bool, true, false, List, [], Result, Ok, Err}
use Rattle.rt_base.specs.declared.error.Error.{Error}
use Rattle.rt_base.specs.declared.error.Error.TheVariants.{Io}
use Rattle.rt_base.specs.declared.io_kind.IoKind.TheVariants.{InjectedPartitionSyncFault, InjectedWriteFailure}
use Rattle.rt_base.specs.Noted.{Noted}
use Rattle.rt_buffer.specs.declared.write_fault.WriteFaults.{WriteFaults}
use Rattle.rt_store.specs.declared.ticket.Done.{Done}
use Rattle.rt_store.specs.declared.ticket.Ticket.{Ticket}
use Rattle.rt_store.specs.declared.ticket.Ticket.TheVariants.{Ready}

-- the answer of the inner store
abbrev pub inside : {A B : Type 0} → (A → B) → Result A Error → Result B Error
inside f (Ok a) = Ok (f a)
inside f (Err e) = Err e

-- one more, up to the type's end
abbrev pub one_more : ℕ → ℕ
one_more n = min (n + 1) (2 ^ 64 - 1)

-- no write fails, and none was counted
abbrev pub no_faults : WriteFaults
no_faults = record { is_armed = false; writes = 0; refusals = 0 }

abbrev pub counted_write : {A : Type 0} → WriteFaults → Result A Error → WriteFaults
counted_write f (Ok a) = record f { writes = one_more f.writes }
counted_write f (Err e) = f

abbrev pub refused_write : WriteFaults → WriteFaults
refused_write f = record f { refusals = one_more f.refusals }

-- a write is refused while that is armed, and the inner store isn't called; else it is the inner store's
abbrev pub FaultyWrites : {S : Type 0} → (Result Done Error → S → List Noted → Type 0) → Bool → S → WriteFaults → Result Done Error → S → WriteFaults → List Noted → Type 0
FaultyWrites call true old f r new g x = (r ≡ Err (Io InjectedWriteFailure)) × (new ≡ old) × (g ≡ refused_write f) × (x ≡ [])
FaultyWrites call false old f r new g x = call r new x × (g ≡ counted_write f r)

-- a call of a blob of the failing partition answers this, and the inner store isn't called; else it is the inner store's
abbrev pub FaultyCall : {S R : Type 0} → R → (R → S → List Noted → Type 0) → Bool → S → ℕ → R → S → ℕ → List Noted → Type 0
FaultyCall answer call true old n r new m x = (r ≡ answer) × (new ≡ old) × (m ≡ one_more n) × (x ≡ [])
FaultyCall answer call false old n r new m x = call r new x × (m ≡ n)

abbrev pub failed_sync : Result Done Error
failed_sync = Err (Io InjectedPartitionSyncFault)

abbrev pub failed_start : Result Ticket Error
failed_start = Ok (Ready (Err (Io InjectedPartitionSyncFault)))
