-- Which halves wait after a call.
use Rattle.std.specs.Prelude.{◌≡◌, Bool, true, false, Result, Ok, Err}
use Rattle.rt_base.specs.declared.error.Error.{Error}
use Rattle.rt_base.specs.declared.error.Error.TheVariants.{NoMemory, UnknownToken}
use Rattle.rt_base.specs.declared.poll.Poll.{Poll}
use Rattle.rt_base.specs.declared.poll.Poll.TheVariants.{Ready, Pending}
use Rattle.rt_net.specs.declared.reply.Reply.{Reply}

-- the call waits
abbrev pub is_pending : {A : Type 0} → Result (Poll A) Error → Bool
is_pending (Ok Pending) = true
is_pending (Ok (Ready _)) = false
is_pending (Err _) = false

-- the answer is that there is none yet
abbrev pub is_not_ready : {A : Type 0} → Poll A → Bool
is_not_ready Pending = true
is_not_ready (Ready _) = false

-- a call that also tells a task waits
abbrev pub waits : {A : Type 0} → Result (Reply (Poll A)) Error → Bool
waits (Ok r) = is_not_ready r.value
waits (Err _) = false

-- the poll of a call that waits: it still waits where it is pending again, and where it was refused and changed nothing
abbrev pub still_waits : {A : Type 0} → Result (Poll A) Error → Bool
still_waits (Ok Pending) = true
still_waits (Ok (Ready _)) = false
still_waits (Err NoMemory) = true
still_waits (Err UnknownToken) = true
still_waits (Err _) = false

-- a call that may also be made while one waits: it waits where it is pending, and goes on as before where it was refused
-- and changed nothing
abbrev pub waits_on : {A : Type 0} → Bool → Result (Poll A) Error → Bool
waits_on before (Ok Pending) = true
waits_on before (Ok (Ready _)) = false
waits_on before (Err NoMemory) = before
waits_on before (Err UnknownToken) = before
waits_on before (Err _) = false

-- no wait of the halves of a new connection is started
abbrev pub AreIdle : {K M : Type 0} → (K → Bool) → (M → Bool) → Result (Reply (K × M)) Error → Type 0
AreIdle sending receiving (Ok r) = (sending r.value.0 ≡ false) × (receiving r.value.1 ≡ false)
AreIdle sending receiving (Err _) = Unit {0}

-- so are those of a connection that is taken
abbrev pub TakesIdle : {A K M : Type 0} → (K → Bool) → (M → Bool) → Result (Poll (A × K × M)) Error → Type 0
TakesIdle sending receiving (Ok (Ready r)) = (sending r.1 ≡ false) × (receiving r.2 ≡ false)
TakesIdle sending receiving (Ok Pending) = Unit {0}
TakesIdle sending receiving (Err _) = Unit {0}
