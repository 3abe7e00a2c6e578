-- What a network notes round each call that it passes on, and what it returns where it can't note that.
use Rattle.std.specs.Prelude.{◌≡◌, ℕ, ◌+◌, ◌%◌, ◌^◌, Bool, true, false, List, [], ◌∷◌, ◌++◌, length, codes, Option, Some, None, Result, Ok, Err}
use Rattle.rt_base.specs.declared.addr.Addr.{Addr}
use Rattle.rt_base.specs.declared.error.Error.{Error}
use Rattle.rt_base.specs.declared.error.Error.TheVariants.{NoMemory}
use Rattle.rt_base.specs.declared.event.Event.{Event}
use Rattle.rt_base.specs.declared.poll.Poll.{Poll}
use Rattle.rt_base.specs.declared.poll.Poll.TheVariants.{Ready, Pending}
use Rattle.rt_base.specs.Noted.{Noted, Happened}
use Rattle.rt_bufs.specs.Chunked.{Chunked}
use Rattle.rt_net.specs.declared.reply.Reply.{Reply}

-- an event without fields
abbrev pub named : List ℕ → Event
named label = record { label = label; fields = [] }

-- a call that was refused has failed, save where it was out of memory
abbrev pub refusal : Error → Option Bool
refusal NoMemory = None
refusal e = Some false

-- how a call ended: whether it succeeded, and nothing where it waits or was out of memory
abbrev pub ending : {A : Type 0} → Result (Poll A) Error → Option Bool
ending (Ok (Ready _)) = Some true
ending (Ok Pending) = None
ending (Err e) = refusal e

abbrev pub outcome : {A : Type 0} → Result A Error → Option Bool
outcome (Ok _) = Some true
outcome (Err e) = refusal e

-- a call that has ended notes whether it succeeded
abbrev pub closing_event : Event → Event → Option Bool → List Noted
closing_event success failure (Some true) = Happened success ∷ []
closing_event success failure (Some false) = Happened failure ∷ []
closing_event success failure None = []

-- what a call notes round what the inner one notes, and what its poll notes after it
abbrev pub around : List ℕ → List ℕ → List ℕ → Option Bool → List Noted → List Noted
around attempt success failure ended inner = Happened (named attempt) ∷ (inner ++ closing_event (named success) (named failure) ended)

abbrev pub followed : List ℕ → List ℕ → Option Bool → List Noted → List Noted
followed success failure ended inner = inner ++ closing_event (named success) (named failure) ended

-- the count with these bytes
abbrev pub counted_bytes : ℕ → ℕ → ℕ
counted_bytes n more = (n + more) % 2 ^ 64

-- the count of a call that was not refused
abbrev pub count_if_ok : {A : Type 0} → Result A Error → ℕ → ℕ
count_if_ok (Ok _) count = count
count_if_ok (Err _) count = 0

-- how many bytes came
abbrev pub bytes_in : Poll Chunked → ℕ
bytes_in (Ready b) = length b.bytes
bytes_in Pending = 0

-- the count with the bytes of an answer
abbrev pub count_with : ℕ → Result (Poll Chunked) Error → ℕ
count_with n (Ok p) = counted_bytes n (bytes_in p)
count_with n (Err _) = n

abbrev pub count_with_reply : ℕ → Result (Reply (Poll Chunked)) Error → ℕ
count_with_reply n (Ok r) = counted_bytes n (bytes_in r.value)
count_with_reply n (Err _) = n

-- the bytes that came are a field of the event
abbrev pub receipt : Event → Poll Chunked → List Noted
receipt success (Ready b) = Happened (record success { fields = b.bytes ∷ [] }) ∷ []
receipt success Pending = []

abbrev pub receipt_of : Result (Poll Chunked) Error → List Noted
receipt_of (Ok p) = receipt (named (codes "recv_success")) p
receipt_of (Err e) = closing_event (named (codes "recv_success")) (named (codes "recv_failure")) (refusal e)

abbrev pub receipt_of_reply : Result (Reply (Poll Chunked)) Error → List Noted
receipt_of_reply (Ok r) = receipt_of (Ok r.value)
receipt_of_reply (Err e) = receipt_of (Err e)

-- An answer with other tokens in it.

abbrev pub with_listener : {A B : Type 0} → Result A Error → (A → B) → Result B Error
with_listener (Ok k) f = Ok (f k)
with_listener (Err e) f = Err e

abbrev pub with_halves : {A B C D : Type 0} → Result (Reply (A × B)) Error → (A → C) → (B → D) → Result (Reply (C × D)) Error
with_halves (Ok r) f g = Ok (record { value = (f r.value.0, g r.value.1); wake = r.wake; link = r.link })
with_halves (Err e) f g = Err e

abbrev pub with_taken : {A B C D : Type 0} → Result (Poll (Addr × A × B)) Error → (A → C) → (B → D) → Result (Poll (Addr × C × D)) Error
with_taken (Ok (Ready r)) f g = Ok (Ready (r.0, f r.1, g r.2))
with_taken (Ok Pending) f g = Ok Pending
with_taken (Err e) f g = Err e

-- the halves of a connection that is taken know its dialer
abbrev pub KnowDialer : {A B : Type 0} → Result (Poll (Addr × A × B)) Error → (A → Addr) → (B → Addr) → Type 0
KnowDialer (Ok (Ready r)) f g = (f r.1 ≡ r.0) × (g r.2 ≡ r.0)
KnowDialer (Ok Pending) f g = Unit {0}
KnowDialer (Err e) f g = Unit {0}
