-- When a writer's changes are kept by a crash, and what its calls leave of the other blobs of its store.
use Rattle.std.specs.Prelude.{◌≡◌, ℕ, Bool, true, false, ⊤, List, Option, Ok, Err}
use Rattle.rt_base.specs.declared.poll.Poll.TheVariants as poll
use Rattle.rt_buffer.specs.Calls.{Left}
use Rattle.rt_buffer.specs.declared.held.Held.{Held}
use Rattle.rt_buffer.specs.declared.sync_handle.Begun.{Begun}
use Rattle.rt_buffer.specs.declared.sync_handle.Begun.TheVariants as begun
use Rattle.rt_buffer.specs.declared.sync_state.SyncState.{SyncState}
use Rattle.rt_buffer.specs.declared.sync_state.SyncState.TheVariants.{Clean, Dirty, Started}
use Rattle.rt_buffer.specs.declared.write_op.Rest.{Rest}
use Rattle.rt_buffer.specs.declared.write_op.Rest.TheVariants as work
use Rattle.rt_buffer.specs.declared.write_op.Stepped.{Stepped}
use Rattle.rt_buffer.specs.declared.write_op.Stepped.TheVariants as step
use Rattle.rt_buffer.specs.Pieces.{chunks_written}
use Rattle.rt_buffer.specs.Steps.{Progress}
use Rattle.rt_buffer.specs.Tip.{Tip, laid_over}
use Rattle.rt_buffer.specs.Writing.{LiesOver, has_bytes}
use Rattle.rt_store.specs.Content.{resized}
use Rattle.rt_store.specs.declared.storage.Storage.{Ghosts}
use Rattle.rt_store.specs.declared.ticket.Ticket.{Ticket}
use Rattle.rt_store.specs.Durable.{IsDurable, Promises}

-- what a writer knows of the durability of its blob is so; of a sync that failed it knows nothing
abbrev pub KnowsState : {S B : Type 0} → (S → B → List ℕ) → (S → B → Option (List ℕ)) → (S → Ticket → B → Option (List ℕ)) → SyncState → S → B → Type 0
KnowsState bytes left promised Clean s b = IsDurable bytes left s b
KnowsState bytes left promised Dirty s b = ⊤
KnowsState bytes left promised (Started t) s b = Promises bytes left promised s t b

-- a change is open that no sync was started for
abbrev pub is_open : SyncState → Bool
is_open Clean = false
is_open Dirty = true
is_open (Started t) = false

-- a tip without bytes that begins at the end of a content
abbrev pub IsPast : Tip → List ℕ → Type 0
IsPast t content = (has_bytes t.bytes ≡ false) × LiesOver t content

-- a writer that holds no bytes back, whose tip begins at the end of its blob, and that knows that the blob is durable or will be
-- once the sync that it holds is done
abbrev pub HoldsSync : {S B : Type 0} → (S → B → List ℕ) → (S → B → Option (List ℕ)) → (S → Ticket → B → Option (List ℕ)) → Held → S → B → Type 0
HoldsSync bytes left promised h s b = IsPast h.tip (bytes s b) × (is_open h.state ≡ false) × KnowsState bytes left promised h.state s b

-- the same, and the blob has these bytes
abbrev pub HoldsBytes : {S B : Type 0} → (S → B → List ℕ) → (S → B → Option (List ℕ)) → (S → Ticket → B → Option (List ℕ)) → List ℕ → Held → S → B → Type 0
HoldsBytes bytes left promised content h s b = (bytes s b ≡ content) × HoldsSync bytes left promised h s b

-- the blob's bytes with the tip laid over them are these
abbrev pub Shows : {S B : Type 0} → (S → B → List ℕ) → (S → B → Option (List ℕ)) → (S → Ticket → B → Option (List ℕ)) → List ℕ → Held → S → B → Type 0
Shows bytes left promised content h s b = LiesOver h.tip (bytes s b) × (laid_over h.tip (bytes s b) ≡ content) × KnowsState bytes left promised h.state s b

-- a call that waits, and is to leave these bytes: a part of its work is still to be done on those that are shown, or all is done
abbrev pub Keeping : {S B : Type 0} → (S → B → List ℕ) → (S → B → Option (List ℕ)) → (S → Ticket → B → Option (List ℕ)) → List ℕ → Rest → Held → S → B → Type 0
Keeping bytes left promised content work.Sync h s b = Shows bytes left promised content h s b
Keeping bytes left promised content work.Start h s b = Shows bytes left promised content h s b
Keeping bytes left promised content work.Nothing h s b = HoldsBytes bytes left promised content h s b
Keeping bytes left promised content (work.Resize n) h s b = (shown : List ℕ) × (resized n shown ≡ content) × Shows bytes left promised shown h s b
Keeping bytes left promised content (work.Write p) h s b = (shown : List ℕ) × (chunks_written p.at p.chunks shown ≡ content) × Shows bytes left promised shown h s b

-- the call is done, and left these bytes: after a sync each crash leaves them, and after a start it will once that sync is done
abbrev pub Keeps : {S B : Type 0} → (S → B → List ℕ) → (S → B → Option (List ℕ)) → (S → Ticket → B → Option (List ℕ)) → List ℕ → Rest → Held → S → B → Type 0
Keeps bytes left promised content work.Sync h s b = HoldsBytes bytes left promised content h s b × IsDurable bytes left s b
Keeps bytes left promised content work.Start h s b = HoldsBytes bytes left promised content h s b
Keeps bytes left promised content work.Nothing h s b = HoldsBytes bytes left promised content h s b × IsDurable bytes left s b
Keeps bytes left promised content (work.Resize n) h s b = Shows bytes left promised content h s b
Keeps bytes left promised content (work.Write p) h s b = Shows bytes left promised content h s b

-- what a call came to, by what holds where it is done and where it waits
abbrev pub IfStepped : {W P : Type 0} → Stepped W P → (W → Type 0) → (P → Type 0) → Type 0
IfStepped (step.Done w) done waits = done w
IfStepped (step.Waiting p) done waits = waits p
IfStepped (step.Failed e) done waits = ⊤

abbrev pub IfBegun : {W P : Type 0} → Begun W P → (W → Type 0) → (P → Type 0) → Type 0
IfBegun (begun.Done w h) done waits = done w
IfBegun (begun.Waiting p) done waits = waits p
IfBegun (begun.Failed e) done waits = ⊤

-- the sync was asked for: it is done, and each crash leaves the bytes, or it is still held
abbrev pub Asked : {S B : Type 0} → (S → B → List ℕ) → (S → B → Option (List ℕ)) → (S → Ticket → B → Option (List ℕ)) → Progress → Held → S → B → Type 0
Asked bytes left promised (Ok (poll.Ready u)) h s b = HoldsSync bytes left promised h s b × IsDurable bytes left s b
Asked bytes left promised (Ok poll.Pending) h s b = HoldsSync bytes left promised h s b
Asked bytes left promised (Err e) h s b = ⊤

-- a call left each blob that is apart from the writer's as it was, and `after` says of which writers it is so again
abbrev pub OnOthers : {S B : Type 0} → Ghosts S B → SyncState → B → S → S → ((SyncState → Type 0) → Type 0) → Type 0
OnOthers c state b old new after =
    KnowsState c.bytes c.left c.promised state old b → Left c b old new × after (λ s. KnowsState c.bytes c.left c.promised s new b)
