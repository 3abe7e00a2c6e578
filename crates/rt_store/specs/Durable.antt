-- What the calls of a store keep of its blobs, by a crash. `bytes` is what a blob has, `left` what each crash leaves of it, if that is
-- one list, `promised` what each crash leaves once the sync of a ticket with a number is done, `apart` says which blobs have nothing to do
-- with each other, and `opened` which were given out by an open.
use Rattle.std.specs.Prelude.{◌≡◌, ℕ, true, false, ⊤, List, take, drop, Option, Some, Result, Ok, Err, IfOk}
use Rattle.rt_base.specs.declared.error.Error.{Error}
use Rattle.rt_base.specs.declared.options.WriteOptions.{WriteOptions}
use Rattle.rt_bufs.specs.Chunked.{Chunked}
use Rattle.rt_bufs.specs.WritableChunks.{WritableChunks}
use Rattle.rt_store.specs.Content.{resized, written}
use Rattle.rt_store.specs.declared.ticket.Done.{Done}
use Rattle.rt_store.specs.declared.ticket.Done.TheVariants.{Now, Gated}
use Rattle.rt_store.specs.declared.ticket.Ticket.{Ticket}
use Rattle.rt_store.specs.declared.ticket.Ticket.TheVariants.{Ready, Numbered}

-- each crash leaves exactly the bytes of the blob
abbrev pub IsDurable : {S B : Type 0} → (S → B → List ℕ) → (S → B → Option (List ℕ)) → S → B → Type 0
IsDurable bytes left s b = left s b ≡ Some (bytes s b)

-- it does, once the sync of this ticket is done: at once where that is done, and never where it failed
abbrev pub Promises : {S B : Type 0} → (S → B → List ℕ) → (S → B → Option (List ℕ)) → (S → Ticket → B → Option (List ℕ)) → S → Ticket → B → Type 0
Promises bytes left promised s (Ready (Ok u)) b = IsDurable bytes left s b
Promises bytes left promised s (Ready (Err e)) b = ⊤
Promises bytes left promised s (Numbered n) b = promised s (Numbered n) b ≡ Some (bytes s b)

-- a change of the blob is saved by its answer, or once its ticket is done
abbrev pub SavedBy : {S B : Type 0} → (S → B → List ℕ) → (S → B → Option (List ℕ)) → (S → Ticket → B → Option (List ℕ)) → S → Done → B → Type 0
SavedBy bytes left promised s Now b = IsDurable bytes left s b
SavedBy bytes left promised s (Gated t) b = Promises bytes left promised s t b

-- The blob of a call.

abbrev pub KeepsRead : {S B : Type 0} → (S → B → List ℕ) → S → B → ℕ → ℕ → Result WritableChunks Error → S → Type 0
KeepsRead bytes s b offset len r new = (bytes new b ≡ bytes s b) × IfOk r (λ f. f.bytes ≡ take len (drop offset (bytes s b)))

-- a durable write of a blob that is durable saves it
abbrev pub KeepsWrite : {S B : Type 0} → (S → B → List ℕ) → (S → B → Option (List ℕ)) → (S → Ticket → B → Option (List ℕ)) → S → B → ℕ → Chunked → WriteOptions → Result Done Error → S → Type 0
KeepsWrite bytes left promised s b at w options r new =
    IfOk r (λ d. (bytes new b ≡ written at w.bytes (bytes s b)) × (options.sync ≡ true → IsDurable bytes left s b → SavedBy bytes left promised new d b))

abbrev pub KeepsResize : {S B : Type 0} → (S → B → List ℕ) → S → B → ℕ → Result Unit Error → S → Type 0
KeepsResize bytes s b len r new = IfOk r (λ u. bytes new b ≡ resized len (bytes s b))

abbrev pub KeepsSync : {S B : Type 0} → (S → B → List ℕ) → (S → B → Option (List ℕ)) → (S → Ticket → B → Option (List ℕ)) → S → B → Result Done Error → S → Type 0
KeepsSync bytes left promised s b r new = (bytes new b ≡ bytes s b) × IfOk r (λ d. SavedBy bytes left promised new d b)

abbrev pub KeepsStart : {S B : Type 0} → (S → B → List ℕ) → (S → B → Option (List ℕ)) → (S → Ticket → B → Option (List ℕ)) → S → B → Result Ticket Error → S → Type 0
KeepsStart bytes left promised s b r new = IfOk r (λ t. (bytes new b ≡ bytes s b) × Promises bytes left promised new t b)

-- a poll changes no byte of a blob of which its ticket promises something, and keeps the promise
abbrev pub KeepsPoll : {S B : Type 0} → (S → B → List ℕ) → (S → B → Option (List ℕ)) → (S → Ticket → B → Option (List ℕ)) → S → Ticket → S → Ticket → Type 0
KeepsPoll {B = B} bytes left promised s t new held =
    (b : B) → Promises bytes left promised s t b → (bytes new b ≡ bytes s b) × Promises bytes left promised new held b

-- The other blobs.

-- a blob is as it was: its bytes, what each crash leaves of them, and what is promised of it
abbrev pub Stays : {S B : Type 0} → (S → B → List ℕ) → (S → B → Option (List ℕ)) → (S → Ticket → B → Option (List ℕ)) → B → S → S → Type 0
Stays bytes left promised b s new =
    (bytes new b ≡ bytes s b) × (left new b ≡ left s b) × ((n : ℕ) (l : List ℕ) → promised s (Numbered n) b ≡ Some l → promised new (Numbered n) b ≡ Some l)

-- two blobs that were apart still are, and one that was given out still counts as that
abbrev pub StayApart : {S B : Type 0} → (S → B → B → Type 0) → (S → B → Type 0) → S → S → Type 0
StayApart {B = B} apart opened s new = ((a b : B) → apart s a b → apart new a b) × ((b : B) → opened s b → opened new b)

-- a call on this blob leaves each one that is apart from it as it was, whatever it answers
abbrev pub Leaves : {S B : Type 0} → (S → B → List ℕ) → (S → B → Option (List ℕ)) → (S → Ticket → B → Option (List ℕ)) → (S → B → B → Type 0) → (S → B → Type 0) → B → S → S → Type 0
Leaves {B = B} bytes left promised apart opened a s new = ((b : B) → apart s a b → Stays bytes left promised b s new) × StayApart apart opened s new

-- a call leaves each blob as it was
abbrev pub LeavesAll : {S B : Type 0} → (S → B → List ℕ) → (S → B → Option (List ℕ)) → (S → Ticket → B → Option (List ℕ)) → (S → B → B → Type 0) → (S → B → Type 0) → S → S → Type 0
LeavesAll {B = B} bytes left promised apart opened s new = ((b : B) → Stays bytes left promised b s new) × StayApart apart opened s new

-- an open leaves each blob that was given out as it was, also where it is refused, and gives one out that is apart from all of them
abbrev pub OpensApart : {S B A : Type 0} → (S → B → List ℕ) → (S → B → Option (List ℕ)) → (S → Ticket → B → Option (List ℕ)) → (S → B → B → Type 0) → (S → B → Type 0) → (A → B) → S → Result A Error → S → Type 0
OpensApart {B = B} bytes left promised apart opened token s r new =
    ((b : B) → opened s b → Stays bytes left promised b s new × opened new b)
    × ((a b : B) → opened s a → opened s b → apart s a b → apart new a b)
    × IfOk r (λ a. opened new (token a) × ((b : B) → opened s b → apart new (token a) b))

-- a write that needn't be durable, whose ticket is given up at once
abbrev pub LeavesWhenGivenUp : {S B : Type 0} → (S → B → List ℕ) → (S → B → Option (List ℕ)) → (S → Ticket → B → Option (List ℕ)) → (S → B → B → Type 0) → (S → B → Type 0) → (S → Ticket → S → Type 0) → S → B → WriteOptions → Result Done Error → S → Type 0
LeavesWhenGivenUp {S = S} bytes left promised apart opened gives_up s b options r new =
    (t : Ticket) (after : S) → options.sync ≡ false → r ≡ Ok (Gated t) → gives_up new t after → (bytes after b ≡ bytes new b) × Leaves bytes left promised apart opened b s after

-- a ticket is one of this blob, or ready and so of none
abbrev pub IsOf : {S B : Type 0} → (S → Ticket → B → Option (List ℕ)) → S → Ticket → B → Type 0
IsOf promised s (Ready r) b = ⊤
IsOf promised s (Numbered n) b = (l : List ℕ) × (promised s (Numbered n) b ≡ Some l)

-- a ticket with a number is one of no two blobs that are apart
abbrev pub OfOne : {S B : Type 0} → (S → Ticket → B → Option (List ℕ)) → (S → B → B → Type 0) → S → Ticket → Type 0
OfOne promised apart s (Ready r) = ⊤
OfOne {B = B} promised apart s (Numbered n) =
    (a b : B) (l k : List ℕ) → apart s a b → promised s (Numbered n) a ≡ Some l → promised s (Numbered n) b ≡ Some k → ⊥
