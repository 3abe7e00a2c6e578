-- What a store keeps of its blobs, it keeps too where it is seen through another one.
use Rattle.rt_buffer.proofs.Prelude.{◌≡◌, sym, ℕ, List, Option, Result, Ok, Err, Error, WriteOptions, Chunked, Done, Now, Gated, Ticket, Ready, Numbered, IsOf, KeepsPoll, KeepsStart, KeepsSync, KeepsWrite, Leaves, LeavesAll, OfOne, OpensApart, Promises, SavedBy, StayApart}

module _ {S T B C : Type 0} (seen : S → T) (blob : B → C) (bytes : T → C → List ℕ) (left : T → C → Option (List ℕ)) (promised : T → Ticket → C → Option (List ℕ)) where
  abbrev seen_bytes : S → B → List ℕ
  seen_bytes s b = bytes (seen s) (blob b)

  abbrev seen_left : S → B → Option (List ℕ)
  seen_left s b = left (seen s) (blob b)

  abbrev seen_promised : S → Ticket → B → Option (List ℕ)
  seen_promised s t b = promised (seen s) t (blob b)

  hopes : (s : S) (t : Ticket) (b : B) → Promises seen_bytes seen_left seen_promised s t b → Promises bytes left promised (seen s) t (blob b)
  hopes s (Ready (Ok u)) b is = is
  hopes s (Ready (Err e)) b is = is
  hopes s (Numbered n) b is = is

  seen_hopes : (s : S) (t : Ticket) (b : B) → Promises bytes left promised (seen s) t (blob b) → Promises seen_bytes seen_left seen_promised s t b
  seen_hopes s (Ready (Ok u)) b is = is
  seen_hopes s (Ready (Err e)) b is = is
  seen_hopes s (Numbered n) b is = is

  saved : (s : S) (d : Done) (b : B) → SavedBy bytes left promised (seen s) d (blob b) → SavedBy seen_bytes seen_left seen_promised s d b
  saved s Now b is = is
  saved s (Gated t) b is = seen_hopes s t b is

  pub seen_write : (s new : S) (b : B) (at : ℕ) (w : Chunked) (options : WriteOptions) (r : Result Done Error) → KeepsWrite bytes left promised (seen s) (blob b) at w options r (seen new) → KeepsWrite seen_bytes seen_left seen_promised s b at w options r new
  seen_write s new b at w options (Ok d) keeps = (keeps.0, λ durably durable. saved new d b (keeps.1 durably durable))
  seen_write s new b at w options (Err e) keeps = tt

  pub seen_sync : (s new : S) (b : B) (r : Result Done Error) → KeepsSync bytes left promised (seen s) (blob b) r (seen new) → KeepsSync seen_bytes seen_left seen_promised s b r new
  seen_sync s new b (Ok d) keeps = (keeps.0, saved new d b keeps.1)
  seen_sync s new b (Err e) keeps = (keeps.0, tt)

  pub seen_start : (s new : S) (b : B) (r : Result Ticket Error) → KeepsStart bytes left promised (seen s) (blob b) r (seen new) → KeepsStart seen_bytes seen_left seen_promised s b r new
  seen_start s new b (Ok t) keeps = (keeps.0, seen_hopes new t b keeps.1)
  seen_start s new b (Err e) keeps = tt

  pub seen_poll : (s new : S) (t held : Ticket) → KeepsPoll bytes left promised (seen s) t (seen new) held → KeepsPoll seen_bytes seen_left seen_promised s t new held
  seen_poll s new t held keeps b is = let kept = keeps (blob b) (hopes s t b is) in (kept.0, seen_hopes new held b kept.1)

  seen_of : (s : S) (t : Ticket) (b : B) → IsOf seen_promised s t b → IsOf promised (seen s) t (blob b)
  seen_of s (Ready r) b is = tt
  seen_of s (Numbered n) b is = is

  module _ (apart : T → C → C → Type 0) (opened : T → C → Type 0) where
    abbrev seen_apart : S → B → B → Type 0
    seen_apart s a b = apart (seen s) (blob a) (blob b)

    abbrev seen_opened : S → B → Type 0
    seen_opened s b = opened (seen s) (blob b)

    pub seen_one : (s : S) (t : Ticket) → OfOne promised apart (seen s) t → OfOne seen_promised seen_apart s t
    seen_one s (Ready r) one = tt
    seen_one s (Numbered n) one = λ a b l k away first second. one (blob a) (blob b) l k away first second

    seen_stay : (s new : S) → StayApart apart opened (seen s) (seen new) → StayApart seen_apart seen_opened s new
    seen_stay s new stay = ((λ e b away. stay.0 (blob e) (blob b) away), (λ b are. stay.1 (blob b) are))

    pub seen_leaves : (a : B) (s new : S) → Leaves bytes left promised apart opened (blob a) (seen s) (seen new) → Leaves seen_bytes seen_left seen_promised seen_apart seen_opened a s new
    seen_leaves a s new leaves = ((λ b away. leaves.0 (blob b) away), seen_stay s new leaves.1)

    pub seen_all : (s new : S) → LeavesAll bytes left promised apart opened (seen s) (seen new) → LeavesAll seen_bytes seen_left seen_promised seen_apart seen_opened s new
    seen_all s new leaves = ((λ b. leaves.0 (blob b)), seen_stay s new leaves.1)

    pub seen_ticket : (s new : S) (t : Ticket) → ((b : C) → IsOf promised (seen s) t b → Leaves bytes left promised apart opened b (seen s) (seen new)) → (b : B) → IsOf seen_promised s t b
        → Leaves seen_bytes seen_left seen_promised seen_apart seen_opened b s new
    seen_ticket s new t leaves b is = seen_leaves b s new (leaves (blob b) (seen_of s t b is))

    pub seen_numbers : {A : Type 0} (token : A → B) (s new : S) (r : Result A Error) → OpensApart bytes left promised apart opened (λ (a : A). blob (token a)) (seen s) r (seen new) → OpensApart seen_bytes seen_left seen_promised seen_apart seen_opened token s r new
    seen_numbers token s new (Ok a) keeps =
        let made = keeps.2 in
        ((λ b are. keeps.0 (blob b) are), (λ e b one two away. keeps.1 (blob e) (blob b) one two away), (made.0, (λ b are. made.1 (blob b) are)))
    seen_numbers token s new (Err e) keeps = ((λ b are. keeps.0 (blob b) are), (λ e b one two away. keeps.1 (blob e) (blob b) one two away), tt)

    -- an open that is seen with an answer of another type
    module _ {X A : Type 0} (inner : X → C) (token : A → B) where
      pub seen_opens : (s new : S) (x : X) (a : A) → inner x ≡ blob (token a) → OpensApart bytes left promised apart opened inner (seen s) (Ok x) (seen new) → OpensApart seen_bytes seen_left seen_promised seen_apart seen_opened token s (Ok a) new
      seen_opens s new x a is keeps =
          let made = keeps.2 in
          ((λ b are. keeps.0 (blob b) are), (λ e b one two away. keeps.1 (blob e) (blob b) one two away), (rw (sym is) made.0, (λ b are. rw (sym is) (made.1 (blob b) are))))

      pub seen_refuses : (s new : S) (e f : Error) → OpensApart bytes left promised apart opened inner (seen s) (Err e) (seen new) → OpensApart seen_bytes seen_left seen_promised seen_apart seen_opened token s (Err f) new
      seen_refuses s new e f keeps = ((λ b are. keeps.0 (blob b) are), (λ e b one two away. keeps.1 (blob e) (blob b) one two away), tt)
