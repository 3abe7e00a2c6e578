-- A `recv` that waits keeps its length, and is answered by so many bytes.
use Rattle.rt_net.proofs.Prelude.{◌≡◌, ℕ, zero, suc, true, List, [], ◌∷◌, Some, Result, Ok, Err, refl, sym, ap, ◌∙◌, subst, IfOk, slice_get, slice_set, Error, RecvFailed, Poll, Ready, Pending, Chunked, Reply, HasLength, AreThere, asked_of, unread_of, ChannelState, Answers, PollsReceive, pulled, after_answer, after_recv, after_poll_recv, started_length, unread, live_stream, has_stream, is_not_ready, waits, still_waits, Kept}
use Rattle.std.specs.Prelude.{length}
use Rattle.rt_net.proofs.Live.{IsRead, live-there, read-there}

get-set : {X : Type 0} (xs : List X) (n : ℕ) (x y : X) → slice_get xs n ≡ Some x → slice_get (slice_set xs n y) n ≡ Some y
get-set [] n x y e = absurd (cc)
get-set (z ∷ zs) zero x y e = refl
get-set (z ∷ zs) (suc n) x y e = get-set zs n x y e

answers-length : (c : ChannelState) (len : ℕ) (p : Poll Chunked) → Answers c len p → HasLength len p
answers-length c len (Ready b) h = h.1
answers-length c len Pending h = tt

-- Contracts name the network before a call itself, which is what the code keeps. A call reads its channel there.

asks : (old now : Kept) (n : ℕ) (c : ChannelState) → old ≡ now → IsRead has_stream old.state.channels n c → started_length c ≡ asked_of (slice_get now.state.channels n)
asks old now n c is read = sym (ap asked_of (read-there has_stream old.state.channels n c read)) ∙ ap (λ (v : Kept). asked_of (slice_get v.state.channels n)) is

pub unread-there : (old now : Kept) (n : ℕ) (c : ChannelState) → old ≡ now → IsRead has_stream old.state.channels n c → length (unread c) ≡ unread_of (live_stream now.state.channels n)
unread-there old now n c is read = sym (ap unread_of (live-there has_stream old.state.channels n c read)) ∙ ap (λ (v : Kept). unread_of (live_stream v.state.channels n)) is

pub polls-length : (old now : Kept) (n : ℕ) (c : ChannelState) (r : Result (Poll Chunked) Error) → old ≡ now → IsRead has_stream old.state.channels n c → PollsReceive c r → IfOk r (HasLength (asked_of (slice_get now.state.channels n)))
polls-length old now n c (Ok p) is read h = subst (λ m. HasLength m p) (asks old now n c is read) (answers-length c (started_length c) p h)
polls-length old now n c (Err e) is read h = tt

pub receives-there : (old now : Kept) (n len : ℕ) (c : ChannelState) (r : Result (Reply (Poll Chunked)) Error) → old ≡ now → IsRead has_stream old.state.channels n c → IfOk r (λ x. AreThere len (length (unread c)) x.value) → IfOk r (λ x. AreThere len (unread_of (live_stream now.state.channels n)) x.value)
receives-there old now n len c r is read h = subst (λ k. IfOk r (λ x. AreThere len k x.value)) (unread-there old now n c is read) h

pub polls-there : (old now : Kept) (n : ℕ) (c : ChannelState) (r : Result (Poll Chunked) Error) → old ≡ now → IsRead has_stream old.state.channels n c → IfOk r (AreThere (started_length c) (length (unread c))) → IfOk r (AreThere (asked_of (slice_get now.state.channels n)) (unread_of (live_stream now.state.channels n)))
polls-there old now n c r is read h =
    let there = unread-there old now n c is read in
    subst (λ k. IfOk r (AreThere k (unread_of (live_stream now.state.channels n)))) (asks old now n c is read) (subst (λ k. IfOk r (AreThere (started_length c) k)) there h)

-- what waits has the length that was asked for

pending-asks : (c : ChannelState) (len task : ℕ) (p : Poll Chunked) → is_not_ready p ≡ true → started_length (after_answer c len task p) ≡ len
pending-asks c len task Pending w = refl
pending-asks c len task (Ready b) w = absurd (cc)

recv-asks : (c : ChannelState) (len task : ℕ) (r : Result (Reply (Poll Chunked)) Error) → waits r ≡ true → started_length (after_recv c len task r) ≡ len
recv-asks c len task (Ok x) w = pending-asks (pulled c len) len task x.value w
recv-asks c len task (Err e) w = absurd (cc)

poll-asks : (c : ChannelState) (task : ℕ) (r : Result (Poll Chunked) Error) → PollsReceive c r → still_waits r ≡ true → started_length (after_poll_recv c task r) ≡ started_length c
poll-asks c task (Ok Pending) h w = refl
poll-asks c task (Ok (Ready b)) h w = absurd (cc)
poll-asks c task (Err RecvFailed) h w = absurd (cc)
poll-asks c task (Err e) h w = absurd h

left-asks : (cs new : List ChannelState) (n : ℕ) (c d : ChannelState) → IsRead has_stream cs n c → new ≡ slice_set cs n d → asked_of (slice_get new n) ≡ started_length d
left-asks cs new n c d read after = ap (λ ks. asked_of (slice_get ks n)) after ∙ ap asked_of (get-set cs n c d (read-there has_stream cs n c read))

pub receives-asks : (cs new : List ChannelState) (n len task : ℕ) (c d : ChannelState) (r : Result (Reply (Poll Chunked)) Error) → IsRead has_stream cs n c → new ≡ slice_set cs n d → d ≡ after_recv c len task r → waits r ≡ true → asked_of (slice_get new n) ≡ len
receives-asks cs new n len task c d r read after made w = left-asks cs new n c d read after ∙ ap started_length made ∙ recv-asks c len task r w

pub polls-ask : (old now : Kept) (new : List ChannelState) (n task : ℕ) (c d : ChannelState) (r : Result (Poll Chunked) Error) → old ≡ now → IsRead has_stream old.state.channels n c → new ≡ slice_set old.state.channels n d → d ≡ after_poll_recv c task r → PollsReceive c r → still_waits r ≡ true → asked_of (slice_get new n) ≡ asked_of (slice_get now.state.channels n)
polls-ask old now new n task c d r is read after made h w = left-asks old.state.channels new n c d read after ∙ ap started_length made ∙ poll-asks c task r h w ∙ asks old now n c is read
