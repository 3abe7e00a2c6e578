-- What a call leaves of what the `recv`s that wait asked for.
use Rattle.rt_net.proofs.Prelude.{◌≡◌, ◌≢◌, ℕ, zero, suc, ◌+◌, ◌<◌, min, max, Bool, true, false, List, [], ◌∷◌, ◌++◌, Option, Some, None, Result, Ok, Err, refl, sym, ap, ◌∙◌, subst, arith, inl, inr, ◌⊎◌, slice_get, slice_set, if◌then◌else◌, Error, NoMemory, Poll, Ready, Pending, Connection, Parked, asked_of, ChannelState, fresh, started_length, left, appended, handed, is_receivable, after_send, after_poll_send, closed_sink, closed_stream, if_lives, has_sink, live_stream, at, at_sink, with_closed_sink, with_closed, after_closing, Kept}
use Rattle.rt_net.proofs.Live.{IsRead, stands, read-there}

-- One place of a list is changed.

set-at : {X : Type 0} (xs : List X) (n m : ℕ) (y : X) → (slice_get (slice_set xs n y) m ≡ slice_get xs m) ⊎ ((n ≡ m) × (slice_get (slice_set xs n y) m ≡ Some y))
set-at [] n m y = inl refl
set-at (z ∷ zs) zero zero y = inr (refl, refl)
set-at (z ∷ zs) zero (suc m) y = inl refl
set-at (z ∷ zs) (suc n) zero y = inl refl
set-at (z ∷ zs) (suc n) (suc m) y = elim (set-at zs n m y) [ inl e ↦ inl e | inr h ↦ inr (ap suc h.0, h.1) ]

kept-set : {X : Type 0} (g : Option X → ℕ) (xs : List X) (n m : ℕ) (x y : X) → slice_get xs n ≡ Some x → g (Some y) ≡ g (Some x) → g (slice_get (slice_set xs n y) m) ≡ g (slice_get xs m)
kept-set g xs n m x y e h = elim (set-at xs n m y) [ inl s ↦ ap g s | inr s ↦ ap g s.1 ∙ h ∙ sym (ap g e) ∙ ap (λ i. g (slice_get xs i)) s.0 ]

other-set : {X : Type 0} (xs : List X) (n m : ℕ) (y : X) → m ≢ n → slice_get (slice_set xs n y) m ≡ slice_get xs m
other-set xs n m y d = elim (set-at xs n m y) [ inl s ↦ s | inr s ↦ absurd (d (sym s.0)) ]

gone-set : {X : Type 0} (g : Option X → ℕ) (xs : List X) (n m : ℕ) (y : X) → g (Some y) ≡ 0 → 0 < g (slice_get (slice_set xs n y) m) → g (slice_get (slice_set xs n y) m) ≡ g (slice_get xs m)
gone-set g xs n m y h w = elim (set-at xs n m y) [ inl s ↦ ap g s | inr s ↦ (let none = ap g s.1 ∙ h in absurd (omega (arith, none, w))) ]

-- The same of a call on a live half, which asks no other length at its own channel, or is at another one.

kept-at : (cs : List ChannelState) (n m : ℕ) (f : ChannelState → ChannelState) (o : Option ChannelState) → ((c : ChannelState) → started_length (f c) ≡ started_length c) → ((c : ChannelState) → o ≡ Some c → slice_get cs n ≡ Some c) → asked_of (slice_get (at cs n f o) m) ≡ asked_of (slice_get cs m)
kept-at cs n m f None same is = refl
kept-at cs n m f (Some c) same is = kept-set asked_of cs n m c (f c) (is c refl) (same c)

keeps-asked : (cs : List ChannelState) (n m : ℕ) (f : ChannelState → ChannelState) → ((c : ChannelState) → started_length (f c) ≡ started_length c) → asked_of (slice_get (at_sink cs n f) m) ≡ asked_of (slice_get cs m)
keeps-asked cs n m f same = kept-at cs n m f (if_lives has_sink (slice_get cs n)) same (λ c e. stands has_sink (slice_get cs n) c e)

other-at : (cs : List ChannelState) (n m : ℕ) (f : ChannelState → ChannelState) (o : Option ChannelState) → m ≢ n → slice_get (at cs n f o) m ≡ slice_get cs m
other-at cs n m f None d = refl
other-at cs n m f (Some c) d = other-set cs n m (f c) d

-- Contracts name the network before a call itself, which is what the code keeps.

across : (old now : Kept) (new made : List ChannelState) (m : ℕ) → old ≡ now → new ≡ made → asked_of (slice_get made m) ≡ asked_of (slice_get old.state.channels m) → asked_of (slice_get new m) ≡ asked_of (slice_get now.state.channels m)
across old now new made m is after kept = ap (λ ks. asked_of (slice_get ks m)) after ∙ kept ∙ ap (λ (v : Kept). asked_of (slice_get v.state.channels m)) is

pub sink-kept : (old now : Kept) (new : List ChannelState) (n m : ℕ) (f : ChannelState → ChannelState) → old ≡ now → new ≡ at_sink old.state.channels n f → ((c : ChannelState) → started_length (f c) ≡ started_length c) → asked_of (slice_get new m) ≡ asked_of (slice_get now.state.channels m)
sink-kept old now new n m f is after same = across old now new (at_sink old.state.channels n f) m is after (keeps-asked old.state.channels n m f same)

pub sink-left : (old now : Kept) (new : List ChannelState) (n m : ℕ) (c d : ChannelState) → old ≡ now → IsRead has_sink old.state.channels n c → new ≡ slice_set old.state.channels n d → started_length d ≡ started_length c → asked_of (slice_get new m) ≡ asked_of (slice_get now.state.channels m)
sink-left old now new n m c d is read after same = across old now new (slice_set old.state.channels n d) m is after (kept-set asked_of old.state.channels n m c d (read-there has_sink old.state.channels n c read) same)

pub others-kept : (old now : Kept) (new : List ChannelState) (n m : ℕ) (f : ChannelState → ChannelState) (o : Option ChannelState) → old ≡ now → new ≡ at old.state.channels n f o → m ≢ n → asked_of (slice_get new m) ≡ asked_of (slice_get now.state.channels m)
others-kept old now new n m f o is after d = across old now new (at old.state.channels n f o) m is after (ap asked_of (other-at old.state.channels n m f o d))

-- The calls on a sink.

either-kept : (b : Bool) (c d : ChannelState) → started_length d ≡ started_length c → started_length (if b then d else c) ≡ started_length c
either-kept true c d e = e
either-kept false c d e = refl

handed-kept : (c : ChannelState) (o : Option Parked) → started_length (handed c o) ≡ started_length c
handed-kept c None = refl
handed-kept c (Some w) = either-kept (is_receivable c w.need) c (record c { taken = c.taken + min (left c) (max w.need c.buffer_size); receiver = None }) refl

pub send-kept : (c : ChannelState) (bytes : List ℕ) (task : ℕ) (r : Result (Poll Unit) Error) → started_length (after_send c bytes task r) ≡ started_length c
send-kept c bytes task (Ok (Ready u)) = handed-kept (appended c bytes) c.receiver
send-kept c bytes task (Ok Pending) = handed-kept (appended c bytes) c.receiver
send-kept c bytes task (Err NoMemory) = refl
send-kept c bytes task (Err e) = refl

pub poll-send-kept : (c : ChannelState) (task : ℕ) (r : Result (Poll Unit) Error) → started_length (after_poll_send c task r) ≡ started_length c
poll-send-kept c task (Ok (Ready u)) = refl
poll-send-kept c task (Ok Pending) = refl
poll-send-kept c task (Err e) = refl

-- New channels.

pub added-asked : (cs : List ChannelState) (m : ℕ) → asked_of (slice_get (cs ++ fresh 65536 ∷ fresh 65536 ∷ []) m) ≡ asked_of (slice_get cs m)
added-asked [] zero = refl
added-asked [] (suc zero) = refl
added-asked [] (suc (suc m)) = refl
added-asked (c ∷ cs) zero = refl
added-asked (c ∷ cs) (suc m) = added-asked cs m

-- The closing of connections ends the waits at their streams, and leaves the others.

gone-at : (cs : List ChannelState) (n m : ℕ) (o : Option ChannelState) → 0 < asked_of (slice_get (at cs n closed_stream o) m) → asked_of (slice_get (at cs n closed_stream o) m) ≡ asked_of (slice_get cs m)
gone-at cs n m None w = refl
gone-at cs n m (Some c) w = gone-set asked_of cs n m (closed_stream c) refl w

connection-asked : (cs : List ChannelState) (c : Connection) (m : ℕ) → 0 < asked_of (slice_get (with_closed cs c) m) → asked_of (slice_get (with_closed cs c) m) ≡ asked_of (slice_get cs m)
connection-asked cs c m w =
    let mid = with_closed_sink cs c.sink in
    gone-at mid c.stream m (live_stream mid c.stream) w ∙ keeps-asked cs c.sink m closed_sink (λ d. refl)

closing-asked : (cs : List ChannelState) (xs : List Connection) (m : ℕ) → 0 < asked_of (slice_get (after_closing cs xs) m) → asked_of (slice_get (after_closing cs xs) m) ≡ asked_of (slice_get cs m)
closing-asked cs [] m w = refl
closing-asked cs (c ∷ rest) m w =
    let later = closing-asked (with_closed cs c) rest m w in
    later ∙ connection-asked cs c m (subst (λ (k : ℕ). 0 < k) later w)

pub closing-kept : (old now : Kept) (new : List ChannelState) (xs : List Connection) (m : ℕ) → old ≡ now → new ≡ after_closing old.state.channels xs → 0 < asked_of (slice_get new m) → asked_of (slice_get new m) ≡ asked_of (slice_get now.state.channels m)
closing-kept old now new xs m is after w = across old now new (after_closing old.state.channels xs) m is after (closing-asked old.state.channels xs m (subst (λ (ks : List ChannelState). 0 < asked_of (slice_get ks m)) after w))
