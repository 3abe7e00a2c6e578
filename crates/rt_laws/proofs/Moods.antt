-- A root that pends where 1 is drawn completes where it isn't.
use Rattle.rt_laws.proofs.Prelude.{◌≡◌, ◌≢◌, ℕ, List, [], ◌∷◌, ◌++◌, ◌==◌, ◌∙◌, Some, false, if◌then◌else◌, length, refl, arith, codes, NextU64, CallReply, Number, Entry, CallEntry, Event, Wake, Draw, FinishCause, Completed, Drawn, Long, State, Turn, begun, after, after_all, Held, Plainly, Gives, Value, nothing, IsRun, small_begin}
use Rattle.rand_core.specs.Stream.{Stream, u32_call, u64_call, bytes_call, next_u32, next_u64, fill_bytes}
use Rattle.rt_audit.specs.declared.call.Call.{Call as CallOf}
use Rattle.rt_model.specs.declared.answer.Answer.TheVariants.{Pending, Ready}
use Rattle.rt_model.specs.Draws.{Short, Filled}
use Rattle.rt_model.specs.Effects.{drawn_called}
use Rattle.rt_machine.specs.Draws.{Gave}
use Rattle.rt_laws.specs.Drawing.{NeverGives, moody_root, number_of}
use Rattle.rt_laws.proofs.Completing.{Course, Completes, polling_gives}
use Rattle.rt_laws.proofs.Announcing.{polling_announces, number_told}
use Rattle.rt_laws.proofs.Drawings.{drawn_stays}
use Rattle.rt_laws.proofs.Valid.{with_state, first_polled, first_poll_known}

-- a call that draws no 1
abbrev pub IsOther : CallOf → CallReply → Type 0
IsOther NextU64 (Number number) = number ≢ 1
IsOther _ _ = Unit {0}

abbrev TurnsOther : List Turn → Type 0
TurnsOther [] = Unit {0}
TurnsOther (t ∷ ts) = IsOther t.call t.reply × TurnsOther ts

abbrev EntriesOther : List Entry → Type 0
EntriesOther [] = Unit {0}
EntriesOther (CallEntry by call reply ∷ x) = IsOther call reply × EntriesOther x
EntriesOther (e ∷ x) = EntriesOther x

turns-more : (ts : List Turn) (t : Turn) → TurnsOther ts → IsOther t.call t.reply → TurnsOther (ts ++ t ∷ [])
turns-more [] t a b = (b, tt)
turns-more (u ∷ ts) t a b = (a.0, turns-more ts t a.1 b)

onward : (s : State) (e : Entry) (x : List Entry) → TurnsOther s.turns × EntriesOther (e ∷ x) → TurnsOther (after s e).turns × EntriesOther x
unfolding after
onward s (CallEntry by call reply) x k = (turns-more s.turns (record { by = by; call = call; reply = reply; stood = s.stood }) k.0 k.1.0, k.1.1)
onward s (Wake task) x k = k
onward s (Event label fields) x k = k
onward s (Draw value) x k = k
onward s _ x k = (tt, k.1)

abbrev calm : Course (Unit {0}) ℕ
calm = record { steps = moody_root; Known = λ s x. TurnsOther s.turns × EntriesOther x; onward = onward; blind = λ drawn s x k. k }

abbrev announced : State
announced = after first_polled (Event (codes "rand") (codes "next_u64" ∷ []))

abbrev no_values : Held (Unit {0}) ℕ
no_values = nothing.held

drew : (number : ℕ) → Completes calm (after announced (CallEntry (Some 0) NextU64 (Number number))) (with_state tt)
unfolding begun after
drew number x cause r =
    let other : number ≢ 1 = r.known.0.0 in
    let e : (number == 1) ≡ false = grind arith in
    let s = after announced (CallEntry (Some 0) NextU64 (Number number)) in
    polling_gives calm s (with_state tt) refl 0 [] tt refl refl no_values (Ready 0) tt refl (λ text e. cc) (rw e ((refl, tt), (refl, refl))) (λ e. absurd (cc)) x cause r

draws : Completes calm first_polled (with_state tt)
unfolding begun after
draws =
    polling_announces calm first_polled (with_state tt) refl refl 0 [] tt refl refl no_values (Plainly NextU64) (λ drawn. Gives (if number_of drawn == 1 then Pending else Ready 0) tt) (codes "rand") (codes "next_u64" ∷ []) (refl, refl) (λ stood reply. refl)
    (number_told calm announced (with_state tt) (Some 0) (λ number fits. drew number))

calm-completes : (x : List Entry) (cause : FinishCause) (end : State) (value : Value (Unit {0}) ℕ) → IsRun moody_root small_begin x cause end value → EntriesOther x → cause ≡ Completed
unfolding begun
calm-completes x cause end value r k = first_poll_known calm tt refl draws x cause end value r (tt, k)

-- what a generator gave that never gives 1

abbrev DrawnOther : List Drawn → Type 0
DrawnOther [] = Unit {0}
DrawnOther (Long number ∷ ds) = (number ≢ 1) × DrawnOther ds
DrawnOther (d ∷ ds) = DrawnOther ds

gave-other : (stream left : Stream) (ds : List Drawn) → NeverGives 1 stream → Gave stream ds left → DrawnOther ds
unfolding next_u32 next_u64 fill_bytes
gave-other stream left [] n g = tt
gave-other stream left (Short number ∷ ds) n g = gave-other (next_u32 stream).1 left ds (λ calls. n (u32_call ∷ calls)) g.1
gave-other stream left (Long number ∷ ds) n g = (λ e. n [] (g.0 ∙ e), gave-other (next_u64 stream).1 left ds (λ calls. n (u64_call ∷ calls)) g.1)
gave-other stream left (Filled bytes ∷ ds) n g = gave-other (fill_bytes (length bytes) stream).1 left ds (λ calls. n (bytes_call (length bytes) ∷ calls)) g.1

last-other : (ds : List Drawn) (number : ℕ) (more : List Drawn) → DrawnOther ((ds ++ Long number ∷ []) ++ more) → number ≢ 1
last-other [] number more k = k.0
last-other (Long drawn ∷ ds) number more k = last-other ds number more k.1
last-other (d ∷ ds) number more k = last-other ds number more k

called-other : (call : CallOf) (reply : CallReply) (ds more : List Drawn) → DrawnOther (drawn_called ds call reply ++ more) → IsOther call reply
called-other NextU64 (Number number) ds more k = last-other ds number more k
called-other NextU64 _ ds more k = tt
called-other _ reply ds more k = tt

entries-other : (x : List Entry) (s : State) → DrawnOther (after_all s x).drawn → EntriesOther x
unfolding after
entries-other [] s k = tt
entries-other (CallEntry by call reply ∷ x) s k =
    let t = after s (CallEntry by call reply) in
    let stays = drawn_stays t [] x in
    (called-other call reply s.drawn stays.0 (rw stays.1 at k), entries-other x t k)
entries-other (e ∷ x) s k = entries-other x (after s e) k

pub valid_for : (stream left : Stream) → NeverGives 1 stream → (x : List Entry) (cause : FinishCause) (end : State) (value : Value (Unit {0}) ℕ) → IsRun moody_root small_begin x cause end value → Gave stream (after_all (begun small_begin) x).drawn left → cause ≡ Completed
valid_for stream left n x cause end value r g =
    calm-completes x cause end value r (entries-other x (begun small_begin) (gave-other stream left (after_all (begun small_begin) x).drawn n g))
