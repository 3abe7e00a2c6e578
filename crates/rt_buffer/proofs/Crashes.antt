-- What a crash of a store in memory leaves of a blob of which no change is open.
use Rattle.rt_buffer.proofs.Prelude.{◌≡◌, ◌==◌, ℕ, Bool, true, false, List, [], ◌∷◌, slice_set, slice_get, Option, Some, None, Result, Ok, Err, refl, sym, ap, ◌∙◌, subst, eqb-false, eqb-true, Choice, Error, Poll, BlobVersion, blob_of, all_crashed, choices_after, crashed_at, Blob, Mutation, named_numbers, IsDurable, FileState, crashed, Kept, left_of, memory_bytes, memory_left, memory_promised, at_blob, if_open, is_token, Held, Stepped, Asked, IfStepped, Keeps, CrashLeaves, MemoryKeeps, answer_of}
use Rattle.rt_base.specs.declared.poll.Poll.TheVariants as poll
use Rattle.rt_buffer.proofs.Lists.{set_here, set_other}
use Rattle.rt_buffer.specs.declared.write_op.Rest.TheVariants as work
use Rattle.rt_buffer.specs.declared.write_op.Stepped.TheVariants as step

open_here : (n : ℕ) (b c : FileState) (yes : Bool) → is_token n b.token ≡ yes → if_open n (Some b) ≡ Some c → (b ≡ c) × (is_token n b.token ≡ true)
open_here n b c true is e = (cc, is)
open_here n b c false is e = let none : if_open n (Some b) ≡ None = rw is refl in absurd (cc)

is_open_at : (n : ℕ) (o : Option FileState) (b : FileState) → if_open n o ≡ Some b → (o ≡ Some b) × (is_token n b.token ≡ true)
is_open_at n None b e = absurd (cc)
is_open_at n (Some a) b e = let h = open_here n a b (is_token n a.token) refl e in (ap (λ (f : FileState). Some f) h.0, rw (sym h.0) h.1)

-- these bytes stand at a place, and no change of them is open
abbrev Rests : List ℕ → FileState → Type 0
Rests bytes b = (b.content ≡ bytes) × (b.base ≡ bytes) × (b.later ≡ [])

abbrev Stands : List ℕ → ℕ → List FileState → Type 0
Stands bytes place files = (b : FileState) × (slice_get files place ≡ Some b) × Rests bytes b

rests_crashed : (bytes : List ℕ) (choices : List Choice) (b : FileState) → Rests bytes b → Rests bytes (crashed choices b)
rests_crashed bytes choices b rests = rw rests.2 (rests.1, rests.1, refl)

at_stands : (bytes : List ℕ) (files : List FileState) (i place : ℕ) (choices : List Choice) (same : Bool) (o : Option FileState) → (i == place) ≡ same → slice_get files i ≡ o → Stands bytes place files → Stands bytes place (at_blob files i (crashed choices) o)
at_stands bytes files i place choices same None at found stands = stands
at_stands bytes files i place choices true (Some b) at found stands =
    let here : i ≡ place = eqb-true i place at in
    let is : stands.0 ≡ b = (let both : Some stands.0 ≡ Some b = sym stands.1 ∙ (ap (λ (j : ℕ). slice_get files j) (sym here) ∙ found) in cc) in
    let rests : Rests bytes b = subst (λ (f : FileState). Rests bytes f) is stands.2 in
    (crashed choices b, subst (λ (j : ℕ). slice_get (slice_set files i (crashed choices b)) j ≡ Some (crashed choices b)) here (set_here files i b (crashed choices b) found), rests_crashed bytes choices b rests)
at_stands bytes files i place choices false (Some b) at found stands =
    (stands.0, set_other files i place (crashed choices b) (eqb-false i place at) ∙ stands.1, stands.2)

all_stand : (bytes : List ℕ) (is : List ℕ) (choices : List Choice) (files : List FileState) (place : ℕ) → Stands bytes place files → Stands bytes place (all_crashed is choices files)
all_stand bytes [] choices files place stands = stands
all_stand bytes (i ∷ is) choices files place stands =
    all_stand bytes is (choices_after files i choices) (crashed_at files i choices) place (at_stands bytes files i place _ (i == place) (slice_get files i) refl refl stands)

rests_parts : (version : BlobVersion) (token : Option ℕ) (removed : Bool) (content base : List ℕ) (later : List Mutation) (bytes : List ℕ)
    → left_of (Some (record { version = version; token = token; removed = removed; content = content; base = base; later = later })) ≡ Some bytes → content ≡ bytes
    → Rests bytes (record { version = version; token = token; removed = removed; content = content; base = base; later = later })
rests_parts version token removed content base [] bytes e is = (is, cc, refl)
rests_parts version token removed content base (l ∷ ls) bytes e is = absurd (cc)

rests_here : (bytes : List ℕ) (v : Kept) (k : Blob) (b : FileState) → memory_bytes v k ≡ bytes → IsDurable memory_bytes memory_left v k → blob_of v k ≡ Some b → Rests bytes b
rests_here bytes v k b has durable is =
    let content : b.content ≡ bytes = rw is at has in
    let left : left_of (Some b) ≡ Some b.content = rw is at durable in
    rests_parts b.version b.token b.removed b.content b.base b.later bytes (left ∙ ap (λ (l : List ℕ). Some l) content) content

-- where each crash of a blob leaves its bytes, each crash of the store does
pub store_leaves : (bytes : List ℕ) (v : Kept) (k : Blob) → memory_bytes v k ≡ bytes → IsDurable memory_bytes memory_left v k → CrashLeaves bytes v k
store_leaves bytes v k has durable b choices is =
    let here = is_open_at k.number (slice_get v.state.files k.place) b is in
    let stands = all_stand bytes (named_numbers v.state.directory) choices v.state.files k.place (b, here.0, rests_here bytes v k b has durable is) in
    (stands.0, stands.1, stands.2.0)

-- a sync that was asked for and answered Ok is done
pub asked_left : (p : Poll (Result Unit Error)) (h : Held) (v : Kept) (k : Blob) → p ≡ poll.Ready (Ok tt) → Asked memory_bytes memory_left memory_promised (answer_of p) h v k → IsDurable memory_bytes memory_left v k
asked_left (poll.Ready (Ok u)) h v k is asked = asked.1
asked_left (poll.Ready (Err e)) h v k is asked = absurd (cc)
asked_left poll.Pending h v k is asked = absurd (cc)

crash_keeps : (version : BlobVersion) (token : Option ℕ) (removed : Bool) (content base : List ℕ) (later : List Mutation) (cs : List Choice) (bytes : List ℕ)
    → left_of (Some (record { version = version; token = token; removed = removed; content = content; base = base; later = later })) ≡ Some bytes
    → (crashed cs (record { version = version; token = token; removed = removed; content = content; base = base; later = later })).content ≡ bytes
crash_keeps version token removed content base [] cs bytes e = cc
crash_keeps version token removed content base (l ∷ ls) cs bytes e = absurd (cc)

-- where each crash leaves the bytes, it does by each choice
pub crash_leaves : (v : Kept) (k : Blob) (content : List ℕ) (h : Held) → Keeps memory_bytes memory_left memory_promised content work.Sync h v k → (b : FileState) (cs : List Choice) → blob_of v k ≡ Some b → (crashed cs b).content ≡ content
crash_leaves v k content h kept b cs is =
    let left : left_of (Some b) ≡ Some content = rw is at (kept.1 ∙ ap (λ (bs : List ℕ). Some bs) kept.0.0) in
    crash_keeps b.version b.token b.removed b.content b.base b.later cs content left

pub stepped_by : {W P : Type 0} (r : Stepped W P) (done next : W → Type 0) (waits later : P → Type 0) → ((w : W) → done w → next w) → ((p : P) → waits p → later p) → IfStepped r done waits → IfStepped r next later
stepped_by (step.Done w) done next waits later so then h = so w h
stepped_by (step.Waiting p) done next waits later so then h = then p h
stepped_by (step.Failed e) done next waits later so then h = tt

pub memory_all : MemoryKeeps
memory_all = record { crash = λ v k durable. store_leaves (memory_bytes v k) v k refl durable }
