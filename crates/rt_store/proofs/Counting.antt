-- How the number of later changes moves with one blob, and what a place holds.
use Rattle.rt_store.proofs.Prelude.{◌≡◌, ◌≤◌, ◌<◌, ℕ, zero, suc, ◌+◌, Bool, true, false, cond, List, [], ◌∷◌, ◌++◌, length, map, take, drop, get_or, slice_set, refl, sym, ap, ◌∙◌, arith, rules, Option, is_some, slice_get, FileState, closed, detached, detached_for, Blob, count_later, if_open, is_token, live}
use Rattle.std.specs.Prelude.{None, Some}

pub count_set : (bs : List FileState) (i : ℕ) (old new : FileState) → slice_get bs i ≡ Some old → count_later (slice_set bs i new) + length old.later ≡ count_later bs + length new.later
count_set [] i old new h = search rules
count_set (b ∷ bs) zero old new h = search rules
count_set (b ∷ bs) (suc i) old new h = let rec = count_set bs i old new h in omega arith

pub count_push : (bs : List FileState) (b : FileState) → count_later (bs ++ b ∷ []) ≡ count_later bs + length b.later
count_push [] b = omega arith
count_push (c ∷ cs) b = let rec = count_push cs b in omega arith

-- no blob has more than all together
pub count_at : (bs : List FileState) (i : ℕ) (b : FileState) → slice_get bs i ≡ Some b → length b.later ≤ count_later bs
count_at [] i b h = search rules
count_at (c ∷ cs) zero b h = search rules
count_at (c ∷ cs) (suc i) b h = let rec = count_at cs i b h in omega arith

later-closed : (r : Bool) (b : FileState) → length (cond r (record b { token = None; content = []; base = [] }) (record b { token = None })).later ≡ length b.later
later-closed true b = refl
later-closed false b = refl

-- a close leaves the changes
pub count_closed : (bs : List FileState) → count_later (map closed bs) ≡ count_later bs
count_closed [] = refl
count_closed (b ∷ bs) = let rec = count_closed bs in let e = later-closed b.removed b in omega arith

pub later_closed : (b : FileState) → length (closed b).later ≡ length b.later
later_closed b = later-closed b.removed b

later-detached : (t : Option ℕ) (b : FileState) → length (detached_for t b).later ≡ 0
later-detached None b = refl
later-detached (Some n) b = refl

pub later_detached : (b : FileState) → length (detached b).later ≡ 0
later_detached b = later-detached b.token b

pub past_all : (bs : List FileState) (i : ℕ) → length bs ≤ i → slice_get bs i ≡ None
past_all [] i h = refl
past_all (b ∷ bs) zero h = absurd (omega arith)
past_all (b ∷ bs) (suc i) h = past_all bs i (omega arith)

-- what a place holds, by its number
pub there : (bs : List FileState) (i : ℕ) (b : FileState) → i < length bs → b ≡ get_or bs i b → slice_get bs i ≡ Some b
there [] i b lt h = absurd (omega arith)
there (c ∷ cs) zero b lt h = ap (λ (x : FileState). let o : Option FileState = Some x in o) (sym h)
there (c ∷ cs) (suc i) b lt h = there cs i b (omega arith) h

pub some_within : (bs : List FileState) (i : ℕ) → is_some (slice_get bs i) ≡ true → i < length bs
some_within [] i h = search rules
some_within (c ∷ cs) zero h = omega arith
some_within (c ∷ cs) (suc i) h = let rec = some_within cs i h in omega arith

open-some : (n : ℕ) (o : Option FileState) → is_some (if_open n o) ≡ true → is_some o ≡ true
open-some n None h = h
open-some n (Some b) h = refl

pub live_within : (bs : List FileState) (k : Blob) → is_some (live bs k) ≡ true → k.place < length bs
live_within bs k h = some_within bs k.place (open-some k.number (slice_get bs k.place) h)

cond-some : (t : Bool) (b : FileState) → is_some (cond t (let o : Option FileState = Some b in o) None) ≡ true → cond t (let o : Option FileState = Some b in o) None ≡ Some b
cond-some true b h = refl
cond-some false b h = search rules

pub live_is : (bs : List FileState) (k : Blob) (b : FileState) → is_some (live bs k) ≡ true → slice_get bs k.place ≡ Some b → live bs k ≡ Some b
live_is bs k b h at =
    let e = ap (λ (o : Option FileState). if_open k.number o) at in
    e ∙ cond-some (is_token k.number b.token) b (sym (ap (λ (o : Option FileState). is_some o) e) ∙ h)

-- one blob more is closed
pub close_step : (fs : List FileState) (i : ℕ) (d : FileState) → i < length fs →
    slice_set (map closed (take i fs) ++ drop i fs) i (closed (get_or (map closed (take i fs) ++ drop i fs) i d)) ≡ map closed (take (i + 1) fs) ++ drop (i + 1) fs
close_step [] i d lt = absurd (omega arith)
close_step (f ∷ fs) zero d lt = refl
close_step (f ∷ fs) (suc i) d lt =
    let e : suc i + 1 ≡ suc (i + 1) = omega arith in
    rw e (ap (λ (gs : List FileState). closed f ∷ gs) (close_step fs i d (omega arith)))
