-- A live object in its list, and what a call on it leaves.
use Rattle.rt_net.proofs.Prelude.{◌≡◌, ℕ, Bool, true, false, cond, List, Option, Some, None, refl, sym, ap, ◌∙◌, subst, slice_get, slice_set, slice_index_or, is_some, MatchOption, get_or_from_slice_get, if_lives, at}

stands-in : {X : Type 0} (x d : X) (b : Bool) → cond b (Some x) None ≡ Some d → (let o : Option X = Some x in o) ≡ Some d
stands-in x d true e = e
stands-in x d false e = absurd (cc)

-- a live object is that at its number
pub stands : {X : Type 0} (lives : X → Bool) (o : Option X) (x : X) → if_lives lives o ≡ Some x → o ≡ Some x
stands lives None x e = absurd (cc)
stands lives (Some d) x e = stands-in d x (lives d) e

kept : {X : Type 0} (b : Bool) (d : X) → is_some (cond b (Some d) None) ≡ true → cond b (Some d) None ≡ Some d
kept true d e = refl
kept false d e = absurd (cc)

found : {X : Type 0} (lives : X → Bool) (xs : List X) (n : ℕ) (d : X) (o : Option X) → slice_get xs n ≡ o → d ≡ slice_index_or xs n d → is_some (if_lives lives o) ≡ true → if_lives lives o ≡ Some d
found lives xs n d None e read live = absurd (cc)
found lives xs n d (Some x) e read live =
    let same : x ≡ d = sym (read ∙ get_or_from_slice_get xs n x d e) in
    kept (lives x) x live ∙ ap Some same

-- what is read at the number of a live object
abbrev pub IsRead : {X : Type 0} → (X → Bool) → List X → ℕ → X → Type 0
IsRead lives xs n d = (d ≡ slice_index_or xs n d) × (is_some (if_lives lives (slice_get xs n)) ≡ true)

-- is that object
pub live-there : {X : Type 0} (lives : X → Bool) (xs : List X) (n : ℕ) (d : X) → IsRead lives xs n d → if_lives lives (slice_get xs n) ≡ Some d
live-there lives xs n d read = found lives xs n d (slice_get xs n) refl read.0 read.1

-- which stands there
pub read-there : {X : Type 0} (lives : X → Bool) (xs : List X) (n : ℕ) (d : X) → IsRead lives xs n d → slice_get xs n ≡ Some d
read-there lives xs n d read = stands lives (slice_get xs n) d (live-there lives xs n d read)

pub after-at : {X : Type 0} (xs : List X) (n : ℕ) (d e : X) (f : X → X) (o : Option X) → o ≡ Some d → e ≡ f d → slice_set xs n e ≡ at xs n f o
after-at xs n d e f o live made = ap (slice_set xs n) made ∙ sym (ap (at xs n f) live)

-- a call on a live object answers by that, and leaves in its place what it makes of it
pub called : {X : Type 0} (lives : X → Bool) (xs : List X) (n : ℕ) (d e : X) (f : X → X) (unknown : Type 0) (P : X → Type 0) → IsRead lives xs n d → P d → e ≡ f d → MatchOption (if_lives lives (slice_get xs n)) unknown P × (slice_set xs n e ≡ at xs n f (if_lives lives (slice_get xs n)))
called lives xs n d e f unknown P read answer made =
    let there = live-there lives xs n d read in
    (subst (λ o. MatchOption o unknown P) (sym there) answer, after-at xs n d e f (if_lives lives (slice_get xs n)) there made)
