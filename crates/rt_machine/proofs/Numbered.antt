-- The labels of nodes.
use Rattle.rt_machine.proofs.Prelude.{◌≡◌, ◌<◌, ◌≤◌, ◌+◌, ℕ, zero, suc, List, [], ◌∷◌, ◌++◌, refl, ap, false, arith, get_or, length, eqb, Some, sym, subst, ◌∙◌, All, find, slice_get-map, slice_get_past, slice_get-get_or, label_at, IsThere, label_in, labelled, numbered, NodeLabel, Short, Long, get_or_append_left, map-append, length-map, get_or-append_seam, All-head, All-tail}
use Rattle.std.specs.List.{slice_get}
use Rattle.std.specs.Option.{unwrap_or}

find-at : {V : Type 0} (k n t : ℕ) (xs : List V) → t ≡ k + n → find t (numbered k xs) ≡ slice_get xs n
find-at k n t [] e = refl
find-at k zero t (x ∷ xs) e = grind arith
find-at k (suc n) t (x ∷ xs) e =
    let f : eqb k t ≡ false = grind arith in
    rw f (find-at (k + 1) n t xs (omega arith))

-- the label of a number is that in its place
label-get : {V : Type 0} (n : ℕ) (xs : List V) → find n (numbered 0 xs) ≡ slice_get xs n
label-get n xs = find-at 0 n n xs (omega arith)

label-push : {V : Type 0} (k : ℕ) (xs : List V) (v : V) → numbered k (xs ++ v ∷ []) ≡ numbered k xs ++ (k + length xs, v) ∷ []
label-push k [] v = let e : k + 0 ≡ k = omega arith in rw e refl
label-push k (x ∷ xs) v =
    let e : k + suc (length xs) ≡ (k + 1) + length xs = omega arith in
    rw e (ap (λ ys. (k, x) ∷ ys) (label-push (k + 1) xs v))

-- one long label more leaves the labels that are there
pub labelled-more : (labels : List NodeLabel) (longs : List (List ℕ)) (text : List ℕ) → All (IsThere (length longs)) labels → labelled (longs ++ text ∷ []) labels ≡ labelled longs labels
labelled-more [] longs text all = refl
labelled-more (Short label ∷ labels) longs text all = ap (λ ls. label ∷ ls) (labelled-more labels longs text (All-tail (IsThere (length longs)) (Short label) labels all))
labelled-more (Long place ∷ labels) longs text all =
    rw (get_or_append_left longs (text ∷ []) [] place (All-head (IsThere (length longs)) (Long place) labels all), labelled-more labels longs text (All-tail (IsThere (length longs)) (Long place) labels all)) refl

-- a label more
pub labels-push : (labels : List NodeLabel) (longs : List (List ℕ)) (label : NodeLabel) → numbered 0 (labelled longs (labels ++ label ∷ [])) ≡ numbered 0 (labelled longs labels) ++ (length labels, label_in longs label) ∷ []
labels-push labels longs label =
    let first : 0 + length labels ≡ length labels = omega arith in
    rw (map-append (label_in longs) labels (label ∷ []), label-push 0 (labelled longs labels) (label_in longs label), length-map labels (label_in longs), first) refl

-- a long label whose text comes with it
pub labels-long : (labels : List NodeLabel) (longs : List (List ℕ)) (text : List ℕ) → All (IsThere (length longs)) labels → numbered 0 (labelled (longs ++ text ∷ []) (labels ++ Long (length longs) ∷ [])) ≡ numbered 0 (labelled longs labels) ++ (length labels, text) ∷ []
labels-long labels longs text all =
    rw (labels-push labels (longs ++ text ∷ []) (Long (length longs)), labelled-more labels longs text all, get_or-append_seam longs text [] []) refl

-- the label of a node that was made, and of one that wasn't
label-there : (labels : List NodeLabel) (longs : List (List ℕ)) (n : ℕ) (label : NodeLabel) → n < length labels → label ≡ get_or labels n label → label_at (numbered 0 (labelled longs labels)) n ≡ label_in longs label
label-there labels longs n label below is =
    let there : slice_get labels n ≡ Some label = slice_get-get_or labels n label below ∙ ap (λ l. Some l) (sym is) in
    rw (label-get n (labelled longs labels), slice_get-map (label_in longs) labels n, there) refl

pub short-there : (labels : List NodeLabel) (longs : List (List ℕ)) (n : ℕ) (label : NodeLabel) (text : List ℕ) → n < length labels → label ≡ get_or labels n label → label ≡ Short text → label_at (numbered 0 (labelled longs labels)) n ≡ text
short-there labels longs n label text below is short = label-there labels longs n label below is ∙ ap (label_in longs) short

pub long-there : (labels : List NodeLabel) (longs : List (List ℕ)) (n : ℕ) (label : NodeLabel) (place : ℕ) (text : List ℕ) → All (IsThere (length longs)) labels → n < length labels → label ≡ get_or labels n label → label ≡ Long place → text ≡ get_or longs place text → label_at (numbered 0 (labelled longs labels)) n ≡ text
long-there labels longs n label place text all below is long told =
    let fits : place < length longs = subst (IsThere (length longs)) long (subst (IsThere (length longs)) (sym is) (all n label below)) in
    label-there labels longs n label below is ∙ ap (label_in longs) long ∙ ap (λ o. unwrap_or o []) (sym (slice_get-get_or longs place [] fits) ∙ slice_get-get_or longs place text fits) ∙ sym told

pub label-past : (labels : List NodeLabel) (longs : List (List ℕ)) (n : ℕ) → length labels ≤ n → label_at (numbered 0 (labelled longs labels)) n ≡ []
label-past labels longs n past = rw (label-get n (labelled longs labels), slice_get-map (label_in longs) labels n, slice_get_past labels n past) refl

pub ruleset label_laws = (labels-push, labels-long, labelled-more, short-there, long-there, label-past)
