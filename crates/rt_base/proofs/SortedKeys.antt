use Rattle.std.proofs.Common.{◌≡◌, ℕ, List, [], ◌∷◌, refl, ◌∙◌, ap}
use Rattle.std.specs.Cmp.Lexicographic.{nat_list_cmp_total}
use Rattle.std.specs.Ordering.{match_ordering, ordering_reverse}
use Rattle.std.specs.declared.cmp.Ordering.{Ordering}
use Rattle.std.specs.declared.cmp.Ordering.TheVariants.{Less, Equal, Greater}
use Rattle.rt_base.specs.Attributes.{with_attribute, text_cmp, IsBefore, IsSortedByKey}

-- what is above this key has it below
below_key : (k e : List ℕ) → text_cmp k e ≡ Greater → text_cmp e k ≡ Less
below_key k e h = nat_list_cmp_total.antisymm e k ∙ ap ordering_reverse h

same_before : (e : List ℕ) (es : List (List ℕ × List ℕ)) (k v : List ℕ) (f : List ℕ × List ℕ) (o : Ordering) → text_cmp e k ≡ Less → text_cmp e f.0 ≡ Less → IsBefore e (match_ordering o ((k, v) ∷ f ∷ es) ((f.0, v) ∷ es) (f ∷ with_attribute es k v))
same_before e es k v f Less h g = h
same_before e es k v f Equal h g = g
same_before e es k v f Greater h g = g

still_before : (e : List ℕ) (es : List (List ℕ × List ℕ)) (k v : List ℕ) → text_cmp e k ≡ Less → IsBefore e es → IsBefore e (with_attribute es k v)
still_before e [] k v h g = h
still_before e (f ∷ es) k v h g = same_before e es k v f (text_cmp k f.0) h g

put_sorted : (e : List ℕ × List ℕ) (es : List (List ℕ × List ℕ)) (k v : List ℕ) (o : Ordering) → text_cmp k e.0 ≡ o → IsSortedByKey (e ∷ es) → IsSortedByKey (with_attribute es k v) → IsSortedByKey (match_ordering o ((k, v) ∷ e ∷ es) ((e.0, v) ∷ es) (e ∷ with_attribute es k v))
put_sorted e es k v Less h s t = (h, s)
put_sorted e es k v Equal h s t = s
put_sorted e es k v Greater h s t = (still_before e.0 es k v (below_key k e.0 h) s.0, t)

-- an attribute more leaves the list sorted
pub sorted_with : (es : List (List ℕ × List ℕ)) (k v : List ℕ) → IsSortedByKey es → IsSortedByKey (with_attribute es k v)
sorted_with [] k v s = (tt, tt)
sorted_with (e ∷ es) k v s = put_sorted e es k v (text_cmp k e.0) refl s (sorted_with es k v s.1)
