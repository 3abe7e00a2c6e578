-- An event is one of a call.
use Rattle.rt_walk.proofs.Prelude.{◌≡◌, ◌≢◌, ◌↔◌, ◌⊎◌, inl, inr, ℕ, ℤ, List, [], ◌∷◌, Option, Some, None, Bool, IsTrue, is_some, IfSome, IfNone, codes, length, get_or, refl, ap, sym, ◌∙◌, arith, w32, cast_unsigned, to_be_bytes, Call, Stop, NextU32, NextU64, FillBytes, CallReply, Done, Announced, Stood, announced_by, IsOfCall}
use Rattle.std.proofs.Common.{slice_get}
use Rattle.rt_audit.specs.declared.call.Call.TheVariants.{Stopped}

-- the fields are this value
abbrev Holds : List (List ℕ) → ℤ → Type 0
Holds fields value = fields ≡ to_be_bytes w32 (cast_unsigned w32 value) ∷ []

-- one of the names of calls that draw
abbrev OneOfThree : {A : Type 0} → A → A → A → A → Type 0
OneOfThree x a b c = (x ≡ a) ⊎ (x ≡ b) ⊎ (x ≡ c)

abbrev Names : List (List ℕ) → Type 0
Names fields = OneOfThree fields (codes "next_u32" ∷ []) (codes "next_u64" ∷ []) (codes "fill_bytes" ∷ [])

abbrev IsName : List ℕ → Type 0
IsName field = OneOfThree field (codes "next_u32") (codes "next_u64") (codes "fill_bytes")

alone : (fields : List (List ℕ)) (field : List ℕ) → slice_get fields 0 ≡ Some field → length fields ≡ 1 → fields ≡ field ∷ []
alone [] field is one = absurd (cc)
alone (f ∷ []) field is one = let same : f ≡ field = cc in rw same refl
alone (f ∷ g ∷ fields) field is one = absurd (omega (arith, one))

-- one field is a value where it has four bytes
pub value-alone : (fields : List (List ℕ)) (field : List ℕ) (told : Option ℤ) → slice_get fields 0 ≡ Some field → length fields ≡ 1 → IfSome told (λ value. to_be_bytes w32 (cast_unsigned w32 value) ≡ field) → IfNone told (length field ≢ 4) → IsTrue (is_some told) ↔ ((value : ℤ) × Holds fields value)
value-alone fields field (Some value) is one some none = ((λ t. (value, alone fields field is one ∙ ap (λ f. f ∷ []) (sym some))), (λ v. refl))
value-alone fields field None is one some none =
    ((λ t. absurd (cc)), (λ v. absurd (none (let e : field ∷ [] ≡ to_be_bytes w32 (cast_unsigned w32 v.0) ∷ [] = sym (alone fields field is one) ∙ v.1 in let same : field ≡ to_be_bytes w32 (cast_unsigned w32 v.0) = cc in ap length same))))

same-alone : (f g : List ℕ) → f ∷ [] ≡ g ∷ [] → f ≡ g
same-alone f g e = cc

named : (field a b c : List ℕ) → OneOfThree field a b c → OneOfThree (field ∷ []) (a ∷ []) (b ∷ []) (c ∷ [])
named field a b c (inl is) = inl (ap (λ f. f ∷ []) is)
named field a b c (inr (inl is)) = inr (inl (ap (λ f. f ∷ []) is))
named field a b c (inr (inr is)) = inr (inr (ap (λ f. f ∷ []) is))

name-of : (field a b c : List ℕ) → OneOfThree (field ∷ []) (a ∷ []) (b ∷ []) (c ∷ []) → OneOfThree field a b c
name-of field a b c (inl is) = inl (same-alone field a is)
name-of field a b c (inr (inl is)) = inr (inl (same-alone field b is))
name-of field a b c (inr (inr is)) = inr (inr (same-alone field c is))

-- one field is the name of a call that draws where it is one of the three
pub name-alone : (r : Bool) (fields : List (List ℕ)) (field : List ℕ) → slice_get fields 0 ≡ Some field → length fields ≡ 1 → (IsTrue r ↔ IsName field) → IsTrue r ↔ Names fields
name-alone r fields field is one h = rw (alone fields field is one) ((λ t. named field _ _ _ (h.0 t)), (λ n. h.1 (name-of field _ _ _ n)))

abbrev fields-in : List Announced → List (List ℕ)
fields-in [] = []
fields-in (event ∷ events) = event.fields

abbrev label-in : List Announced → List ℕ
label-in [] = []
label-in (event ∷ events) = event.label

rand-stop : codes "rand" ≡ codes "stop" → ⊥
rand-stop e = let first : 114 ≡ 115 = ap (λ label. get_or label 0 0) e in omega (arith, first)

module _ (stood : Stood) (announced : List Announced) (label : List ℕ) (fields : List (List ℕ)) (none : announced ≡ []) where
  abbrev IsIt : Call → CallReply → Type 0
  IsIt call reply = announced_by stood call reply ≡ record { label = label; fields = fields } ∷ []

  stop-value : label ≡ codes "stop" → (call : Call) (reply : CallReply) → IsIt call reply → (value : ℤ) × Holds fields value
  stop-value is (Stop value) reply e = (value, sym (ap fields-in e))
  stop-value is Stopped reply e = let other : codes "stopped" ≡ codes "stop" = ap label-in e ∙ is in let long = ap length other in absurd (cc)
  stop-value is NextU32 reply e = absurd (rand-stop (ap label-in e ∙ is))
  stop-value is NextU64 reply e = absurd (rand-stop (ap label-in e ∙ is))
  stop-value is (FillBytes len) reply e = absurd (rand-stop (ap label-in e ∙ is))
  stop-value is _ reply e = absurd (cc)

  stopped-none : label ≡ codes "stopped" → (call : Call) (reply : CallReply) → IsIt call reply → fields ≡ []
  stopped-none is Stopped reply e = sym (ap fields-in e)
  stopped-none is (Stop value) reply e = let other : codes "stop" ≡ codes "stopped" = ap label-in e ∙ is in let long = ap length other in absurd (cc)
  stopped-none is NextU32 reply e = let other : codes "rand" ≡ codes "stopped" = ap label-in e ∙ is in let long = ap length other in absurd (cc)
  stopped-none is NextU64 reply e = let other : codes "rand" ≡ codes "stopped" = ap label-in e ∙ is in let long = ap length other in absurd (cc)
  stopped-none is (FillBytes len) reply e = let other : codes "rand" ≡ codes "stopped" = ap label-in e ∙ is in let long = ap length other in absurd (cc)
  stopped-none is _ reply e = absurd (cc)

  draw-name : label ≡ codes "rand" → (call : Call) (reply : CallReply) → IsIt call reply → Names fields
  draw-name is NextU32 reply e = inl (sym (ap fields-in e))
  draw-name is NextU64 reply e = inr (inl (sym (ap fields-in e)))
  draw-name is (FillBytes len) reply e = inr (inr (sym (ap fields-in e)))
  draw-name is (Stop value) reply e = absurd (rand-stop (sym (ap label-in e ∙ is)))
  draw-name is Stopped reply e = let other : codes "stopped" ≡ codes "rand" = ap label-in e ∙ is in let long = ap length other in absurd (cc)
  draw-name is _ reply e = absurd (cc)

  draw-of : label ≡ codes "rand" → Names fields → IsOfCall stood announced label fields
  draw-of is (inl name) = (NextU32, Done, rw (none, is, name) refl)
  draw-of is (inr (inl name)) = (NextU64, Done, rw (none, is, name) refl)
  draw-of is (inr (inr name)) = (FillBytes 0, Done, rw (none, is, name) refl)

  pub stop-decides : (r : Bool) → label ≡ codes "stop" → (IsTrue r ↔ ((value : ℤ) × Holds fields value)) → IsTrue r ↔ IsOfCall stood announced label fields
  stop-decides r is h = ((λ t. let v = h.0 t in (Stop v.0, Done, rw (none, is, v.1) refl)), (λ o. h.1 (stop-value is o.0 o.1 (rw none at o.2))))

  pub stopped-decides : (r : Bool) → label ≡ codes "stopped" → (IsTrue r ↔ (fields ≡ [])) → IsTrue r ↔ IsOfCall stood announced label fields
  stopped-decides r is h = ((λ t. (Stopped, Done, rw (none, is, h.0 t) refl)), (λ o. h.1 (stopped-none is o.0 o.1 (rw none at o.2))))

  pub draw-decides : (r : Bool) → label ≡ codes "rand" → (IsTrue r ↔ Names fields) → IsTrue r ↔ IsOfCall stood announced label fields
  draw-decides r is h = ((λ t. draw-of is (h.0 t)), (λ o. h.1 (draw-name is o.0 o.1 (rw none at o.2))))
