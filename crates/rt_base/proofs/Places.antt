use Rattle.std.proofs.Common.{◌≡◌, ℕ, suc, ◌+◌, ◌<◌, List, ◌∷◌, ◌++◌, length, take, drop, get_or, set, refl, ap, ◌∙◌, append_assoc, add-one}
use Rattle.std.proofs.Math.Seq.{drop-cons, take-suc}
use Rattle.std.proofs.lemmas.List.{set_split}
use Rattle.std.specs.List.{insert}
use Rattle.std.specs.Ordering.{match_ordering}
use Rattle.std.specs.declared.cmp.Ordering.{Ordering}
use Rattle.std.specs.declared.cmp.Ordering.TheVariants.{Less, Equal, Greater}
use Rattle.rt_base.specs.Attributes.{with_attribute, text_cmp}

-- what is put into the rest, by how the key compares to the rest's first key
put_first : (e : List ℕ × List ℕ) (es : List (List ℕ × List ℕ)) (key value : List ℕ) (o : Ordering) → text_cmp key e.0 ≡ o → with_attribute (e ∷ es) key value ≡ match_ordering o ((key, value) ∷ e ∷ es) ((e.0, value) ∷ es) (e ∷ with_attribute es key value)
put_first e es key value o h = ap (λ p. match_ordering p ((key, value) ∷ e ∷ es) ((e.0, value) ∷ es) (e ∷ with_attribute es key value)) h

module _ (xs : List (List ℕ × List ℕ)) (i : ℕ) (key value : List ℕ) (any : List ℕ × List ℕ) (inside : i < length xs) where
  rest_of : (o : Ordering) → text_cmp key (get_or xs i any).0 ≡ o → with_attribute (drop i xs) key value ≡ match_ordering o ((key, value) ∷ get_or xs i any ∷ drop (suc i) xs) (((get_or xs i any).0, value) ∷ drop (suc i) xs) (get_or xs i any ∷ with_attribute (drop (suc i) xs) key value)
  rest_of o h = ap (λ l. with_attribute l key value) (drop-cons xs i any inside) ∙ put_first (get_or xs i any) (drop (suc i) xs) key value o h

  pub put_past : text_cmp key (get_or xs i any).0 ≡ Greater → take i xs ++ with_attribute (drop i xs) key value ≡ take (i + 1) xs ++ with_attribute (drop (i + 1) xs) key value
  put_past h = rw (add-one, take-suc xs i any inside, rest_of Greater h, append_assoc) refl

  pub put_before : text_cmp key (get_or xs i any).0 ≡ Less → take i xs ++ with_attribute (drop i xs) key value ≡ insert xs i (key, value)
  put_before h = rw (rest_of Less h, ← drop-cons xs i any inside) refl

  pub put_at : text_cmp key (get_or xs i any).0 ≡ Equal → take i xs ++ with_attribute (drop i xs) key value ≡ set xs i ((get_or xs i any).0, value)
  put_at h = rw (rest_of Equal h, set_split xs i ((get_or xs i any).0, value) inside) refl
