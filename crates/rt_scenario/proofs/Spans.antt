-- Lists that stand in one block keep their items as others come behind them.
use Rattle.rt_scenario.proofs.Prelude.{◌≡◌, ℕ, List, ◌++◌, ◌∷◌, [], ◌<◌, length, map, get_or, slice_range, refl, ap₂, arith, drop-append-le, drop_at, get_or-map, length-append, map-append, take-append-le, take_all, All-get_or, All-head, All-push, All-tail, All-weaker, All, IsSpan}
use Rattle.std.proofs.lemmas.List.{length-drop}

module _ {V : Type 0} where
  pub span_within : (items : List V) (spans : List (ℕ × ℕ)) (k : ℕ) (d : ℕ × ℕ) → All (IsSpan items) spans → k < length spans → IsSpan items (get_or spans k d)
  span_within items spans k d all there = All-get_or (IsSpan items) spans k d there all

  pub list_at : (items : List V) (spans : List (ℕ × ℕ)) (k : ℕ) (d : ℕ × ℕ) → k < length spans → get_or (map (λ s. slice_range items s.0 s.1) spans) k [] ≡ slice_range items (get_or spans k d).0 (get_or spans k d).1
  list_at items spans k d there = get_or-map (λ (s : ℕ × ℕ). slice_range items s.0 s.1) spans k d [] there

  span_kept : (items more : List V) (s : ℕ × ℕ) → IsSpan items s → slice_range (items ++ more) s.0 s.1 ≡ slice_range items s.0 s.1
  span_kept items more s within = rw (drop-append-le s.0 items more (omega arith)) (take-append-le _ _ more (omega (arith, length-drop s.0 items)))

  lists_kept : (items more : List V) (spans : List (ℕ × ℕ)) → All (IsSpan items) spans → map (λ s. slice_range (items ++ more) s.0 s.1) spans ≡ map (λ s. slice_range items s.0 s.1) spans
  lists_kept items more [] all = refl
  lists_kept items more (s ∷ spans) all =
      ap₂ ◌∷◌ (span_kept items more s (All-head (IsSpan items) s spans all)) (lists_kept items more spans (All-tail (IsSpan items) s spans all))

  last_list : (items more : List V) → slice_range (items ++ more) (length items) (length (items ++ more)) ≡ more
  last_list items more = rw (drop_at items more (length items) refl) (take_all _ more (omega (arith, length-append items more)))

  -- a list more, whose items stand behind the others
  pub lists_pushed : (items more : List V) (spans : List (ℕ × ℕ)) → All (IsSpan items) spans → map (λ s. slice_range (items ++ more) s.0 s.1) (spans ++ (length items, length (items ++ more)) ∷ []) ≡ map (λ s. slice_range items s.0 s.1) spans ++ more ∷ []
  lists_pushed items more spans all =
      rw (map-append (λ (s : ℕ × ℕ). slice_range (items ++ more) s.0 s.1) spans ((length items, length (items ++ more)) ∷ []), lists_kept items more spans all, last_list items more) refl

  longer : (items more : List V) (s : ℕ × ℕ) → IsSpan items s → IsSpan (items ++ more) s
  longer items more s within = (within.0, omega (arith, within.1, length-append items more))

  pub spans_pushed : (items more : List V) (spans : List (ℕ × ℕ)) → All (IsSpan items) spans → All (IsSpan (items ++ more)) (spans ++ (length items, length (items ++ more)) ∷ [])
  spans_pushed items more spans all =
      All-push (IsSpan (items ++ more)) spans (length items, length (items ++ more)) (All-weaker (IsSpan items) (IsSpan (items ++ more)) (longer items more) spans all) (omega (arith, length-append items more), omega arith)

pub ruleset span_laws = (span_within, list_at, lists_pushed, spans_pushed)
