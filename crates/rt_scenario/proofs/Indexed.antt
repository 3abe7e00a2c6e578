-- Lines by the indices of their handles.
use Rattle.rt_scenario.proofs.Prelude.{◌≡◌, ℕ, ◌≤◌, ◌<◌, Bool, true, false, if◌then◌else◌, List, [], ◌∷◌, ◌++◌, length, fold, map, get_or, slice_index, Option, Some, None, refl, sym, ap, subst, ◌∙◌, arith, All, list_any, bytes_eq, get_or_append_left, get_or-map, length_push, map_push, All-push, All-tail, fold_push, insert_key, IsStrictlySortedBy, text_cmp, HasIndex, in_order, name_at, named_by, placed_at, with_name, all_names, handle_of, handles_of, place_of, placed, with_handle, with_handles, Line, NamedLine, Spawn, Abort, Drop, Join, Within, Stopped, Wait}
use Rattle.rt_scenario.specs.declared.line.Line.TheVariants as step
use Rattle.rt_scenario.proofs.FirstUse.{in_order_more, key_first, none_sorted, sorted_with}

-- the names that were there keep their indices
kept_at : (names : List (List ℕ)) (o : Option (List ℕ)) (i : ℕ) → i < length names → get_or (with_name names o) i [] ≡ get_or names i []
kept_at names None i inside = refl
kept_at names (Some name) i inside = by (list_any (bytes_eq name) names)
  where
    by : (b : Bool) → get_or (if b then names else names ++ name ∷ []) i [] ≡ get_or names i []
    by true = refl
    by false = get_or_append_left names (name ∷ []) [] i inside

longer : (names : List (List ℕ)) (o : Option (List ℕ)) → length names ≤ length (with_name names o)
longer names None = omega arith
longer names (Some name) = by (list_any (bytes_eq name) names)
  where
    by : (b : Bool) → length names ≤ length (if b then names else names ++ name ∷ [])
    by true = omega arith
    by false = omega (arith, length_push names name)

named_same : (names more : List (List ℕ)) → ((i : ℕ) → i < length names → get_or more i [] ≡ get_or names i []) → (line : Line) → HasIndex (length names) line → named_by more line ≡ named_by names line
named_same names more h (step.Spawn index script) inside = ap (λ n. Spawn n script) (h index inside)
named_same names more h (step.Abort index) inside = ap Abort (h index inside)
named_same names more h (step.Drop index) inside = ap Drop (h index inside)
named_same names more h (step.Join index) inside = ap Join (h index inside)
named_same names more h (step.Within index limit) inside = ap (λ n. Within n limit) (h index inside)
named_same names more h (step.Stopped index) inside = ap Stopped (h index inside)
named_same names more h (step.Wait index) inside = ap Wait (h index inside)
named_same names more h _ inside = refl

-- the lines so far stay where a name more is taken in
named_kept : (names : List (List ℕ)) (o : Option (List ℕ)) (lines : List Line) → All (HasIndex (length names)) lines → map (named_by (with_name names o)) lines ≡ map (named_by names) lines
named_kept names o [] inside = refl
named_kept names o (line ∷ lines) inside =
    let one : named_by (with_name names o) line ≡ named_by names line = named_same names (with_name names o) (kept_at names o) line (inside 0 line (omega arith)) in
    let rest : map (named_by (with_name names o)) lines ≡ map (named_by names) lines = named_kept names o lines (All-tail (HasIndex (length names)) line lines inside) in
    ap (λ l. l ∷ map (named_by (with_name names o)) lines) one ∙ ap (λ ls. named_by names line ∷ ls) rest

index_more : (n m : ℕ) (line : Line) → n ≤ m → HasIndex n line → HasIndex m line
index_more n m (step.Spawn index script) h inside = omega (arith, h, inside)
index_more n m (step.Abort index) h inside = omega (arith, h, inside)
index_more n m (step.Drop index) h inside = omega (arith, h, inside)
index_more n m (step.Join index) h inside = omega (arith, h, inside)
index_more n m (step.Within index limit) h inside = omega (arith, h, inside)
index_more n m (step.Stopped index) h inside = omega (arith, h, inside)
index_more n m (step.Wait index) h inside = omega (arith, h, inside)
index_more n m _ h inside = tt

indices_more : (n m : ℕ) (lines : List Line) → n ≤ m → All (HasIndex n) lines → All (HasIndex m) lines
indices_more n m lines h inside = λ k d low. index_more n m (get_or lines k d) h (inside k d low)

with_push : (names : List (List ℕ)) (lines : List (NamedLine (List ℕ))) (line : NamedLine (List ℕ)) → with_handles names (lines ++ line ∷ []) ≡ with_handle (with_handles names lines) (handle_of line)
with_push names [] line = refl
with_push names (l ∷ lines) line = with_push (with_handle names (handle_of l)) lines line

in_order_with : (names : List (List ℕ)) (o : Option (List ℕ)) → with_handle (in_order names) o ≡ in_order (with_name names o)
in_order_with names None = refl
in_order_with names (Some name) = sym (in_order_more names name)

sorted_one : (names : List (List ℕ)) (o : Option (List ℕ)) → IsStrictlySortedBy text_cmp names → IsStrictlySortedBy text_cmp (with_handle names o)
sorted_one names None s = s
sorted_one names (Some name) s = sorted_with names name s

sorted_handles : (names : List (List ℕ)) (lines : List (NamedLine (List ℕ))) → IsStrictlySortedBy text_cmp names → IsStrictlySortedBy text_cmp (with_handles names lines)
sorted_handles names [] s = s
sorted_handles names (line ∷ lines) s = sorted_handles (with_handle names (handle_of line)) lines (sorted_one names (handle_of line) s)

handle_first : (start choices : List (List ℕ)) (o : Option (List ℕ)) → IsStrictlySortedBy text_cmp start → fold (insert_key text_cmp) (with_handle start o) choices ≡ with_handle (fold (insert_key text_cmp) start choices) o
handle_first start choices None s = refl
handle_first start choices (Some name) s = key_first choices start name s

-- a line more has its name among those in order
handles_push : (names : List (List ℕ)) (lines : List (NamedLine (List ℕ))) (choices : List (List ℕ)) (line : NamedLine (List ℕ)) → all_names lines choices ≡ in_order names → all_names (lines ++ line ∷ []) choices ≡ in_order (with_name names (handle_of line))
handles_push names lines choices line h =
    ap (λ ns. fold (insert_key text_cmp) ns choices) (with_push [] lines line)
    ∙ handle_first (handles_of lines) choices (handle_of line) (sorted_handles [] lines none_sorted)
    ∙ ap (λ ns. with_handle ns (handle_of line)) h
    ∙ in_order_with names (handle_of line)

-- the choices so far stay where a name more is taken in
choices_kept : (names : List (List ℕ)) (o : Option (List ℕ)) (indices : List ℕ) → All (λ index. index < length names) indices → map (name_at (with_name names o)) indices ≡ map (name_at names) indices
choices_kept names o [] inside = refl
choices_kept names o (i ∷ is) inside =
    ap (λ n. n ∷ map (name_at (with_name names o)) is) (kept_at names o i (inside 0 i (omega arith)))
    ∙ ap (λ ns. name_at names i ∷ ns) (choices_kept names o is (All-tail (λ index. index < length names) i is inside))

module _ (names more : List (List ℕ)) (lines : List Line) (choices : List ℕ) (line : Line) (whole : NamedLine (List ℕ)) (taken : more ≡ with_name names (handle_of whole)) (inside : All (HasIndex (length names)) lines) (chosen : All (λ index. index < length names) choices) where
  kept : map (named_by more) lines ≡ map (named_by names) lines
  kept = ap (λ m. map (named_by m) lines) taken ∙ named_kept names (handle_of whole) lines inside

  -- the lines with one more
  pub lines_more : named_by more line ≡ whole → map (named_by more) (lines ++ line ∷ []) ≡ map (named_by names) lines ++ whole ∷ []
  lines_more is = map_push (named_by more) lines line ∙ ap (λ l. map (named_by more) lines ++ l ∷ []) is ∙ ap (λ ls. ls ++ whole ∷ []) kept

  pub indices_push : HasIndex (length more) line → All (HasIndex (length more)) (lines ++ line ∷ [])
  indices_push own =
      let low : length names ≤ length more = subst (λ m. length names ≤ length m) (sym taken) (longer names (handle_of whole)) in
      All-push (HasIndex (length more)) lines line (indices_more (length names) (length more) lines low inside) own

  -- so stay the choices
  pub choices_same : map (name_at more) choices ≡ map (name_at names) choices
  choices_same = ap (λ m. map (name_at m) choices) taken ∙ choices_kept names (handle_of whole) choices chosen

  pub chosen_same : All (λ index. index < length more) choices
  chosen_same k d below =
      let low : length names ≤ length more = subst (λ m. length names ≤ length m) (sym taken) (longer names (handle_of whole)) in
      omega (arith, low, chosen k d below)

  pub order_push : named_by more line ≡ whole → all_names (map (named_by names) lines) (map (name_at names) choices) ≡ in_order names → all_names (map (named_by more) (lines ++ line ∷ [])) (map (name_at more) choices) ≡ in_order more
  order_push is h =
      ap (λ ls. all_names ls (map (name_at more) choices)) (lines_more is)
      ∙ ap (λ cs. all_names (map (named_by names) lines ++ whole ∷ []) cs) choices_same
      ∙ handles_push names (map (named_by names) lines) (map (name_at names) choices) whole h
      ∙ ap in_order (sym taken)

module _ (names more : List (List ℕ)) (lines : List Line) (choices : List ℕ) (index : ℕ) (name : List ℕ) (taken : more ≡ with_name names (Some name)) (inside : All (HasIndex (length names)) lines) (chosen : All (λ i. i < length names) choices) (is : name_at more index ≡ name) where
  -- the lines and choices with a choice more
  pub lines_same : map (named_by more) lines ≡ map (named_by names) lines
  lines_same = ap (λ m. map (named_by m) lines) taken ∙ named_kept names (Some name) lines inside

  pub choices_more : map (name_at more) (choices ++ index ∷ []) ≡ map (name_at names) choices ++ name ∷ []
  choices_more =
      map_push (name_at more) choices index
      ∙ ap (λ n. map (name_at more) choices ++ n ∷ []) is
      ∙ ap (λ cs. cs ++ name ∷ []) (ap (λ m. map (name_at m) choices) taken ∙ choices_kept names (Some name) choices chosen)

  pub indices_same : All (HasIndex (length more)) lines
  indices_same =
      let low : length names ≤ length more = subst (λ m. length names ≤ length m) (sym taken) (longer names (Some name)) in
      indices_more (length names) (length more) lines low inside

  pub chosen_push : index < length more → All (λ i. i < length more) (choices ++ index ∷ [])
  chosen_push own =
      let low : length names ≤ length more = subst (λ m. length names ≤ length m) (sym taken) (longer names (Some name)) in
      All-push (λ i. i < length more) choices index (λ k d below. omega (arith, low, chosen k d below)) own

  pub order_choice : all_names (map (named_by names) lines) (map (name_at names) choices) ≡ in_order names → all_names (map (named_by more) lines) (map (name_at more) (choices ++ index ∷ [])) ≡ in_order more
  order_choice h =
      ap (λ ls. all_names ls (map (name_at more) (choices ++ index ∷ []))) lines_same
      ∙ ap (λ cs. all_names (map (named_by names) lines) cs) choices_more
      ∙ fold_push (insert_key text_cmp) (handles_of (map (named_by names) lines)) (map (name_at names) choices) name
      ∙ ap (λ ns. insert_key text_cmp ns name) h
      ∙ in_order_with names (Some name)
      ∙ ap in_order (sym taken)

placed_one : (names order : List (List ℕ)) (line : Line) → HasIndex (length names) line → placed_at (map (place_of order) names) line ≡ placed order (named_by names line)
placed_one names order (step.Spawn index script) inside = ap (λ p. step.Spawn p script) (get_or-map (place_of order) names index [] 0 inside)
placed_one names order (step.Abort index) inside = ap step.Abort (get_or-map (place_of order) names index [] 0 inside)
placed_one names order (step.Drop index) inside = ap step.Drop (get_or-map (place_of order) names index [] 0 inside)
placed_one names order (step.Join index) inside = ap step.Join (get_or-map (place_of order) names index [] 0 inside)
placed_one names order (step.Within index limit) inside = ap (λ p. step.Within p limit) (get_or-map (place_of order) names index [] 0 inside)
placed_one names order (step.Stopped index) inside = ap step.Stopped (get_or-map (place_of order) names index [] 0 inside)
placed_one names order (step.Wait index) inside = ap step.Wait (get_or-map (place_of order) names index [] 0 inside)
placed_one names order _ inside = refl

-- the places of the names give the lines their places
pub placed_named : (names order : List (List ℕ)) (lines : List Line) → All (HasIndex (length names)) lines → map (placed_at (map (place_of order) names)) lines ≡ map (placed order) (map (named_by names) lines)
placed_named names order [] inside = refl
placed_named names order (line ∷ lines) inside =
    let one : placed_at (map (place_of order) names) line ≡ placed order (named_by names line) = placed_one names order line (inside 0 line (omega arith)) in
    let rest = placed_named names order lines (All-tail (HasIndex (length names)) line lines inside) in
    ap (λ l. l ∷ map (placed_at (map (place_of order) names)) lines) one ∙ ap (λ ls. placed order (named_by names line) ∷ ls) rest

-- so do they give the choices theirs
pub placed_choices : (names order : List (List ℕ)) (choices : List ℕ) → All (λ index. index < length names) choices → map (slice_index (map (place_of order) names)) choices ≡ map (place_of order) (map (name_at names) choices)
placed_choices names order [] inside = refl
placed_choices names order (i ∷ is) inside =
    ap (λ p. p ∷ map (slice_index (map (place_of order) names)) is) (get_or-map (place_of order) names i [] 0 (inside 0 i (omega arith)))
    ∙ ap (λ ps. place_of order (name_at names i) ∷ ps) (placed_choices names order is (All-tail (λ index. index < length names) i is inside))

-- without names no line has an index
unplaced_line : (places : List ℕ) (line : Line) → length places ≡ 0 → HasIndex (length places) line → placed_at places line ≡ line
unplaced_line places (step.Spawn index script) none inside = absurd (omega (arith, none, inside))
unplaced_line places (step.Abort index) none inside = absurd (omega (arith, none, inside))
unplaced_line places (step.Drop index) none inside = absurd (omega (arith, none, inside))
unplaced_line places (step.Join index) none inside = absurd (omega (arith, none, inside))
unplaced_line places (step.Within index limit) none inside = absurd (omega (arith, none, inside))
unplaced_line places (step.Stopped index) none inside = absurd (omega (arith, none, inside))
unplaced_line places (step.Wait index) none inside = absurd (omega (arith, none, inside))
unplaced_line places _ none inside = refl

pub unplaced : (places : List ℕ) (lines : List Line) → length places ≡ 0 → All (HasIndex (length places)) lines → map (placed_at places) lines ≡ lines
unplaced places [] none inside = refl
unplaced places (line ∷ lines) none inside =
    let one : placed_at places line ≡ line = unplaced_line places line none (inside 0 line (omega arith)) in
    rw (one, unplaced places lines none (All-tail (HasIndex (length places)) line lines inside)) refl
