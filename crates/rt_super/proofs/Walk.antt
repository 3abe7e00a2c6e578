-- The walk of an end: what it has passed, and what is still to come.
use Rattle.rt_super.proofs.Prelude.{◌≡◌, ◌≢◌, ℕ, zero, suc, ◌+◌, ◌<◌, ◌≤◌, Bool, true, false, not, ◌||◌, eqb, List, [], ◌∷◌, ◌++◌, length, reverse, get_or, set, refl, sym, ap, ◌∙◌, arith, Option, Some, None, filter, filter_map, append_assoc, length-append, slice_get, list_any, flat_map, AllByRecursion, IsDistinct, cons_option, option_map, option_and_then, option_to_list, append-nil, reverse-append, reverse-reverse, get_or-set_same, get_or-set_other, length-set, length-map, length-reverse, filter-append, filter_map-append, flat_map-append, slice_get-get_or, slice_get-map, get_or_from_slice_get, nat_tests, length-le_from_distinct_below, nodes_below, subtree, stands_in, task_at, IsSound, parents, children_lists, placed, is_marked, children_from, AreOlder, IsClosed, marks_set, Node}
use Rattle.rt_super.proofs.Below.{below, times, times-append, stands-times, stands-append, below_once_in, below_self, below_high, below_by_children, below_marked, or_false}

-- the tasks of those that weren't marked
abbrev pub fresh : (ℕ → Option ℕ) → (ℕ → Bool) → List ℕ → List ℕ
fresh tasks mark xs = filter_map tasks (filter (λ m. not (mark m)) xs)

-- What the walk from n has done: it has passed the first nodes of n's subtree, and those pending stand before the rest.
pub record IsWalk (parents : List (Option ℕ)) (tasks : ℕ → Option ℕ) (was : ℕ → Bool) (first : List ℕ) (n : ℕ) (mark : ℕ → Bool) (pending flags : List ℕ) : Type 0 where
  pub done : List ℕ
  pub order : done ++ flat_map (subtree (placed 0 parents)) (reverse pending) ≡ subtree (placed 0 parents) n
  pub marks : (m : ℕ) → mark m ≡ (was m || stands_in done m)
  pub noted : flags ≡ first ++ fresh tasks was done

-- a subtree has no number twice, and none past the last place

pub subtree_once : (m n : ℕ) (parents : List (Option ℕ)) → AreOlder 0 parents → times m (subtree (placed 0 parents) n) ≤ 1
subtree_once m n parents older = by (eqb n m) refl
  where
    by : (b : Bool) → eqb n m ≡ b → times m (subtree (placed 0 parents) n) ≤ 1
    by true e =
        let same : m ≡ n = grind (arith, nat_tests) in
        let none = below_self n parents older in
        rw (same) (grind (arith, nat_tests))
    by false e = let once = below_once_in m n parents older in rw e (omega arith)

pub subtree_within : (m n : ℕ) (parents : List (Option ℕ)) → n < length parents → 0 < times m (subtree (placed 0 parents) n) → m < length parents
subtree_within m n parents known there =
    let high : length parents ≤ m → times m (below n 0 parents) ≡ 0 = λ h. below_high m n 0 parents (omega arith) in
    grind (arith, nat_tests)

times-stands : (m : ℕ) (xs : List ℕ) → stands_in xs m ≡ true → 0 < times m xs
times-stands m [] e = cc
times-stands m (x ∷ xs) e = grind (arith, nat_tests, times-stands m xs)

distinct_from_once : (xs : List ℕ) → ((m : ℕ) → times m xs ≤ 1) → IsDistinct eqb xs
unfolding IsDistinct
distinct_from_once [] h = tt
distinct_from_once (x ∷ xs) h = (apart x xs none, distinct_from_once xs (λ m. let e = h m in omega arith))
  where
    none : times x xs ≡ 0
    none = let e = h x in grind (arith, nat_tests)

    apart : (y : ℕ) (ys : List ℕ) → times y ys ≡ 0 → AllByRecursion (λ z. eqb y z ≡ false) ys
    apart y [] e = tt
    apart y (z ∷ zs) e = (grind (arith, nat_tests), apart y zs (omega arith))

any_flipped : (q : ℕ) (xs : List ℕ) → list_any (eqb q) xs ≡ true → stands_in xs q ≡ true
any_flipped q [] e = e
any_flipped q (x ∷ xs) e = grind (arith, nat_tests, any_flipped q xs)

pub length-subtree : (n : ℕ) (parents : List (Option ℕ)) → AreOlder 0 parents → n < length parents → length (subtree (placed 0 parents) n) ≤ length parents
length-subtree n parents older known =
    length-le_from_distinct_below (subtree (placed 0 parents) n) (length parents)
    (distinct_from_once (subtree (placed 0 parents) n) (λ m. subtree_once m n parents older))
    (λ q e. subtree_within q n parents known (times-stands q (subtree (placed 0 parents) n) (any_flipped q (subtree (placed 0 parents) n) e)))

-- each of these is the first of its own list
pub length-le_flat_map : (under : ℕ → List ℕ) (xs : List ℕ) → length xs ≤ length (flat_map (λ c. c ∷ under c) xs)
length-le_flat_map under [] = omega arith
length-le_flat_map under (x ∷ xs) = omega (arith, length-append (x ∷ under x) (flat_map (λ c. c ∷ under c) xs), length-le_flat_map under xs)

-- marks

pub is_marked-set : (ended : List Bool) (v m : ℕ) → v < length ended → is_marked (set ended v true) m ≡ (is_marked ended m || eqb v m)
is_marked-set ended v m known = by (eqb v m) refl
  where
    or_true : (b : Bool) → (b || true) ≡ true
    or_true true = refl
    or_true false = refl

    by : (b : Bool) → eqb v m ≡ b → get_or (set ended v true) m false ≡ (get_or ended m false || b)
    by true e =
        let same : m ≡ v = grind (arith, nat_tests) in
        rw (same, get_or-set_same ended v true false known) (sym (or_true (get_or ended v false)))
    by false e =
        let other : m ≢ v = grind (arith, nat_tests) in
        rw (get_or-set_other ended v m true false other) (sym (or_false (get_or ended m false)))

pub marks_set-set : (ended : List Bool) (v : ℕ) → v < length ended → is_marked ended v ≡ false → marks_set (set ended v true) ≡ marks_set ended + 1
marks_set-set [] v known off = absurd (omega arith)
marks_set-set (b ∷ bs) zero known off = rw off (omega arith)
marks_set-set (b ∷ bs) (suc v) known off = omega (arith, marks_set-set bs v (omega arith) off)

pub marks_set-le : (ended : List Bool) → marks_set ended ≤ length ended
marks_set-le [] = omega arith
marks_set-le (true ∷ bs) = omega (arith, marks_set-le bs)
marks_set-le (false ∷ bs) = omega (arith, marks_set-le bs)

pub marks_set-lt : (ended : List Bool) (v : ℕ) → v < length ended → is_marked ended v ≡ false → marks_set ended < length ended
marks_set-lt ended v known off =
    let more = marks_set-set ended v known off in
    let all = marks_set-le (set ended v true) in
    omega (arith, length-set ended v true)

-- steps of the walk

pub fresh-append : (tasks : ℕ → Option ℕ) (was : ℕ → Bool) (xs ys : List ℕ) → fresh tasks was (xs ++ ys) ≡ fresh tasks was xs ++ fresh tasks was ys
fresh-append tasks was xs ys =
    rw (filter-append (λ m. not (was m)) xs ys) (filter_map-append tasks (filter (λ m. not (was m)) xs) (filter (λ m. not (was m)) ys))

pub no_fresh : (was : ℕ → Bool) (xs : List ℕ) → AllByRecursion (λ m. was m ≡ true) xs → filter (λ m. not (was m)) xs ≡ []
no_fresh was [] h = refl
no_fresh was (x ∷ xs) h = rw (h.0) (no_fresh was xs h.1)

fresh_of_marked : (tasks : ℕ → Option ℕ) (was : ℕ → Bool) (xs : List ℕ) → AllByRecursion (λ m. was m ≡ true) xs → fresh tasks was xs ≡ []
fresh_of_marked tasks was xs h = rw (no_fresh was xs h) refl

marked_where_stands : (was : ℕ → Bool) (xs : List ℕ) (m : ℕ) → AllByRecursion (λ m. was m ≡ true) xs → (was m || stands_in xs m) ≡ was m
marked_where_stands was [] m h = or_false (was m)
marked_where_stands was (x ∷ xs) m h = by (eqb x m) refl (marked_where_stands was xs m h.1)
  where
    by : (b : Bool) → eqb x m ≡ b → (was m || stands_in xs m) ≡ was m → (was m || (b || stands_in xs m)) ≡ was m
    by true e rest = let same : x ≡ m = grind (arith, nat_tests) in let on : was m ≡ true = rw same at h.0 in rw on refl
    by false e rest = rest

-- the next one's place in the order
pub walk_order : (parents : List (Option ℕ)) (tasks : ℕ → Option ℕ) (was : ℕ → Bool) (first : List ℕ) (n v : ℕ) (mark : ℕ → Bool) (pending flags : List ℕ) (w : IsWalk parents tasks was first n mark (pending ++ v ∷ []) flags) → w.done ++ (subtree (placed 0 parents) v ++ flat_map (subtree (placed 0 parents)) (reverse pending)) ≡ subtree (placed 0 parents) n
walk_order parents tasks was first n v mark pending flags w = rw (reverse-append pending (v ∷ [])) at w.order

-- the next one wasn't passed before
pub walk_new : (parents : List (Option ℕ)) (tasks : ℕ → Option ℕ) (was : ℕ → Bool) (first : List ℕ) (n v : ℕ) (mark : ℕ → Bool) (pending flags : List ℕ) (w : IsWalk parents tasks was first n mark (pending ++ v ∷ []) flags) → AreOlder 0 parents → stands_in w.done v ≡ false
walk_new parents tasks was first n v mark pending flags w older =
    let once = subtree_once v n parents older in
    let rest = flat_map (subtree (placed 0 parents)) (reverse pending) in
    let all : times v (w.done ++ (subtree (placed 0 parents) v ++ rest)) ≤ 1 = rw (walk_order parents tasks was first n v mark pending flags w) once in
    let parts = times-append v w.done (subtree (placed 0 parents) v ++ rest) in
    let self : eqb v v ≡ true = grind (arith, nat_tests) in
    let head : times v (subtree (placed 0 parents) v ++ rest) ≡ 1 + times v (nodes_below v (placed 0 parents) ++ rest) = rw self refl in
    stands-times v w.done (omega arith)

pub walk_within : (parents : List (Option ℕ)) (tasks : ℕ → Option ℕ) (was : ℕ → Bool) (first : List ℕ) (n v : ℕ) (mark : ℕ → Bool) (pending flags : List ℕ) → IsWalk parents tasks was first n mark (pending ++ v ∷ []) flags → n < length parents → v < length parents
walk_within parents tasks was first n v mark pending flags w known =
    let rest = flat_map (subtree (placed 0 parents)) (reverse pending) in
    let parts = times-append v w.done (subtree (placed 0 parents) v ++ rest) in
    let self : eqb v v ≡ true = grind (arith, nat_tests) in
    let head : times v (subtree (placed 0 parents) v ++ rest) ≡ 1 + times v (nodes_below v (placed 0 parents) ++ rest) = rw self refl in
    let there : 0 < times v (w.done ++ (subtree (placed 0 parents) v ++ rest)) = omega arith in
    subtree_within v n parents known (rw (walk_order parents tasks was first n v mark pending flags w) at there)

pub popped_within : (nodes : List Node) (tasks : ℕ → Option ℕ) (was : ℕ → Bool) (first : List ℕ) (n v : ℕ) (mark : ℕ → Bool) (pending all flags : List ℕ) → IsWalk (parents nodes) tasks was first n mark all flags → all ≡ pending ++ v ∷ [] → n < length nodes → v < length nodes
popped_within nodes tasks was first n v mark pending all flags w popped known =
    let places = length-map nodes (λ x. x.parent) in
    let within = walk_within (parents nodes) tasks was first n v mark pending flags (rw popped at w) (omega arith) in
    omega arith

-- a node's children, its mark and its task, as they are kept

pub children_at : (nodes : List Node) (ended : List Bool) (v : ℕ) (x : Node) → IsSound (parents nodes) (children_lists nodes) ended → v < length nodes → x ≡ get_or nodes v x → x.children ≡ children_from v 0 (parents nodes)
children_at nodes ended v x s known at =
    let there : slice_get nodes v ≡ Some x = slice_get-get_or nodes v x known ∙ ap (λ y. Some y) (sym at) in
    sym (get_or_from_slice_get (children_lists nodes) v x.children [] (slice_get-map (λ y. y.children) nodes v ∙ ap (λ o. option_map (λ y. y.children) o) there)) ∙ s.lists v

pub count_marks : (nodes : List Node) (ls : List (List ℕ)) (ended : List Bool) → IsSound (parents nodes) ls ended → length ended ≡ length nodes
count_marks nodes ls ended s = s.lengths ∙ length-map nodes (λ x. x.parent)

pub task_here : (nodes : List Node) (v : ℕ) (x : Node) → v < length nodes → x ≡ get_or nodes v x → task_at nodes v ≡ x.task
task_here nodes v x known at = ap (λ o. option_and_then (λ y. y.task) o) (slice_get-get_or nodes v x known ∙ ap (λ y. Some y) (sym at))

-- a marked one is passed over, with all below it
pub walk_skip : (parents : List (Option ℕ)) (tasks : ℕ → Option ℕ) (was : ℕ → Bool) (first : List ℕ) (n v : ℕ) (mark : ℕ → Bool) (pending flags : List ℕ) → IsWalk parents tasks was first n mark (pending ++ v ∷ []) flags → AreOlder 0 parents → IsClosed was 0 parents → mark v ≡ true → IsWalk parents tasks was first n mark pending flags
walk_skip parents tasks was first n v mark pending flags w older closed on =
    let before : was v ≡ true = was_marked (was v) (w.marks v) (walk_new parents tasks was first n v mark pending flags w older) in
    let all : AllByRecursion (λ m. was m ≡ true) (subtree (placed 0 parents) v) = (before, below_marked was v 0 parents closed before) in
    record {
      done = w.done ++ subtree (placed 0 parents) v;
      order = rw (append_assoc w.done (subtree (placed 0 parents) v) (flat_map (subtree (placed 0 parents)) (reverse pending))) (walk_order parents tasks was first n v mark pending flags w);
      marks = λ m. w.marks m ∙ more m all;
      noted = w.noted ∙ ap (λ xs. first ++ xs) (sym (rw (fresh-append tasks was w.done (subtree (placed 0 parents) v), fresh_of_marked tasks was (subtree (placed 0 parents) v) all) (append-nil (fresh tasks was w.done))));
    }
  where
    was_marked : (b : Bool) → mark v ≡ (b || stands_in w.done v) → stands_in w.done v ≡ false → b ≡ true
    was_marked true e none = refl
    was_marked false e none = sym none ∙ sym e ∙ on

    shift : (a b c : Bool) → (a || c) ≡ a → (a || b) ≡ (a || (b || c))
    shift true b c e = refl
    shift false b false e = elim b as (λ k. k ≡ (k || false)) [ true ↦ refl | false ↦ refl ]
    shift false b true e = cc

    more : (m : ℕ) → AllByRecursion (λ m. was m ≡ true) (subtree (placed 0 parents) v) → (was m || stands_in w.done m) ≡ (was m || stands_in (w.done ++ subtree (placed 0 parents) v) m)
    more m all = rw (stands-append m w.done (subtree (placed 0 parents) v)) (shift (was m) (stands_in w.done m) (stands_in (subtree (placed 0 parents) v) m) (marked_where_stands was (subtree (placed 0 parents) v) m all))

-- one that isn't marked is marked, and its children come next
pub walk_mark : (parents : List (Option ℕ)) (tasks : ℕ → Option ℕ) (was : ℕ → Bool) (first : List ℕ) (n v : ℕ) (mark after : ℕ → Bool) (pending flags : List ℕ) → IsWalk parents tasks was first n mark (pending ++ v ∷ []) flags → AreOlder 0 parents → mark v ≡ false → ((m : ℕ) → after m ≡ (mark m || eqb v m)) → IsWalk parents tasks was first n after (pending ++ reverse (children_from v 0 parents)) (flags ++ option_to_list (tasks v))
walk_mark parents tasks was first n v mark after pending flags w older off marked =
    let before : was v ≡ false = was_clear (was v) (w.marks v) in
    let children = children_from v 0 parents in
    let under = below_by_children (λ c. below c 0 parents) v 0 parents older (λ c h. refl) in
    let turned : reverse (pending ++ reverse children) ≡ children ++ reverse pending = rw (reverse-append pending (reverse children), reverse-reverse children) refl in
    let here : fresh tasks was (v ∷ []) ≡ option_to_list (tasks v) = rw before (listed (tasks v)) in
    record {
      done = w.done ++ v ∷ [];
      order = rw (turned, flat_map-append (subtree (placed 0 parents)) children (reverse pending), ← under, append_assoc w.done (v ∷ []) (below v 0 parents ++ flat_map (subtree (placed 0 parents)) (reverse pending))) (walk_order parents tasks was first n v mark pending flags w);
      marks = λ m. marked m ∙ more m (w.marks m);
      noted = rw (w.noted, fresh-append tasks was w.done (v ∷ []), here) (append_assoc first (fresh tasks was w.done) (option_to_list (tasks v)));
    }
  where
    listed : (o : Option ℕ) → cons_option o [] ≡ option_to_list o
    listed None = refl
    listed (Some t) = refl

    was_clear : (b : Bool) → mark v ≡ (b || stands_in w.done v) → b ≡ false
    was_clear true e = sym e ∙ off
    was_clear false e = refl

    shift : (a b c : Bool) → ((a || b) || c) ≡ (a || (b || (c || false)))
    shift true b c = refl
    shift false true c = refl
    shift false false c = elim c as (λ k. k ≡ (k || false)) [ true ↦ refl | false ↦ refl ]

    more : (m : ℕ) → mark m ≡ (was m || stands_in w.done m) → (mark m || eqb v m) ≡ (was m || stands_in (w.done ++ v ∷ []) m)
    more m e = rw (e, stands-append m w.done (v ∷ [])) (shift (was m) (stands_in w.done m) (eqb v m))

-- those pending are no more than the places
pub walk_room : (parents : List (Option ℕ)) (tasks : ℕ → Option ℕ) (was : ℕ → Bool) (first : List ℕ) (n : ℕ) (mark : ℕ → Bool) (pending flags : List ℕ) → IsWalk parents tasks was first n mark pending flags → AreOlder 0 parents → n < length parents → length pending ≤ length parents
walk_room parents tasks was first n mark pending flags w older known =
    let rest = flat_map (subtree (placed 0 parents)) (reverse pending) in
    let all = length-subtree n parents older known in
    let sum : length w.done + length rest ≡ length (subtree (placed 0 parents) n) = sym (length-append w.done rest) ∙ ap length w.order in
    let few = length-le_flat_map (λ c. below c 0 parents) (reverse pending) in
    let turned = length-reverse pending in
    omega arith

-- the pending ones' subtrees get shorter

pub walk_shorter_by_one : (parents : List (Option ℕ)) (pending : List ℕ) (v : ℕ) → AreOlder 0 parents → length (flat_map (subtree (placed 0 parents)) (reverse (pending ++ reverse (children_from v 0 parents)))) < length (flat_map (subtree (placed 0 parents)) (reverse (pending ++ v ∷ [])))
walk_shorter_by_one parents pending v older =
    let children = children_from v 0 parents in
    let rest = flat_map (subtree (placed 0 parents)) (reverse pending) in
    let under = below_by_children (λ c. below c 0 parents) v 0 parents older (λ c h. refl) in
    let turned : reverse (pending ++ reverse children) ≡ children ++ reverse pending = rw (reverse-append pending (reverse children), reverse-reverse children) refl in
    rw (turned, flat_map-append (subtree (placed 0 parents)) children (reverse pending), ← under, reverse-append pending (v ∷ [])) (omega (arith, length-append (below v 0 parents) rest))

-- a mark more, and a flag more at most
pub few_flags : (flags : List ℕ) (task : Option ℕ) (noted : List ℕ) (marks more : ℕ) → noted ≡ flags ++ option_to_list task → more ≡ marks + 1 → length flags ≤ marks → length noted ≤ more
few_flags flags None noted marks more e m few = rw e (omega (arith, length-append flags []))
few_flags flags (Some task) noted marks more e m few = rw e (omega (arith, length-append flags (task ∷ [])))
