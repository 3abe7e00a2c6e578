-- The parts of the nodes' list that a change leaves.
use Rattle.rt_super.proofs.Prelude.{filter, not, ◌≡◌, ◌≢◌, ℕ, zero, suc, ◌+◌, ◌<◌, ◌≤◌, Bool, true, false, cond, ◌||◌, ◌&&◌, eqb, List, [], ◌∷◌, ◌++◌, length, map, get_or, set, refl, sym, ap, ◌∙◌, arith, Option, Some, None, Result, Ok, Err, ◌⊎◌, inl, inr, ⊎_elim, OnErr, map-set_same, slice_get, option_map, option_and_then, option_or, map-append, length-map, get_or-set_same, get_or-set_other, append-nil, length-set, length_push, map-set, set-get_or, slice_get-map, slice_get_within, slice_get_past, slice_get-get_or, get_or_from_slice_get, nat_tests, NodeState, TreeRecord, is_ended, is_child, is_known, newly_ended, tasks_on, subtree, stands_in, with_new, with_end, changed, task_at, Matches, placed, is_marked, parents, states, children_lists, children_from, adopted, IsOlder, AreOlder, IsClosed, IsSound, marks_set, Node}
use Rattle.rt_super.specs.Inside.{state_of}
use Rattle.rt_super.proofs.Below.{below, below_closed, below_marked}
use Rattle.rt_super.proofs.Walk.{no_fresh}
use Rattle.rt_super.proofs.Records.{Lasts, Keeps, slice_push, marked_push, record_new, record_changed}

-- a new place

pub children_push : (a i : ℕ) (ps : List (Option ℕ)) (p : Option ℕ) → children_from a i (ps ++ p ∷ []) ≡ children_from a i ps ++ cond (is_child a p) ((i + length ps) ∷ []) []
children_push a i [] p = let e : i + 0 ≡ i = omega arith in rw e refl
children_push a i (q ∷ ps) p =
    let e : i + suc (length ps) ≡ suc i + length ps = omega arith in
    rw (e, children_push a (suc i) ps p) (elim (is_child a q) as (λ b. cond b (i ∷ (children_from a (suc i) ps ++ cond (is_child a p) ((suc i + length ps) ∷ []) [])) (children_from a (suc i) ps ++ cond (is_child a p) ((suc i + length ps) ∷ []) []) ≡ cond b (i ∷ children_from a (suc i) ps) (children_from a (suc i) ps) ++ cond (is_child a p) ((suc i + length ps) ∷ []) []) [ true ↦ refl | false ↦ refl ])

no_children : (a i : ℕ) (ps : List (Option ℕ)) → AreOlder i ps → i + length ps ≤ a → children_from a i ps ≡ []
no_children a i [] older h = refl
no_children a i (None ∷ ps) older h = no_children a (suc i) ps older.1 (omega arith)
no_children a i (Some q ∷ ps) older h =
    let lower : q < i = omega (arith, older.0) in
    let other : eqb a q ≡ false = grind (arith, nat_tests) in
    rw other (no_children a (suc i) ps older.1 (omega arith))

older_push : (i : ℕ) (ps : List (Option ℕ)) (p : Option ℕ) → AreOlder i ps → IsOlder p (i + length ps) → AreOlder i (ps ++ p ∷ [])
older_push i [] p older o = (let e : i + 0 ≡ i = omega arith in rw e at o, tt)
older_push i (q ∷ ps) p older o = (older.0, older_push (suc i) ps p older.1 (let e : i + suc (length ps) ≡ suc i + length ps = omega arith in rw e at o))

older_at : (i k q : ℕ) (ps : List (Option ℕ)) → AreOlder i ps → slice_get ps k ≡ Some (Some q) → q < i + k
older_at i k q [] older at = cc
older_at i zero q (None ∷ ps) older at = cc
older_at i zero q (Some p ∷ ps) older at = let same : p ≡ q = cc in omega (arith, older.0)
older_at i (suc k) q (p ∷ ps) older at = omega (arith, older_at (suc i) k q ps older.1 at)

nil_push : (ls : List (List ℕ)) (n : ℕ) → get_or (ls ++ [] ∷ []) n [] ≡ get_or ls n []
nil_push [] zero = refl
nil_push [] (suc n) = refl
nil_push (l ∷ ls) zero = refl
nil_push (l ∷ ls) (suc n) = nil_push ls n

length-adopted : (ls : List (List ℕ)) (parent : Option ℕ) (child : ℕ) → length (adopted ls parent child) ≡ length ls
length-adopted ls None child = refl
length-adopted ls (Some p) child = length-set ls p (get_or ls p [] ++ child ∷ [])

pub marks_set-push : (ended : List Bool) (flag : Bool) → marks_set ended ≤ marks_set (ended ++ flag ∷ [])
marks_set-push [] flag = omega arith
marks_set-push (b ∷ bs) flag = omega (arith, marks_set-push bs flag)

or_left : (a b : Bool) → a ≡ true → (a || b) ≡ true
or_left true b e = refl
or_left false b e = cc

pub or_right : (a b : Bool) → b ≡ true → (a || b) ≡ true
or_right true b e = refl
or_right false b e = e

-- a parent that isn't marked
abbrev pub IsUnmarked : List Bool → Option ℕ → Type 0
IsUnmarked ended None = Unit {0}
IsUnmarked ended (Some p) = is_marked ended p ≡ false

pub sound_push : (ps : List (Option ℕ)) (ls : List (List ℕ)) (ended : List Bool) (parent : Option ℕ) (flag : Bool) → IsSound ps ls ended → IsOlder parent (length ps) → IsUnmarked ended parent → (parent ≡ None → (flag ≡ true) ⊎ (length ps ≡ 0)) → IsSound (ps ++ parent ∷ []) (adopted ls parent (length ps) ++ [] ∷ []) (ended ++ flag ∷ [])
sound_push ps ls ended parent flag s older unmarked alone = record {
  lengths = omega (arith, length_push ended flag, length_push ps parent, s.lengths);
  same = omega (arith, length_push (adopted ls parent (length ps)) [], length_push ps parent, length-adopted ls parent (length ps), s.same);
  older = older_push 0 ps parent s.older (let e : 0 + length ps ≡ length ps = omega arith in rw e older);
  lists = λ n. nil_push (adopted ls parent (length ps)) n ∙ lists n parent older ∙ sym (children_push n 0 ps parent);
  closed = λ k q at on. closed k q (slice_get ps k) refl (sym (slice_push ps parent k) ∙ at) (sym (marked_push ended flag q) ∙ on);
  rooted = λ n at. rooted n (slice_get ps n) refl (sym (slice_push ps parent n) ∙ at);
}
  where
    lists : (n : ℕ) (p : Option ℕ) → IsOlder p (length ps) → get_or (adopted ls p (length ps)) n [] ≡ children_from n 0 ps ++ cond (is_child n p) ((0 + length ps) ∷ []) []
    lists n None o = s.lists n ∙ sym (append-nil (children_from n 0 ps))
    lists n (Some p) o = by (eqb n p) refl
      where
        by : (b : Bool) → eqb n p ≡ b → get_or (set ls p (get_or ls p [] ++ length ps ∷ [])) n [] ≡ children_from n 0 ps ++ cond b ((0 + length ps) ∷ []) []
        by true e =
            let same : n ≡ p = grind (arith, nat_tests) in
            let within : p < length ls = omega (arith, s.same, o) in
            let z : 0 + length ps ≡ length ps = omega arith in
            rw (same, get_or-set_same ls p (get_or ls p [] ++ length ps ∷ []) [] within, s.lists p, z) refl
        by false e =
            let other : n ≢ p = grind (arith, nat_tests) in
            get_or-set_other ls p n (get_or ls p [] ++ length ps ∷ []) [] other ∙ s.lists n ∙ sym (append-nil (children_from n 0 ps))

    rooted : (n : ℕ) (o : Option (Option ℕ)) → slice_get ps n ≡ o → option_or o (cond (eqb (length ps) n) (Some parent) None) ≡ Some None → (n ≡ 0) ⊎ (is_marked (ended ++ flag ∷ []) n ≡ true)
    rooted n (Some o) there at = ⊎_elim (λ z. inl z) (λ on. inr (marked_push ended flag n ∙ or_left (is_marked ended n) (eqb (length ended) n && flag) on)) (s.rooted n (there ∙ at))
    rooted n None there at = by (eqb (length ps) n) refl at
      where
        both : (a b : Bool) → a ≡ true → b ≡ true → (a && b) ≡ true
        both a b e f = rw (e, f) refl

        by : (b : Bool) → eqb (length ps) n ≡ b → cond b (Some parent) None ≡ Some None → (n ≡ 0) ⊎ (is_marked (ended ++ flag ∷ []) n ≡ true)
        by false e at' = cc
        by true e at' =
            let none : parent ≡ None = cc in
            let same : length ps ≡ n = grind (arith, nat_tests) in
            let here : eqb (length ended) n ≡ true = rw (s.lengths) e in
            ⊎_elim (λ on. inr (marked_push ended flag n ∙ or_right (is_marked ended n) (eqb (length ended) n && flag) (both (eqb (length ended) n) flag here on))) (λ z. inl (sym same ∙ z)) (alone none)

    first : (a b c : Bool) → (a || (b && c)) ≡ true → b ≡ false → a ≡ true
    first true b c e f = refl
    first false true c e f = cc
    first false false c e f = e

    closed : (k q : ℕ) (o : Option (Option ℕ)) → slice_get ps k ≡ o → option_or o (cond (eqb (length ps) k) (Some parent) None) ≡ Some (Some q) → (is_marked ended q || (eqb (length ended) q && flag)) ≡ true → is_marked (ended ++ flag ∷ []) (0 + k) ≡ true
    closed k q (Some o) there at on =
        let is : slice_get ps k ≡ Some (Some q) = there ∙ at in
        let within = slice_get_within ps k (Some q) is in
        let lower = older_at 0 k q ps s.older is in
        let other : eqb (length ended) q ≡ false = let l = s.lengths in grind (arith, nat_tests) in
        let marked = first (is_marked ended q) (eqb (length ended) q) flag on other in
        marked_push ended flag (0 + k) ∙ or_left (is_marked ended (0 + k)) (eqb (length ended) (0 + k) && flag) (s.closed k q is marked)
    closed k q None there at on = by (eqb (length ps) k) refl parent at older unmarked
      where
        by : (b : Bool) → eqb (length ps) k ≡ b → (p : Option ℕ) → cond b (Some p) None ≡ Some (Some q) → IsOlder p (length ps) → IsUnmarked ended p → is_marked (ended ++ flag ∷ []) (0 + k) ≡ true
        by false e p at' o f = cc
        by true e None at' o f = cc
        by true e (Some p) at' o f =
            let same : p ≡ q = cc in
            let other : eqb (length ended) q ≡ false = let l = s.lengths in let w : p < length ps = o in grind (arith, nat_tests) in
            let marked : is_marked ended p ≡ true = rw same (first (is_marked ended q) (eqb (length ended) q) flag on other) in
            absurd (both (sym marked ∙ f))
          where
            both : true ≡ false → ⊥
            both h = cc

-- an end
pub sound_end : (ps : List (Option ℕ)) (ls : List (List ℕ)) (ended after : List Bool) (n : ℕ) → IsSound ps ls ended → length after ≡ length ended → ((m : ℕ) → is_marked after m ≡ (is_marked ended m || stands_in (subtree (placed 0 ps) n) m)) → IsSound ps ls after
sound_end ps ls ended after n s lengths marks = record {
  lengths = lengths ∙ s.lengths;
  same = s.same;
  older = s.older;
  lists = s.lists;
  closed = λ k q at on. marks (0 + k) ∙ by k q at (is_marked ended q) (stands_in (subtree (placed 0 ps) n) q) refl refl (sym (marks q) ∙ on);
  rooted = λ m at. ⊎_elim (λ z. inl z) (λ on. inr (marks m ∙ or_left (is_marked ended m) (stands_in (subtree (placed 0 ps) n) m) on)) (s.rooted m at);
}
  where
    by : (k q : ℕ) → slice_get ps k ≡ Some (Some q) → (a b : Bool) → is_marked ended q ≡ a → stands_in (subtree (placed 0 ps) n) q ≡ b → (a || b) ≡ true → (is_marked ended (0 + k) || stands_in (subtree (placed 0 ps) n) (0 + k)) ≡ true
    by k q at true b e f h = or_left (is_marked ended (0 + k)) (stands_in (subtree (placed 0 ps) n) (0 + k)) (s.closed k q at e)
    by k q at false true e f h = or_right (is_marked ended (0 + k)) (stands_in (subtree (placed 0 ps) n) (0 + k)) (or_right (eqb n (0 + k)) (stands_in (below n 0 ps) (0 + k)) (below_closed n 0 k q ps s.older at f))
    by k q at false false e f h = cc

-- an end of an ended node notes nothing
pub end_again : (ps : List (Option ℕ)) (ls : List (List ℕ)) (kept : List (Bool × Option ℕ)) (ended : List Bool) (flags : List ℕ) (r : TreeRecord) → IsSound ps ls ended → Matches ps kept ended flags r → (n : ℕ) → is_ended r n ≡ true → (with_end r n).flags ≡ r.flags
end_again ps ls kept ended flags r s right n on = by (is_known r n)
  where
    closed : IsClosed (is_ended r) 0 ps
    closed k q at e = right.ended (0 + k) ∙ s.closed k q at (sym (right.ended q) ∙ e)

    nothing : newly_ended r n ≡ []
    nothing = ap (λ ls. filter (λ m. not (is_ended r m)) (subtree ls n)) right.order ∙ no_fresh (is_ended r) (subtree (placed 0 ps) n) (on, below_marked (is_ended r) n 0 ps closed on)

    by : (b : Bool) → (cond b (record { nodes = r.nodes; ends = r.ends ++ n ∷ []; flags = r.flags ++ tasks_on r (newly_ended r n) }) r).flags ≡ r.flags
    by true = rw nothing (append-nil r.flags)
    by false = refl

-- where the first node is marked, all are
pub all_marked : (ps : List (Option ℕ)) (ls : List (List ℕ)) (ended : List Bool) → IsSound ps ls ended → is_marked ended 0 ≡ true → (n : ℕ) → n < length ps → is_marked ended n ≡ true
all_marked ps ls ended s on n within = up_to (suc n) n (omega arith) within
  where
    up_to : (most n : ℕ) → n < most → n < length ps → is_marked ended n ≡ true
    up_to zero n lower within = absurd (omega arith)
    up_to (suc most) n lower within = by (get_or ps n None) (slice_get-get_or ps n None within) (λ q older. up_to most q (omega arith) (omega arith))
      where
        by : (p : Option ℕ) → slice_get ps n ≡ Some p → ((q : ℕ) → q < n → is_marked ended q ≡ true) → is_marked ended n ≡ true
        by None at earlier = ⊎_elim (λ z. rw z on) (λ e. e) (s.rooted n at)
        by (Some q) at earlier =
            let older = older_at 0 n q ps s.older at in
            let place : 0 + n ≡ n = omega arith in
            rw place at (s.closed n q at (earlier q (omega arith)))

-- what holds anyway holds on an error
pub on_err : {T E P : Type 0} (r : Result T E) → P → OnErr r P
on_err (Ok x) p = tt
on_err (Err e) p = p

-- the state of a node, and its task

pub count_states : (nodes : List Node) → length (states nodes) ≡ length nodes
count_states nodes = length-map {B = Bool × Option ℕ} nodes (λ x. (x.live, x.task))

pub state_at : (nodes : List Node) (n : ℕ) → slice_get (states nodes) n ≡ option_map {U = Bool × Option ℕ} (λ x. (x.live, x.task)) (slice_get nodes n)
state_at nodes n = slice_get-map {B = Bool × Option ℕ} (λ x. (x.live, x.task)) nodes n

pub task_state : (nodes : List Node) (n : ℕ) → task_at nodes n ≡ option_and_then (λ x. x.1) (slice_get (states nodes) n)
task_state nodes n = same (slice_get nodes n) ∙ ap (λ o. option_and_then (λ x. x.1) o) (sym (state_at nodes n))
  where
    same : (o : Option Node) → option_and_then (λ x. x.task) o ≡ option_and_then (λ x. x.1) (option_map {U = Bool × Option ℕ} (λ x. (x.live, x.task)) o)
    same None = refl
    same (Some x) = refl

-- a node is replaced by one that is the same to f
pub set_keeps : {X : Type 0} (f : Node → X) (nodes : List Node) (p : ℕ) (x y : Node) → x ≡ get_or nodes p x → f y ≡ f x → map f (set nodes p y) ≡ map f nodes
set_keeps f nodes p x y at same = map-set_same f nodes p y x (same ∙ ap f at)

pub children_set : (nodes : List Node) (p child : ℕ) (x y : Node) → p < length nodes → x ≡ get_or nodes p x → y.children ≡ x.children ++ child ∷ [] → children_lists (set nodes p y) ≡ adopted (children_lists nodes) (Some p) child
children_set nodes p child x y known at more =
    let there : slice_get nodes p ≡ Some x = slice_get-get_or nodes p x known ∙ ap (λ z. Some z) (sym at) in
    let had : get_or (children_lists nodes) p [] ≡ x.children = get_or_from_slice_get (children_lists nodes) p x.children [] (slice_get-map (λ z. z.children) nodes p ∙ ap (λ o. option_map (λ z. z.children) o) there) in
    map-set (λ z. z.children) nodes p y ∙ ap (λ l. set (children_lists nodes) p l) (more ∙ ap (λ l. l ++ child ∷ []) (sym had))

-- a node more

pub sound_added : (A B : List Node) (x : Node) (ended : List Bool) (flag : Bool) (n : ℕ) → IsSound (parents B) (children_lists B) ended → parents A ≡ parents B → children_lists A ≡ adopted (children_lists B) x.parent n → x.children ≡ [] → n ≡ length B → IsOlder x.parent (length B) → IsUnmarked ended x.parent → (x.parent ≡ None → (flag ≡ true) ⊎ (length B ≡ 0)) → IsSound (parents (A ++ x ∷ [])) (children_lists (A ++ x ∷ [])) (ended ++ flag ∷ [])
sound_added A B x ended flag n s same lists none place older unmarked alone =
    let count : length (parents B) ≡ length B = length-map B (λ y. y.parent) in
    let pushed = sound_push (parents B) (children_lists B) ended x.parent flag s (rw count older) unmarked (λ e. rw count (alone e)) in
    let at : n ≡ length (parents B) = place ∙ sym count in
    let ps : parents (A ++ x ∷ []) ≡ parents B ++ x.parent ∷ [] = map-append (λ y. y.parent) A (x ∷ []) ∙ ap (λ qs. qs ++ x.parent ∷ []) same in
    let first : children_lists (A ++ x ∷ []) ≡ children_lists A ++ x.children ∷ [] = map-append (λ y. y.children) A (x ∷ []) in
    let ls : children_lists (A ++ x ∷ []) ≡ adopted (children_lists B) x.parent (length (parents B)) ++ [] ∷ [] = first ∙ ap (λ l. children_lists A ++ l ∷ []) none ∙ ap (λ l. l ++ [] ∷ []) (lists ∙ ap (λ k. adopted (children_lists B) x.parent k) at) in
    rw (ps, ls) pushed

pub right_added : (A B : List Node) (x : Node) (ended : List Bool) (flag : Bool) (flags : List ℕ) (r : TreeRecord) (n : ℕ) → Matches (parents B) (states B) ended flags r → parents A ≡ parents B → states A ≡ states B → x.live ≡ true → x.task ≡ None → length ended ≡ length (parents B) → n ≡ length B → Lasts r x.parent → Matches (parents (A ++ x ∷ [])) (states (A ++ x ∷ [])) (ended ++ flag ∷ []) flags (with_new r n x.parent flag)
right_added A B x ended flag flags r n s same states_same live task lengths place lasts =
    let count : length (parents B) ≡ length B = length-map B (λ y. y.parent) in
    let counts = count_states B in
    let at : n ≡ length (states B) = place ∙ sym counts in
    let ps : parents (A ++ x ∷ []) ≡ parents B ++ x.parent ∷ [] = map-append (λ y. y.parent) A (x ∷ []) ∙ ap (λ qs. qs ++ x.parent ∷ []) same in
    let new : Bool × Option ℕ = (x.live, x.task) in
    let blank : Bool × Option ℕ = (true, None) in
    let is : new ≡ blank = rw (live, task) refl in
    let ss : states (A ++ x ∷ []) ≡ states B ++ blank ∷ [] = map-append {B = Bool × Option ℕ} (λ y. (y.live, y.task)) A (x ∷ []) ∙ ap (λ l. l ++ new ∷ []) states_same ∙ ap (λ z. states B ++ z ∷ []) is in
    rw (ps, ss, at) (record_new _ _ _ _ r s x.parent flag (omega arith) (omega arith) lasts)

pub older_of : (p : Option ℕ) (n : ℕ) → ((x : ℕ) → p ≡ Some x → x < n) → IsOlder p n
older_of None n h = tt
older_of (Some q) n h = h q refl

pub lasts_of : (r : TreeRecord) (p : Option ℕ) → ((x : ℕ) → p ≡ Some x → is_ended r x ≡ false) → Lasts r p
lasts_of r None h = tt
lasts_of r (Some q) h = h q refl

pub unmarked_of : (ended : List Bool) (r : TreeRecord) (p : Option ℕ) → ((m : ℕ) → is_ended r m ≡ is_marked ended m) → Lasts r p → IsUnmarked ended p
unmarked_of ended r None e h = tt
unmarked_of ended r (Some q) e h = sym (e q) ∙ h

-- a node is changed
pub right_changed : (change : NodeState → NodeState) (nodes : List Node) (ended : List Bool) (flags : List ℕ) (r : TreeRecord) (n : ℕ) (x y : Node) → Keeps change → ((z : NodeState) → z.live ≡ x.live → z.task ≡ x.task → state_of (change z) ≡ (y.live, y.task)) → Matches (parents nodes) (states nodes) ended flags r → n < length nodes → x ≡ get_or nodes n x → Matches (parents nodes) (states (set nodes n y)) ended flags (changed change n r)
right_changed change nodes ended flags r n x y keeps same s known at =
    rw (map-set {B = Bool × Option ℕ} (λ z. (z.live, z.task)) nodes n y) (record_changed _ _ _ _ r s change n (y.live, y.task) keeps (λ z found. agrees z found))
  where
    there : slice_get (states nodes) n ≡ Some (x.live, x.task)
    there = state_at nodes n ∙ ap (λ o. option_map {U = Bool × Option ℕ} (λ z. (z.live, z.task)) o) (slice_get-get_or nodes n x known ∙ ap (λ z. Some z) (sym at))

    agrees : (z : NodeState) → slice_get (states nodes) n ≡ Some (state_of z) → state_of (change z) ≡ (y.live, y.task)
    agrees z found =
        let both : Some (state_of z) ≡ Some (x.live, x.task) = sym found ∙ there in
        let one : state_of z ≡ (x.live, x.task) = cc in
        same z (ap (λ w. w.0) one) (ap (λ w. w.1) one)

-- what was never made isn't changed
pub right_unchanged : (change : NodeState → NodeState) (nodes : List Node) (ended : List Bool) (flags : List ℕ) (r : TreeRecord) (n : ℕ) → Keeps change → Matches (parents nodes) (states nodes) ended flags r → length nodes ≤ n → Matches (parents nodes) (states nodes) ended flags (changed change n r)
right_unchanged change nodes ended flags r n keeps s past =
    let blank : Bool × Option ℕ = (false, None) in
    let stays = record_changed _ _ _ _ r s change n (get_or (states nodes) n blank) keeps (λ z found. absurd (none_some (sym found ∙ slice_get_past (states nodes) n (omega (arith, count_states nodes))))) in
    rw (set-get_or (states nodes) n blank) at stays
  where
    none_some : {X : Type 0} {x : X} → Some x ≡ None → ⊥
    none_some h = cc
