-- Which nodes have ended, as the nodes change.
use Rattle.rt_walk.proofs.Prelude.{◌≡◌, ◌∙◌, ℕ, Bool, true, false, cond, not, ◌||◌, ◌&&◌, eqb, List, [], ◌∷◌, ◌++◌, map, filter, refl, sym, ap, arith, Option, Some, None, list_any, option_map_or, option_or, map-append, list_any-append, find-append, nat_tests, NodeState, TreeRecord, is_child, is_known, links, nodes_below, subtree, stands_in, was_born_ended, is_ended, newly_ended, new_node, has_number, AreEnded, told_by}
use Rattle.std.specs.List.{find}
use Rattle.std.specs.Option.{is_some}
use Rattle.rt_walk.proofs.Members.{list_any-number}

-- this change of the nodes with this number
abbrev pub on_number : ℕ → (NodeState → NodeState) → NodeState → NodeState
on_number n change x = cond (eqb x.number n) (change x) x

abbrev pub given_up : NodeState → NodeState
given_up x = record x { live = false }

abbrev pub put_on : ℕ → NodeState → NodeState
put_on task x = record x { task = Some task }

-- a change that keeps numbers, parents and births

pub links-kept : (g : NodeState → NodeState) → ((x : NodeState) → (g x).number ≡ x.number) → ((x : NodeState) → (g x).parent ≡ x.parent) → (xs : List NodeState) (ends : List ℕ) → links (told_by (map g xs) ends) ≡ links (told_by xs ends)
links-kept g number parent [] ends = refl
links-kept g number parent (x ∷ xs) ends = rw (number x, parent x, links-kept g number parent xs ends) refl

born-kept : (g : NodeState → NodeState) → ((x : NodeState) → (g x).number ≡ x.number) → ((x : NodeState) → (g x).born_ended ≡ x.born_ended) → (xs : List NodeState) (ends : List ℕ) (n : ℕ) → was_born_ended (told_by (map g xs) ends) n ≡ was_born_ended (told_by xs ends) n
born-kept g number born [] ends n = refl
born-kept g number born (x ∷ xs) ends n =
    ap (λ k. option_map_or (λ x. x.born_ended) (cond (eqb k n) (Some (g x)) (find (λ x. eqb x.number n) (map g xs))) false) (number x)
    ∙ by (eqb x.number n) (born-kept g number born xs ends n)
  where
    by : (b : Bool) → was_born_ended (told_by (map g xs) ends) n ≡ was_born_ended (told_by xs ends) n → option_map_or (λ x. x.born_ended) (cond b (Some (g x)) (find (λ x. eqb x.number n) (map g xs))) false ≡ option_map_or (λ x. x.born_ended) (cond b (Some x) (find (λ x. eqb x.number n) xs)) false
    by true rest = born x
    by false rest = rest

ended-kept : (g : NodeState → NodeState) → ((x : NodeState) → (g x).number ≡ x.number) → ((x : NodeState) → (g x).parent ≡ x.parent) → ((x : NodeState) → (g x).born_ended ≡ x.born_ended) → (ended : List ℕ) (xs : List NodeState) (ends : List ℕ) → AreEnded ended (told_by xs ends) → AreEnded ended (told_by (map g xs) ends)
ended-kept g number parent born ended xs ends h n =
    h n ∙ sym (rw (born-kept g number born xs ends n, links-kept g number parent xs ends) refl)

pub same-on : {X : Type 0} → (f : NodeState → X) (change : NodeState → NodeState) (n : ℕ) → ((x : NodeState) → f (change x) ≡ f x) → (x : NodeState) → f (on_number n change x) ≡ f x
same-on f change n keeps x = elim (eqb x.number n) as (λ b. f (cond b (change x) x) ≡ f x) [ true ↦ keeps x | false ↦ refl ]

pub ended-given_up : (ended : List ℕ) (xs ys : List NodeState) (ends : List ℕ) (n : ℕ) → ys ≡ map (on_number n given_up) xs → AreEnded ended (told_by xs ends) → AreEnded ended (told_by ys ends)
ended-given_up ended xs ys ends n e h =
    rw e (ended-kept (on_number n given_up) (same-on (λ x. x.number) given_up n (λ x. refl)) (same-on (λ x. x.parent) given_up n (λ x. refl)) (same-on (λ x. x.born_ended) given_up n (λ x. refl)) ended xs ends h)

pub ended-put_on : (ended : List ℕ) (xs ys : List NodeState) (ends : List ℕ) (n task : ℕ) → ys ≡ map (on_number n (put_on task)) xs → AreEnded ended (told_by xs ends) → AreEnded ended (told_by ys ends)
ended-put_on ended xs ys ends n task e h =
    rw e (ended-kept (on_number n (put_on task)) (same-on (λ x. x.number) (put_on task) n (λ x. refl)) (same-on (λ x. x.parent) (put_on task) n (λ x. refl)) (same-on (λ x. x.born_ended) (put_on task) n (λ x. refl)) ended xs ends h)

-- a new node

below-alone : (a n : ℕ) (xs : List (ℕ × Option ℕ)) → nodes_below a (xs ++ (n, None) ∷ []) ≡ nodes_below a xs
below-alone a n [] = refl
below-alone a n (x ∷ xs) = rw (below-alone x.0 n xs, below-alone a n xs) refl

any-alone : (xs : List (ℕ × Option ℕ)) (n m : ℕ) (ends : List ℕ) → list_any (λ e. stands_in (subtree (xs ++ (n, None) ∷ []) e) m) ends ≡ list_any (λ e. stands_in (subtree xs e) m) ends
any-alone xs n m [] = refl
any-alone xs n m (e ∷ ends) = rw (below-alone e n xs, any-alone xs n m ends) refl

pub neither : (a b : Bool) → (a || b) ≡ false → (a ≡ false) × (b ≡ false)
neither true b e = (cc, cc)
neither false b e = (refl, e)

stands-append : (n : ℕ) (xs ys : List ℕ) → stands_in (xs ++ ys) n ≡ (stands_in xs n || stands_in ys n)
stands-append n xs ys = list_any-append (λ x. eqb x n) xs ys

-- a new node adds nothing to what stands below another, unless its parent stands there
below-new : (a n q : ℕ) (xs : List (ℕ × Option ℕ)) → stands_in (a ∷ nodes_below a xs) q ≡ false → nodes_below a (xs ++ (n, Some q) ∷ []) ≡ nodes_below a xs
below-new a n q [] apart = rw ((neither (eqb a q) false apart).0) refl
below-new a n q (x ∷ xs) apart = by (is_child a x.1) apart (λ h. below-new a n q xs h) (λ h. below-new x.0 n q xs h)
  where
    by : (b : Bool) → stands_in (a ∷ cond b ((x.0 ∷ nodes_below x.0 xs) ++ nodes_below a xs) (nodes_below a xs)) q ≡ false → (stands_in (a ∷ nodes_below a xs) q ≡ false → nodes_below a (xs ++ (n, Some q) ∷ []) ≡ nodes_below a xs) → (stands_in (x.0 ∷ nodes_below x.0 xs) q ≡ false → nodes_below x.0 (xs ++ (n, Some q) ∷ []) ≡ nodes_below x.0 xs) → cond b ((x.0 ∷ nodes_below x.0 (xs ++ (n, Some q) ∷ [])) ++ nodes_below a (xs ++ (n, Some q) ∷ [])) (nodes_below a (xs ++ (n, Some q) ∷ [])) ≡ cond b ((x.0 ∷ nodes_below x.0 xs) ++ nodes_below a xs) (nodes_below a xs)
    by true h others first =
        let parts = neither (eqb a q) (stands_in ((x.0 ∷ nodes_below x.0 xs) ++ nodes_below a xs) q) h in
        let halves = neither (stands_in (x.0 ∷ nodes_below x.0 xs) q) (stands_in (nodes_below a xs) q) (sym (stands-append q (x.0 ∷ nodes_below x.0 xs) (nodes_below a xs)) ∙ parts.1) in
        rw (first halves.0, others (rw (parts.0) halves.1)) refl
    by false h others first = others h

any-new : (xs : List (ℕ × Option ℕ)) (n q m : ℕ) (ends : List ℕ) → list_any (λ e. stands_in (subtree xs e) q) ends ≡ false → list_any (λ e. stands_in (subtree (xs ++ (n, Some q) ∷ []) e) m) ends ≡ list_any (λ e. stands_in (subtree xs e) m) ends
any-new xs n q m [] none = refl
any-new xs n q m (e ∷ ends) none =
    let parts = neither (stands_in (subtree xs e) q) (list_any (λ e. stands_in (subtree xs e) q) ends) none in
    rw (below-new e n q xs parts.0, any-new xs n q m ends parts.1) refl

links-new : (xs : List NodeState) (ends : List ℕ) (x : NodeState) → links (told_by (xs ++ x ∷ []) ends) ≡ links (told_by xs ends) ++ (x.number, x.parent) ∷ []
links-new xs ends x = map-append {B = ℕ × Option ℕ} (λ x. (x.number, x.parent)) xs (x ∷ [])

born-new : (xs : List NodeState) (ends : List ℕ) (x : NodeState) (n : ℕ) → was_born_ended (told_by (xs ++ x ∷ []) ends) n ≡ (was_born_ended (told_by xs ends) n || (x.born_ended && (not (is_known (told_by xs ends) x.number) && eqb x.number n)))
born-new xs ends x n =
    ap (λ o. option_map_or (λ x. x.born_ended) o false) (find-append (λ y. eqb y.number n) xs (x ∷ [])) ∙ by (eqb x.number n) refl
  where
    or_none : (b : Bool) → b ≡ (b || false)
    or_none true = refl
    or_none false = refl

    and_none : (a b : Bool) → (a && (b && false)) ≡ false
    and_none true true = refl
    and_none true false = refl
    and_none false b = refl

    at-once : (o : Option NodeState) → option_map_or (λ x. x.born_ended) (option_or o (Some x)) false ≡ (option_map_or (λ x. x.born_ended) o false || (x.born_ended && (not (is_some o) && true)))
    at-once None = elim x.born_ended as (λ b. b ≡ (b && true)) [ true ↦ refl | false ↦ refl ]
    at-once (Some y) = or_none y.born_ended ∙ ap (λ b. y.born_ended || b) (sym (off x.born_ended))
      where
        off : (b : Bool) → (b && false) ≡ false
        off true = refl
        off false = refl

    by : (b : Bool) → eqb x.number n ≡ b → option_map_or (λ x. x.born_ended) (option_or (find (λ y. eqb y.number n) xs) (cond b (Some x) None)) false ≡ (option_map_or (λ x. x.born_ended) (find (λ y. eqb y.number n) xs) false || (x.born_ended && (not (is_some (find (λ y. eqb y.number x.number) xs)) && b)))
    by true e = let same : n ≡ x.number = grind (arith, nat_tests) in rw same (at-once (find (λ y. eqb y.number x.number) xs))
    by false e =
        ap (λ o. option_map_or (λ x. x.born_ended) o false) (kept (find (λ y. eqb y.number n) xs))
        ∙ or_none _ ∙ ap (λ b. option_map_or (λ x. x.born_ended) (find (λ y. eqb y.number n) xs) false || b) (sym (and_none x.born_ended _))
      where
        kept : (o : Option NodeState) → option_or o None ≡ o
        kept None = refl
        kept (Some y) = refl

or-turned : (a b c : Bool) → ((a || b) || c) ≡ ((a || c) || b)
or-turned true b c = refl
or-turned false true true = refl
or-turned false true false = refl
or-turned false false true = refl
or-turned false false false = refl

or-false : (b : Bool) → (b || false) ≡ b
or-false true = refl
or-false false = refl

-- a child of a node that hasn't ended
pub ended-child : (ended : List ℕ) (xs : List NodeState) (ends : List ℕ) (number parent : ℕ) → is_ended (told_by xs ends) parent ≡ false → AreEnded ended (told_by xs ends) → AreEnded ended (told_by (xs ++ new_node number (Some parent) false ∷ []) ends)
ended-child ended xs ends number parent off h n =
    let r = told_by xs ends in
    h n ∙ sym (rw (born-new xs ends (new_node number (Some parent) false) n, links-new xs ends (new_node number (Some parent) false), or-false (was_born_ended r n), any-new (links r) number parent n ends (neither (was_born_ended r parent) _ off).1) refl)

-- a child that is born ended
born-child : (xs : List NodeState) (ends : List ℕ) (number n : ℕ) → is_ended (told_by (xs ++ new_node number None true ∷ []) ends) n ≡ (is_ended (told_by xs ends) n || (not (is_known (told_by xs ends) number) && eqb number n))
born-child xs ends number n =
    let r = told_by xs ends in
    rw (born-new xs ends (new_node number None true) n, links-new xs ends (new_node number None true), any-alone (links r) number n ends)
    (or-turned (was_born_ended r n) (not (is_known r number) && eqb number n) (list_any (λ e. stands_in (subtree (links r) e) n) ends))

has-append : (k : ℕ) (xs ys : List ℕ) → has_number k (xs ++ ys) ≡ (has_number k xs || has_number k ys)
has-append k [] ys = refl
has-append k (x ∷ xs) ys = rw (has-append k xs ys) (or-assoc (eqb x k) (has_number k xs) (has_number k ys))
  where
    or-assoc : (a b c : Bool) → (a || (b || c)) ≡ ((a || b) || c)
    or-assoc true b c = refl
    or-assoc false b c = refl

pub ended-born_again : (ended : List ℕ) (xs : List NodeState) (ends : List ℕ) (number : ℕ) → is_known (told_by xs ends) number ≡ true → AreEnded ended (told_by xs ends) → AreEnded ended (told_by (xs ++ new_node number None true ∷ []) ends)
ended-born_again ended xs ends number known h n =
    h n ∙ sym (or-false (is_ended (told_by xs ends) n)) ∙ sym (rw known at (born-child xs ends number n))

pub ended-born : (ended : List ℕ) (xs : List NodeState) (ends : List ℕ) (number : ℕ) → is_known (told_by xs ends) number ≡ false → AreEnded ended (told_by xs ends) → AreEnded (ended ++ number ∷ []) (told_by (xs ++ new_node number None true ∷ []) ends)
ended-born ended xs ends number fresh h n =
    has-append n ended (number ∷ []) ∙ rw (h n, or-false (eqb number n)) (sym (rw fresh at (born-child xs ends number n)))

-- the end of a node

has-filtered : (p : ℕ → Bool) (k : ℕ) (xs : List ℕ) → has_number k (filter p xs) ≡ (has_number k xs && p k)
has-filtered p k [] = refl
has-filtered p k (x ∷ xs) = grind (arith, nat_tests, has-filtered p k xs)

pub ended-end : (ended : List ℕ) (xs : List NodeState) (ends : List ℕ) (node : ℕ) → AreEnded ended (told_by xs ends) → AreEnded (ended ++ newly_ended (told_by xs ends) node) (told_by xs (ends ++ node ∷ []))
ended-end ended xs ends node h n =
    let r = told_by xs ends in
    has-append n ended (newly_ended r node)
    ∙ rw (h n, has-filtered (λ m. not (is_ended r m)) n (subtree (links r) node), ← list_any-number n (subtree (links r) node)) (shift (is_ended r n) (stands_in (subtree (links r) node) n))
    ∙ sym (more (was_born_ended r n) _ (list_any (λ e. stands_in (subtree (links r) e) n) ends) (stands_in (subtree (links r) node) n) (list_any-append (λ e. stands_in (subtree (links r) e) n) ends (node ∷ [])))
  where
    shift : (a b : Bool) → (a || (b && not a)) ≡ (a || b)
    shift true b = refl
    shift false true = refl
    shift false false = refl

    more : (a all some one : Bool) → all ≡ (some || (one || false)) → (a || all) ≡ ((a || some) || one)
    more a all some one e = rw e (turn a some one)
      where
        turn : (a b c : Bool) → (a || (b || (c || false))) ≡ ((a || b) || c)
        turn true b c = refl
        turn false true c = refl
        turn false false c = or-false c

pub ended-by : (r : TreeRecord) (ended after fresh : List ℕ) (xs : List NodeState) (ends later : List ℕ) (node : ℕ) → told_by xs ends ≡ r → fresh ≡ newly_ended r node → after ≡ ended ++ fresh → later ≡ ends ++ node ∷ [] → AreEnded ended (told_by xs ends) → AreEnded after (told_by xs later)
ended-by r ended after fresh xs ends later node is e f g h n =
    let told : after ≡ ended ++ newly_ended (told_by xs ends) node = f ∙ ap (λ ys. ended ++ ys) (e ∙ ap (λ t. newly_ended t node) (sym is)) in
    ap (has_number n) told ∙ ended-end ended xs ends node h n ∙ ap (λ es. is_ended (told_by xs es) n) (sym g)

pub ruleset ended_laws = (ended-given_up, ended-put_on, ended-child, ended-born_again, ended-born, ended-end)
