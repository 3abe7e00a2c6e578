-- Where every node is ended, none of the calls makes one that isn't.
use Rattle.rt_machine.proofs.Prelude.{◌≡◌, ◌∙◌, sym, ℕ, List, [], ◌∷◌, ◌++◌, refl, Bool, true, false, ◌||◌, ◌&&◌, ◌==◌, if◌then◌else◌, Option, Some, None, is_some, map, arith, option_map_or, NodeState, TreeRecord, AreEnded, is_known, is_live, is_ended, node_at, with_release, with_task, with_child, Mark, released, unflagged}
use Rattle.std.proofs.Common.{find}

abbrev given_up : NodeState → NodeState
given_up x = record x { live = false }

abbrev seated : ℕ → NodeState → NodeState
seated task x = record x { task = Some task }

links-release : (n : ℕ) (xs : List NodeState) → map {A = NodeState} {B = ℕ × Option ℕ} (λ x. (x.number, x.parent)) (map {A = NodeState} {B = NodeState} (λ x. if x.number == n then given_up x else x) xs) ≡ map (λ x. (x.number, x.parent)) xs
links-release n [] = refl
links-release n (x ∷ xs) = grind (arith, links-release n xs)

links-task : (n task : ℕ) (xs : List NodeState) → map {A = NodeState} {B = ℕ × Option ℕ} (λ x. (x.number, x.parent)) (map {A = NodeState} {B = NodeState} (λ x. if x.number == n then seated task x else x) xs) ≡ map (λ x. (x.number, x.parent)) xs
links-task n task [] = refl
links-task n task (x ∷ xs) = grind (arith, links-task n task xs)

born-release : (n m : ℕ) (xs : List NodeState) → option_map_or (λ x. x.born_ended) (find (λ x. x.number == m) (map {A = NodeState} {B = NodeState} (λ x. if x.number == n then given_up x else x) xs)) false ≡ option_map_or (λ x. x.born_ended) (find (λ x. x.number == m) xs) false
born-release n m [] = refl
born-release n m (x ∷ xs) = grind (arith, born-release n m xs)

known-release : (n m : ℕ) (xs : List NodeState) → is_some (find (λ x. x.number == m) (map {A = NodeState} {B = NodeState} (λ x. if x.number == n then given_up x else x) xs)) ≡ is_some (find (λ x. x.number == m) xs)
known-release n m [] = refl
known-release n m (x ∷ xs) = grind (arith, known-release n m xs)

born-task : (n m task : ℕ) (xs : List NodeState) → option_map_or (λ x. x.born_ended) (find (λ x. x.number == m) (map {A = NodeState} {B = NodeState} (λ x. if x.number == n then seated task x else x) xs)) false ≡ option_map_or (λ x. x.born_ended) (find (λ x. x.number == m) xs) false
born-task n m task [] = refl
born-task n m task (x ∷ xs) = grind (arith, born-task n m task xs)

known-task : (n m task : ℕ) (xs : List NodeState) → is_some (find (λ x. x.number == m) (map {A = NodeState} {B = NodeState} (λ x. if x.number == n then seated task x else x) xs)) ≡ is_some (find (λ x. x.number == m) xs)
known-task n m task [] = refl
known-task n m task (x ∷ xs) = grind (arith, known-task n m task xs)

pub over-release : (r : TreeRecord) (n : ℕ) → AreEnded r → AreEnded (with_release r n)
unfolding AreEnded
over-release r n all m known =
    let before : is_known r m ≡ true = sym (known-release n m r.nodes) ∙ known in
    rw (links-release n r.nodes, born-release n m r.nodes) (all m before)

pub over-task : (r : TreeRecord) (n task : ℕ) → AreEnded r → AreEnded (with_task r n task)
unfolding AreEnded
over-task r n task all m known =
    let before : is_known r m ≡ true = sym (known-task n m task r.nodes) ∙ known in
    rw (links-task n task r.nodes, born-task n m task r.nodes) (all m before)

pub over-released : (m : Option Mark) (r : TreeRecord) → AreEnded r → AreEnded (released m r)
over-released None r all = all
over-released (Some m) r all = over-release r m.node all

known-more : (m : ℕ) (xs : List NodeState) (y : NodeState) → is_some (find (λ x. x.number == m) (xs ++ y ∷ [])) ≡ (is_some (find (λ x. x.number == m) xs) || y.number == m)
known-more m [] y = grind arith
known-more m (x ∷ xs) y = grind (arith, known-more m xs y)

live-is-known : (r : TreeRecord) (p : ℕ) (o : Option NodeState) → node_at r p ≡ o → is_live r p ≡ true → is_known r p ≡ true
live-is-known r p None e h = absurd (cc)
live-is-known r p (Some x) e h = rw e refl

-- a live node is ended
pub over-node : (r : TreeRecord) (n : ℕ) → AreEnded r → is_live r n ≡ true → is_ended r n ≡ true
unfolding AreEnded
over-node r n all live = all n (live-is-known r n (node_at r n) refl live)

pub over-unflagged : (r : TreeRecord) → AreEnded r → AreEnded (unflagged r)
unfolding AreEnded
over-unflagged r all = all

pub over-child : (r t : TreeRecord) (number parent : ℕ) (ended : Bool) → t ≡ with_child r number parent → ended ≡ is_ended r parent → ((n : ℕ) → is_ended t n ≡ (is_ended r n || (number == n && ended))) → is_live r parent ≡ true → AreEnded r → AreEnded t
unfolding AreEnded
over-child r t number parent ended made flag born live all m known =
    let over : ended ≡ true = flag ∙ all parent (live-is-known r parent (node_at r parent) refl live) in
    let both : (is_known r m || number == m) ≡ true = sym (known-more m r.nodes _) ∙ (rw made at known) in
    born m ∙ by (is_known r m) refl both over
  where
    by : (b : Bool) → is_known r m ≡ b → (is_known r m || number == m) ≡ true → ended ≡ true → (is_ended r m || (number == m && ended)) ≡ true
    by true k both over = rw (all m k) refl
    by false k both over =
        let same : (number == m) ≡ true = rw k at both in
        rw (same, over) (or-true (is_ended r m))
      where
        or-true : (b : Bool) → (b || true) ≡ true
        or-true true = refl
        or-true false = refl

pub not-both : (b : Bool) → b ≡ true → b ≡ false → ⊥
not-both true h k = cc
not-both false h k = cc

pub not-closing : (b : Bool) → (b ≡ true → ⊥) → b ≡ false
not-closing true h = absurd (h refl)
not-closing false h = refl

pub ruleset over_laws = (over-release, over-unflagged)
