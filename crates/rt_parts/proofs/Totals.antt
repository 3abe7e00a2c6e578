-- The places that marks and results hold, when one is changed.
use Rattle.std.proofs.Common.{◌≡◌, ◌≤◌, ◌+◌, ℕ, List, [], ◌∷◌, ◌++◌, refl, true, false, Bool, arith, Option, Some, None, option_map, is_some, length, not, if◌then◌else◌}
use Rattle.rt_model.specs.declared.result.Outcome.{Outcome}
use Rattle.rt_model.specs.declared.result.Outcome.TheVariants.{Open, There, Exited, Closed}
use Rattle.rt_model.specs.declared.result.TaskResult.{TaskResult}
use Rattle.rt_model.specs.Lists.{find, without, replaced, those}
use Rattle.rt_model.specs.Rows.{total}
use Rattle.rt_model.specs.Results.{may_abort, with_outcome}
use Rattle.rt_model.specs.Slots.{settled, aborted}
use Rattle.rt_parts.specs.Room.{ones, result_places, open_places, sender_places, open_in, waiter_in}

pub settle-places : (k : ℕ) (rs : List (ℕ × TaskResult)) (o : Outcome) → open_places o ≡ 0 → total result_places (with_outcome o k rs) + open_in (option_map (λ r. r.outcome) (find k rs)) ≡ total result_places rs
settle-places k [] o h = refl
settle-places k (r ∷ rs) o h = grind (arith, settle-places k rs o h)

-- whoever waits for a result waits for one that is open
pub waits-places : (o : Option Outcome) → length (those (waiter_in o)) ≤ open_in o
waits-places None = omega arith
waits-places (Some (Open None)) = omega arith
waits-places (Some (Open (Some k))) = omega arith
waits-places (Some There) = omega arith
waits-places (Some Exited) = omega arith
waits-places (Some Closed) = omega arith

total-same : {V : Type 0} (f : V → ℕ) (change : V → V) (k : ℕ) (xs : List (ℕ × V)) (v : V) → find k xs ≡ Some v → f (change v) ≡ f v → total f (replaced change k xs) ≡ total f xs
total-same f change k [] v h e = cc
total-same f change k (x ∷ xs) v h e = grind (arith, total-same f change k xs v)

pub join-places : (k : ℕ) (rs : List (ℕ × TaskResult)) (o : Outcome) (r : TaskResult) → find k rs ≡ Some r → open_places o ≡ open_places r.outcome → total result_places (with_outcome o k rs) ≡ total result_places rs
join-places k rs o r h e = total-same result_places (λ x. record x { outcome = o }) k rs r h (rw e refl)

pub without-places : {V : Type 0} (f : V → ℕ) (k : ℕ) (xs : List (ℕ × V)) (v : V) → find k xs ≡ Some v → total f (without k xs) + f v ≡ total f xs
without-places f k [] v h = cc
without-places f k (x ∷ xs) v h = grind (arith, without-places f k xs v)

pub more-places : {V : Type 0} (f : V → ℕ) (xs : List (ℕ × V)) (x : ℕ × V) → total f (xs ++ x ∷ []) ≡ total f xs + f x.1
more-places f [] x = omega arith
more-places f (y ∷ xs) x = omega (arith, more-places f xs x)

-- the places of all when one is changed
pub replaced-places : {V : Type 0} (f : V → ℕ) (change : V → V) (k : ℕ) (xs : List (ℕ × V)) (v : V) → find k xs ≡ Some v → total f (replaced change k xs) + f v ≡ total f xs + f (change v)
replaced-places f change k [] v h = cc
replaced-places f change k (x ∷ xs) v h = grind (arith, replaced-places f change k xs v)

pub settled-places : (k : ℕ) (rs : List (ℕ × TaskResult)) (o : Outcome) (r : TaskResult) (waits : Option ℕ) → find k rs ≡ Some r → r.outcome ≡ Open waits → open_places o ≡ 0 → total result_places (replaced (settled o) k rs) + 1 ≡ total result_places rs
settled-places k rs o r waits h e z =
    let all = replaced-places result_places (settled o) k rs r h in
    let before : result_places r ≡ 1 + ones (not r.aborted) + 1 = rw e refl in
    let behind : result_places (settled o r) ≡ 1 + ones (not r.aborted) + open_places o = rw e refl in
    omega (arith, all, before, behind, z)

pub wait-places : (k : ℕ) (rs : List (ℕ × TaskResult)) (r : TaskResult) → find k rs ≡ Some r → may_abort (find k rs) ≡ true → total result_places (replaced aborted k rs) + 1 + open_places r.outcome ≡ total result_places rs
wait-places k rs r h m =
    let free : not r.aborted ≡ true = rw h at m in
    let all = replaced-places result_places aborted k rs r h in
    let before : result_places r ≡ 1 + 1 + open_places r.outcome = rw free refl in
    omega (arith, all, before)

-- a sender that is spent
pub sender-fewer : (k : ℕ) (xs : List (ℕ × Unit {0})) → is_some (find k xs) ≡ true → total sender_places (without k xs) + 1 ≡ total sender_places xs
sender-fewer k [] h = cc
sender-fewer k (x ∷ xs) h = grind (arith, sender-fewer k xs)

pub ruleset place_laws = (settle-places, waits-places, join-places, more-places)
