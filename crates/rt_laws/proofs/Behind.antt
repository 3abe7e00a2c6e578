-- Behind a part that lacked memory a run doesn't go on.
use Rattle.rt_laws.proofs.Prelude.{◌≡◌, ◌∷◌, ◌++◌, ℕ, List, Some, true, false, refl, inl, inr, LacksMemory, Ended, Entry, Round, Visit, Answered, Advance, Skip, Fire, find, State, after, after_all, Held, put, Walks, Steps, Value, Moves, IsTied, taken, IsOnward}
use Rattle.rt_laws.proofs.Values.{all-whole, not-whole}
use Rattle.rt_laws.proofs.Misses.{tied-front, tied-tail}

module _ {A O : Type 0} (p : Steps A O) where
  onward-whole : (s : State) (v w : Value A O) (e : Entry) → IsOnward e → Moves p s v e w → v.whole ≡ true
  onward-whole s v w (Round order) o m = m.1
  onward-whole s v w (Visit task) o m = m.1
  onward-whole s v w (Advance now) o m = m.1
  onward-whole s v w (Skip now) o m = m.1
  onward-whole s v w (Fire alarm) o m = m.1
  onward-whole s v w _ o m = absurd o

  -- whoever goes on later is whole
  went-on : (s : State) (v w : Value A O) (x y : List Entry) (e : Entry) → IsOnward e → IsTied p s v (x ++ e ∷ y) w → v.whole ≡ true
  went-on s v w x y e o t =
      let k = tied-tail p s v w x (e ∷ y) t in
      all-whole p s v k.0 x (tied-front p s v w x (e ∷ y) t) (onward-whole (after_all s x) k.0 k.1.0 e o k.1.1)

pub poll_is_last : (A O : Type 0) (p : Steps A O) (s : State) (v w : Value A O) (task : ℕ) (x y : List Entry) (e : Entry) → IsOnward e → IsTied p s v (Answered task LacksMemory ∷ x ++ e ∷ y) w → ⊥
poll_is_last A O p s v w task x y e o t =
    let whole = went-on p (after s (Answered task LacksMemory)) t.0 w x y e o t.2 in
    not-whole t.0 (record v { held = put task t.1.left t.1.moved; whole = false }) whole refl t.1.is

pub end_is_whole : (A O : Type 0) (p : Steps A O) (s : State) (v w : Value A O) (task : ℕ) (x y : List Entry) (e : Entry) → IsOnward e → IsTied p s v (Answered task Ended ∷ x ++ e ∷ y) w → (a : A) × (find task v.held.tasks ≡ Some a) × ((end : Held A O) × Walks (p.task.last a s.clock.time task) (taken task v.held) s.turns s.stood tt tt end)
end_is_whole A O p s v w task x y e o t =
    let whole = went-on p (after s (Answered task Ended)) t.0 w x y e o t.2 in
    elim t.1.2 [
      | inl k ↦ (t.1.0, t.1.1, (t.0.held, k.0))
      | inr k ↦ not-whole t.0 (record v { held = t.0.held; whole = false }) whole refl k.1
    ]
