-- A slot whose receiver was spent has nothing any more.
use Rattle.rt_machine.proofs.Prelude.{◌≡◌, ℕ, List, [], ◌∷◌, refl, ap, true, false, Bool, arith, Option, Some, None, is_some, Slots, AreRising, find, without, Stood, Spent, Seen}
use Rattle.rt_audit.specs.declared.slot_call.SlotCall.TheVariants.{GiveUp}

gone-at : {V : Type 0} (k : ℕ) (xs : List (ℕ × V)) → AreRising xs → find k (without k xs) ≡ None
gone-at k [] r = refl
gone-at k (x ∷ xs) r = grind (arith, gone-at k xs r.1, r.0 k)

none-of : {V : Type 0} (o : Option V) → is_some o ≡ false → o ≡ None
none-of None h = refl
none-of (Some v) h = cc

pub spent-gone : (by : Option ℕ) (old new : Seen) (slot : ℕ) → AreRising old.told.state.stood.slots.results → Spent by old new (Slots (GiveUp slot)) → find slot new.told.state.stood.slots.results ≡ None
spent-gone by old new slot rising spent = with (is_some (find slot old.told.state.stood.slots.results)) refl
  where
    with : (b : Bool) → is_some (find slot old.told.state.stood.slots.results) ≡ b → find slot new.told.state.stood.slots.results ≡ None
    with true e =
        let n = spent.there e in
        let results = ap (λ (s : Stood). s.slots.results) n.stood in
        rw results (gone-at slot old.told.state.stood.slots.results rising)
    with false e = rw (spent.gone e) (none-of (find slot old.told.state.stood.slots.results) e)
