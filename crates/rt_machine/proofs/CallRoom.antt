-- The room of a call that is noted: with the room that it took, or by the place of its token, its entry and its wakes fit, and so does
-- what is promised then.
use Rattle.rt_machine.proofs.Prelude.{◌≡◌, ◌≤◌, ◌<◌, ◌+◌, ◌-◌, ℕ, refl, true, false, arith, Bool, ones}

module _ (spends : Bool) (promised cost freed waits : ℕ) (free : spends ≡ true → cost ≡ 0) (enough : waits + ones spends ≤ freed) (owed : freed ≤ promised + cost) where
  module _ (places old taken : ℕ) (most : places ≤ 6) (room : promised + places ≤ old) (kept : old ≤ taken) (took : spends ≡ false → promised + 7 + cost ≤ taken) where
    pub entry-fits : 0 < taken
    entry-fits = by spends free enough took
      where
        by : (b : Bool) → (b ≡ true → cost ≡ 0) → waits + ones b ≤ freed → (b ≡ false → promised + 7 + cost ≤ taken) → 0 < taken
        by true z e t = omega (arith, z refl, e, owed, room, kept)
        by false z e t = omega (arith, t refl)

    pub wakes-fit : (noted : ℕ) → noted + 1 ≡ taken → waits ≤ noted
    wakes-fit noted one = by spends free enough took
      where
        by : (b : Bool) → (b ≡ true → cost ≡ 0) → waits + ones b ≤ freed → (b ≡ false → promised + 7 + cost ≤ taken) → waits ≤ noted
        by true z e t = omega (arith, z refl, e, owed, room, kept, one)
        by false z e t = omega (arith, t refl, e, owed, one)

    pub room-after : (noted end : ℕ) → noted + 1 ≡ taken → noted ≤ end + waits → promised + cost - freed + places ≤ end
    room-after noted end one w = by spends free enough took
      where
        by : (b : Bool) → (b ≡ true → cost ≡ 0) → waits + ones b ≤ freed → (b ≡ false → promised + 7 + cost ≤ taken) → promised + cost - freed + places ≤ end
        by true z e t = omega (arith, z refl, e, owed, room, kept, one, w)
        by false z e t = omega (arith, t refl, e, owed, most, one, w)

  module _ (before after : ℕ) (room : promised ≤ before) (kept : before ≤ after) (took : spends ≡ false → promised + cost ≤ after) where
    seats : promised + cost ≤ after
    seats = by spends free took
      where
        by : (b : Bool) → (b ≡ true → cost ≡ 0) → (b ≡ false → promised + cost ≤ after) → promised + cost ≤ after
        by true z t = omega (arith, z refl, room, kept)
        by false z t = t refl

    pub seats-fit : waits ≤ after
    seats-fit = omega (arith, seats, enough, owed)

    pub seats-after : (woken end : ℕ) → woken ≤ waits → after ≤ end + woken → promised + cost - freed ≤ end
    seats-after woken end w k = omega (arith, seats, enough, w, k)
