-- What holds where a call went well.
use Rattle.rt_machine.proofs.Prelude.{◌≡◌, ◌≤◌, false, Result, Ok, Err, OnOk, is_err, arith, Phase, Blank, places}

pub on-ok : {A E : Type 0} (r : Result A E) (P : Type 0) → false ≡ is_err r → OnOk r P → P
on-ok (Ok v) P h p = p
on-ok (Err e) P h p = absurd (cc)

-- no phase asks for more
pub places-most : (p : Phase) → places p ≤ 6
places-most Blank = omega arith
places-most _ = omega arith
