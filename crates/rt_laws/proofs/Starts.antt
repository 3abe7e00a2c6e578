-- A run begins with its start.
use Rattle.rt_laws.proofs.Prelude.{◌≡◌, List, ◌∷◌, true, refl, Entry, Start, Wake, Begin, Blank, begun, May, IsLawful}
use Rattle.rt_laws.proofs.Stands.{stands, may_stand}

pub start-first : (b : Begin) (e : Entry) → May (begun b) e → e ≡ Start b.first b.start b.deadline b.cycle
unfolding begun
start-first b (Start next now deadline cycle) m = rw (m.1.1, m.1.2, m.1.3, m.1.4) refl
start-first b (Wake task) m = absurd (cc)
start-first b e m = let z : stands Blank e ≡ true = may_stand (begun b) e m in absurd (cc)

pub run_starts : (b : Begin) (e : Entry) (x : List Entry) → IsLawful (begun b) (e ∷ x) → e ≡ Start b.first b.start b.deadline b.cycle
run_starts b e x l = start-first b e l.0
