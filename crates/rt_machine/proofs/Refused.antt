-- What a refused call leaves: everything but the turns.
use Rattle.rt_machine.proofs.Prelude.{◌≡◌, ℕ, List, [], ◌∷◌, ◌++◌, refl, true, false, Bool, Option, Error, Call, Child, Refused, CallEntry, Mark, State, Stood, after, due_called, is_closing, turn_in}

due-refused : (closing : Bool) (ms : List (ℕ × Mark)) (st : Stood) (call : Call) (e : Error) → due_called closing ms st call (Refused e) ≡ []
due-refused true ms st call e = refl
due-refused false ms st (Child node label) e = refl
due-refused false ms st _ e = refl

pub after-refused : (s : State) (by : Option ℕ) (call : Call) (e : Error) → after s (CallEntry by call (Refused e)) ≡ record s { draws = []; announced = []; owed = []; turns = s.turns ++ turn_in s by call (Refused e) ∷ [] }
unfolding after
after-refused s by (Child node label) e = rw (due-refused (is_closing s.phase) s.marks s.stood (Child node label) e) refl
after-refused s by call e = rw (due-refused (is_closing s.phase) s.marks s.stood call e) refl

pub ruleset refused_laws = (after-refused)
