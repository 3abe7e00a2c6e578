-- An event where calls are made.
use Rattle.rt_machine.proofs.Prelude.{◌≡◌, ℕ, ℤ, List, [], ◌∷◌, ◌++◌, codes, refl, ap, Option, w32, cast_unsigned, to_be_bytes, CallEntry, Event, Call, Stop, Stopped, CompletionAt, Done, stop_after, with_stop, State, Phase, Making, Entered, Polling, Ending, Closing, Announced, ends_next, after, announces, due_called, entered, is_closing, IsOfCall, announced_by, drawing, CallsAt, May, MayCall, MayEvent, turn_in}

entered-same : (s : State) (p : Phase) (root next by : Option ℕ) → CallsAt p root next by → entered s p ≡ p
entered-same s Making root next by may = refl
entered-same s (Polling task left) root next by may = refl
entered-same s (Ending task result left) root next by may = refl
entered-same s (Closing cause) root next by may = refl
entered-same s _ root next by may = absurd may

announces-one : (p : Phase) (root next by : Option ℕ) (events : List Announced) (label : List ℕ) (fields : List (List ℕ)) → CallsAt p root next by → announces p events label fields ≡ events ++ record { label = label; fields = fields } ∷ []
announces-one Making root next by events label fields may = refl
announces-one (Polling task left) root next by events label fields may = refl
announces-one (Ending task result left) root next by events label fields may = refl
announces-one (Closing cause) root next by events label fields may = refl
announces-one _ root next by events label fields may = absurd may

-- it joins those of the call that comes next, and that is all
pub after-event : (s : State) (by : Option ℕ) (label : List ℕ) (fields : List (List ℕ)) → MayCall s by → after s (Event label fields) ≡ record s { announced = s.announced ++ record { label = label; fields = fields } ∷ []; owed = [] }
unfolding after
after-event s by label fields may =
    rw (entered-same s s.phase s.root (ends_next s.running s.root) by may, announces-one s.phase s.root (ends_next s.running s.root) by s.announced label fields may) refl

-- and the call of a stop behind its own
pub after-stop : (s : State) (by : Option ℕ) (value : ℤ) (number : ℕ) (label : List ℕ) (fields : List (List ℕ)) → MayCall s by → after (after s (Event label fields)) (CallEntry by (Stop value) (CompletionAt number)) ≡ record s { draws = []; stood = record s.stood { signals = stop_after s.stood.signals s.stood.stop value; stop = with_stop s.stood.stop value }; announced = []; owed = due_called (is_closing s.phase) s.marks s.stood (Stop value) (CompletionAt number); turns = s.turns ++ turn_in s by (Stop value) (CompletionAt number) ∷ [] }
unfolding after
after-stop s by value number label fields may = ap (λ u. after u (CallEntry by (Stop value) (CompletionAt number))) (after-event s by label fields may)

-- where nothing is announced an event of a call may come
may-event : (s : State) (by : Option ℕ) (label : List ℕ) (fields : List (List ℕ)) (p : Phase) → CallsAt p s.root (ends_next s.running s.root) by → IsOfCall s.stood s.announced label fields → MayEvent p s label fields
may-event s by label fields (Entered task left) may of = absurd may
may-event s by label fields _ may of = (by, may, of)

pub may-stop : (s : State) (by : Option ℕ) (value : ℤ) → MayCall s by → s.owed ≡ [] → s.announced ≡ [] → May s (Event (codes "stop") (to_be_bytes w32 (cast_unsigned w32 value) ∷ []))
may-stop s by value may owes none = (owes, may-event s by _ _ s.phase may (Stop value, Done, rw none refl))

pub may-stopped : (s : State) (by : Option ℕ) → MayCall s by → s.owed ≡ [] → s.announced ≡ [] → May s (Event (codes "stopped") [])
may-stopped s by may owes none = (owes, may-event s by _ _ s.phase may (Stopped, Done, rw none refl))

pub may-drawing : (s : State) (by : Option ℕ) (call : Call) (name : List ℕ) → announced_by s.stood call Done ≡ drawing name → MayCall s by → s.owed ≡ [] → s.announced ≡ [] → May s (Event (codes "rand") (name ∷ []))
may-drawing s by call name is may owes none = (owes, may-event s by _ _ s.phase may (call, Done, rw none is))

pub ruleset event_laws = (after-event)
