-- What the end of a task leaves of a state, with the phase known.
use Rattle.rt_machine.proofs.Prelude.{◌≡◌, ℕ, List, [], ◌++◌, refl, Bool, true, false, not, ◌&&◌, ◌||◌, if◌then◌else◌, Option, Some, None, is_none, Ended, FinishCause, Answer, NodeEnd, with_end, Outcome, Closed, TaskResult, State, Ending, Leaving, Visiting, Closing, find, without, without_number, those, flag_all, due_all, is_ended_at, with_outcome, after, released, unflagged, leaves, marks_ended, flagged_by, is_panic, results_ended, results_left, due_ended, due_left, is_closing, places, visit_places, ended_results, ended_waiting, panic_wakes}

no-panic : (a b c : Bool) (xs : List ℕ) → (if a && b && false && c then xs else []) ≡ []
no-panic true true true xs = refl
no-panic true true false xs = refl
no-panic true false c xs = refl
no-panic false b c xs = refl

or-not : (a b : Bool) → (a || (false && b)) ≡ a
or-not true b = refl
or-not false b = refl

-- in the cleanup
pub closing-ended : (s : State) (task : ℕ) (cause : Option FinishCause) → s.phase ≡ Closing cause → after s (Answer task Ended) ≡ record s { running = without_number task s.running; stood = record s.stood { nodes = released (find task s.marks) s.stood.nodes; results = with_outcome Closed task s.stood.results }; marks = without task s.marks; owed = []; announced = []; turns = [] }
unfolding after
closing-ended s task cause h = rw (h, no-panic s.root_left (not s.panicked) (not s.clock.fixed.catch) (those s.root), or-not s.panicked (not s.clock.fixed.catch)) refl

due-ending : (s : State) (task : ℕ) (own : Option Outcome) (left : List ℕ) (settles : Bool) (r : Option TaskResult) → due_ended (Ending task own left) settles r ≡ ended_waiting own settles r
due-ending s task None left true r = refl
due-ending s task None left false r = refl
due-ending s task (Some o) left settles r = refl

results-ending : (task : ℕ) (own : Option Outcome) (left : List ℕ) (settles : Bool) (k : ℕ) (rs : List (ℕ × TaskResult)) → results_ended (Ending task own left) settles k rs ≡ ended_results own settles k rs
results-ending task None left true k rs = refl
results-ending task None left false k rs = refl
results-ending task (Some o) left settles k rs = refl

-- in the task's own visit
pub visit-ended : (s : State) (task : ℕ) (own : Option Outcome) (left : List ℕ) (settles : Bool) → s.phase ≡ Ending task own left → is_ended_at s.stood.nodes (find task s.marks) ≡ settles → after s (Answer task Ended) ≡ record s { phase = leaves settles task own left; panicked = s.panicked || (is_panic own && not s.clock.fixed.catch); running = without_number task s.running; stood = record s.stood { nodes = released (find task s.marks) s.stood.nodes; results = ended_results own settles task s.stood.results }; marks = marks_ended settles task s.marks; owed = panic_wakes s own ++ ended_waiting own settles (find task s.stood.results); announced = []; turns = [] }
unfolding after
visit-ended s task own left settles h e = rw (h, e, due-ending s task own left settles (find task s.stood.results), results-ending task own left settles task s.stood.results) refl

-- where a task has left its visit, and where its node is to end next
pub leaves-places : (settles : Bool) (task : ℕ) (own : Option Outcome) (left : List ℕ) → (places (leaves settles task own left) ≡ 4) × (visit_places (leaves settles task own left) ≡ 0) × (is_closing (leaves settles task own left) ≡ false)
leaves-places true task own left = (refl, refl, refl)
leaves-places false task own left = (refl, refl, refl)

results-leaving : (task : ℕ) (own : Option Outcome) (left : List ℕ) (rs : List (ℕ × TaskResult)) → results_left (Leaving task own left) rs ≡ ended_results None (is_none own) task rs
results-leaving task None left rs = refl
results-leaving task (Some o) left rs = refl

due-leaving : (task : ℕ) (own : Option Outcome) (left : List ℕ) (rs : List (ℕ × TaskResult)) → due_left (Leaving task own left) rs ≡ ended_waiting None (is_none own) (find task rs)
due-leaving task None left rs = refl
due-leaving task (Some o) left rs = refl

-- the node of a task that leaves
pub node-ended : (s : State) (task : ℕ) (own : Option Outcome) (left : List ℕ) (node : ℕ) → s.phase ≡ Leaving task own left → after s (NodeEnd node) ≡ record s { phase = Visiting left; stood = record s.stood { nodes = unflagged (with_end s.stood.nodes node); results = ended_results None (is_none own) task s.stood.results }; marks = without task (flag_all (flagged_by s.stood.nodes node) s.marks); owed = due_all (flagged_by s.stood.nodes node) s.marks ++ ended_waiting None (is_none own) (find task s.stood.results); announced = []; turns = [] }
unfolding after
node-ended s task own left node h = rw (h, results-leaving task own left s.stood.results, due-leaving task own left s.stood.results) refl
