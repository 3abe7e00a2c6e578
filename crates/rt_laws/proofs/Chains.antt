-- The times that a journal of several runs tells.
use Rattle.rt_laws.proofs.Prelude.{None, ◌≡◌, ◌≤◌, ◌&&◌, inl, inr, ℕ, List, [], ◌∷◌, ◌++◌, Option, Bool, true, false, refl, rules, arith, cases_Bool, time_after, last_time, last_time_from, AnswerKind, Pending, Ready, Panicked, Stopped, NoMemory, Ended, FinishCause, Completed, TaskPanicked, Entry, Start, Event, Root, Round, Visit, Answer, NodeEnd, Advance, Skip, Cleanup, Crash, Finish, is_ended, Begin, Outcome, There, Exited, find, is_some_number, is_flagged, State, Phase, Blank, Entered, Ending, Leaving, Cleaning, begun, reached, after, entered_by, entered, leaves, ended, finished, left_pending, answered, node_ended, cleans, left_of, is_settled, May, next_begin, renews, renewed, run_after, runs_after, AreLawful, small_begin, skipped_journal, ready_from, chain_journal}
use Rattle.rt_laws.proofs.Clock.{later-entry}
use Rattle.rt_laws.proofs.Runs.{skipped_run}
use Rattle.rt_laws.proofs.Several.{blank-same, join_runs, run_alone}
use Rattle.rt_laws.proofs.Starts.{start-first}

-- a run that has begun stays so

abbrev is_blank : Phase → Bool
is_blank Blank = true
is_blank _ = false

begun-by : (stopped flagged : Bool) (task : ℕ) (left : List ℕ) → is_blank (entered_by stopped flagged task left) ≡ false
begun-by true flagged task left = refl
begun-by false true task left = refl
begun-by false false task left = refl

begun-entered : (s : State) (p : Phase) → is_blank p ≡ false → is_blank (entered s p) ≡ false
begun-entered s (Entered task left) n = begun-by (is_some_number task s.root && s.panicked) (is_flagged (find task s.marks)) task left
begun-entered s _ n = n

begun-pending : (flagged : Bool) (task : ℕ) (left : List ℕ) → is_blank (left_pending flagged task left) ≡ false
begun-pending true task left = refl
begun-pending false task left = refl

begun-finished : (is_root : Bool) (cause : FinishCause) (result : Outcome) (task : ℕ) (left : List ℕ) → is_blank (finished is_root cause result task left) ≡ false
begun-finished true cause result task left = refl
begun-finished false cause result task left = refl

begun-leaves : (settles : Bool) (task : ℕ) (result : Option Outcome) (left : List ℕ) → is_blank (leaves settles task result left) ≡ false
begun-leaves true task result left = refl
begun-leaves false task result left = refl

begun-ended : (settles : Bool) (p : Phase) → is_blank p ≡ false → is_blank (ended settles p) ≡ false
begun-ended settles (Ending task result left) n = begun-leaves settles task result left
begun-ended settles _ n = n

begun-answered : (s : State) (task : ℕ) (kind : AnswerKind) → is_blank s.phase ≡ false → is_blank (answered s task kind) ≡ false
begun-answered s task Pending n = begun-pending (is_flagged (find task s.marks)) task (left_of s.phase)
begun-answered s task Ready n = begun-finished (is_some_number task s.root) Completed There task (left_of s.phase)
begun-answered s task Panicked n = begun-finished (is_some_number task s.root) TaskPanicked Exited task (left_of s.phase)
begun-answered s task Stopped n = refl
begun-answered s task NoMemory n = refl
begun-answered s task Ended n = begun-ended (is_settled s task) s.phase n

begun-node : (p : Phase) → is_blank p ≡ false → is_blank (node_ended p) ≡ false
begun-node (Leaving task result left) n = refl
begun-node (Cleaning cause) n = refl
begun-node _ n = n

begun-cleans : (over : Bool) (cause : Option FinishCause) → is_blank (cleans over cause) ≡ false
begun-cleans true cause = refl
begun-cleans false cause = refl

begun-after : (s : State) (e : Entry) → is_blank s.phase ≡ false → is_blank (after s e).phase ≡ false
unfolding after
begun-after s (Start next now deadline cycle) n = refl
begun-after s (Event label fields) n = begun-entered s s.phase n
begun-after s (Root task) n = refl
begun-after s (Round order) n = refl
begun-after s (Visit task) n = refl
begun-after s (Answer task kind) n = begun-answered s task kind n
begun-after s (NodeEnd node) n = begun-node s.phase n
begun-after s (Advance now) n = refl
begun-after s Cleanup n = begun-cleans (is_ended s.stood.nodes 0) (reached s)
begun-after s (Crash choices) n = refl
begun-after s (Finish cause) n = refl
begun-after s _ n = n

-- the run has begun, and this time, which was told last, is its own
record Tells (time : ℕ) (s : State) : Type 0 where
  pub begun : is_blank s.phase ≡ false
  pub own : time ≡ s.clock.time

tells-after : (time : ℕ) (s : State) (e : Entry) → May s e → Tells time s → Tells (time_after time e) (after s e)
unfolding after
tells-after time s (Start next now deadline cycle) m t = let blank = m.1.0 in let n = t.begun in absurd (cc)
tells-after time s (Advance now) m t = record { begun = refl; own = refl }
tells-after time s (Skip now) m t = record { begun = t.begun; own = refl }
tells-after time s e m t = record { begun = begun-after s e t.begun; own = t.own }

tells-begun : (time : ℕ) (b : Begin) (e : Entry) → May (begun b) e → Tells (time_after time e) (after (begun b) e)
unfolding begun after
tells-begun time b e m = rw (start-first b e m) (record { begun = refl; own = refl })

-- in a run or at the beginning of the next one

tells-run : (time : ℕ) (s : State) (e : Entry) → May (renewed s e) e → Tells time s → Tells (time_after time e) (run_after s e)
tells-run time s e m t = elim (cases_Bool (renews e s.phase)) [
  | inl renew ↦ rw renew (tells-begun time (next_begin s) e (rw renew at m))
  | inr same ↦ rw same (tells-after time s e (rw same at m) t)
]

tells-all : (time : ℕ) (s : State) (x : List Entry) → AreLawful s x → Tells time s → Tells (last_time_from time x) (runs_after s x)
tells-all time s [] l t = t
tells-all time s (e ∷ x) l t = tells-all (time_after time e) (run_after s e) x l.1 (tells-run time s e l.0 t)

-- from the beginning

tells-first : (b : Begin) (e : Entry) → May (renewed (begun b) e) e → Tells (time_after 0 e) (run_after (begun b) e)
unfolding begun
tells-first b e m = let k : May (begun b) e = rw (blank-same e) at m in rw (blank-same e) (tells-begun 0 b e k)

tells : (b : Begin) (e : Entry) (x : List Entry) → AreLawful (begun b) (e ∷ x) → Tells (last_time (e ∷ x)) (runs_after (begun b) (e ∷ x))
tells b e x l = tells-all (time_after 0 e) (run_after (begun b) e) x l.1 (tells-first b e l.0)

pub last_told : (b : Begin) (e : Entry) (x : List Entry) → AreLawful (begun b) (e ∷ x) → last_time (e ∷ x) ≡ (runs_after (begun b) (e ∷ x)).clock.time
last_told b e x l = (tells b e x l).own

-- a run goes on at the last moment of the one ahead of it
renewed-time : (s : State) (e : Entry) → (renewed s e).clock.time ≡ s.clock.time
unfolding begun
renewed-time s e = elim (cases_Bool (renews e s.phase)) [
  | inl renew ↦ rw renew refl
  | inr same ↦ rw same refl
]

rises-all : (time : ℕ) (s : State) (x : List Entry) → AreLawful s x → Tells time s → time ≤ last_time_from time x
rises-all time s [] l t = omega arith
rises-all time s (e ∷ x) l t =
    let now = time_after time e in
    let k : Tells now (run_after s e) = tells-run time s e l.0 t in
    let a : now ≤ last_time_from now x = rises-all now (run_after s e) x l.1 k in
    let later : (renewed s e).clock.time ≤ (run_after s e).clock.time = later-entry (renewed s e) e l.0 in
    let behind = renewed-time s e in
    let before = t.own in
    let own = k.own in
    omega arith

runs-tail : (s : State) (x y : List Entry) → AreLawful s (x ++ y) → AreLawful (runs_after s x) y
runs-tail s [] y l = l
runs-tail s (e ∷ x) y l = runs-tail (run_after s e) x y l.1

runs-front : (s : State) (x y : List Entry) → AreLawful s (x ++ y) → AreLawful s x
runs-front s [] y l = tt
runs-front s (e ∷ x) y l = (l.0, runs-front (run_after s e) x y l.1)

last-append : (time : ℕ) (x y : List Entry) → last_time_from time (x ++ y) ≡ last_time_from (last_time_from time x) y
last-append time [] y = refl
last-append time (e ∷ x) y = last-append (time_after time e) x y

pub rises : (b : Begin) (x y : List Entry) → AreLawful (begun b) (x ++ y) → last_time x ≤ last_time (x ++ y)
rises b [] y l = omega arith
rises b (e ∷ x) y l =
    let s = begun b in
    let t : Tells (last_time (e ∷ x)) (runs_after s (e ∷ x)) = tells b e x (runs-front s (e ∷ x) y l) in
    rw (last-append 0 (e ∷ x) y) (rises-all (last_time (e ∷ x)) (runs_after s (e ∷ x)) y (runs-tail s (e ∷ x) y l) t)

-- also in front of others
pub rises-before : (b : Begin) (x y z : List Entry) → AreLawful (begun b) ((x ++ y) ++ z) → last_time x ≤ last_time (x ++ y)
rises-before b x y z l = rises b x y (runs-front (begun b) (x ++ y) z l)

-- two small runs

pub chain_lawful : AreLawful (begun small_begin) (chain_journal 2000000)
unfolding begun after
chain_lawful =
    let next : Begin = record small_begin { start = 2000000 } in
    let first = skipped_run 2000000 (omega arith) (omega arith) in
    join_runs small_begin (skipped_journal 2000000) (ready_from 2000000) first.lawful refl (run_alone next (ready_from 2000000) (search rules))

-- the second of them begins where the first has ended
pub chain_starts : (start : ℕ) → AreLawful (begun small_begin) (chain_journal start) → start ≡ 2000000
unfolding begun after
chain_starts start l =
    let may : May (renewed (runs_after (begun small_begin) (skipped_journal 2000000)) (Start 0 start None 1000000)) (Start 0 start None 1000000) = (runs-tail (begun small_begin) (skipped_journal 2000000) (ready_from start) l).0 in
    may.1.2
