-- The root is stopped where a panic is kept, and none is kept where panics are caught.
use Rattle.rt_laws.proofs.Prelude.{◌≡◌, ℕ, List, [], ◌∷◌, ◌++◌, Option, Some, None, Bool, true, false, not, ◌&&◌, ◌||◌, refl, arith, AnswerKind, Pending, Ready, Panicked, Stopped, NoMemory, Ended, FinishCause, Completed, TaskPanicked, Entry, Start, Event, Root, Round, Visit, Answer, NodeEnd, Advance, Cleanup, Crash, Finish, is_ended, Begin, Outcome, There, Exited, find, is_some_number, is_flagged, State, Phase, Entered, Halted, Ending, Leaving, Cleaning, begun, reached, after, after_all, answered, cleans, ended, ends_in_panic, entered, entered_by, finished, is_settled, leaves, left_of, left_pending, node_ended, panics_answered, IsLawful}
use Rattle.rt_laws.proofs.Clock.{lawful-tail}

-- whoever is stopped is the root, behind a panic that is kept
abbrev IsStopped : Phase → Option ℕ → Bool → Type 0
IsStopped (Halted task) root kept = (root ≡ Some task) × (kept ≡ true)
IsStopped _ root kept = Unit {0}

its-number : (task : ℕ) (root : Option ℕ) → is_some_number task root ≡ true → root ≡ Some task
its-number task None h = absurd (cc)
its-number task (Some other) h = grind arith

both : (a b : Bool) → (a && b) ≡ true → (a ≡ true) × (b ≡ true)
both true b h = (refl, h)
both false b h = absurd (cc)

stopped-by : (stops flagged : Bool) (task : ℕ) (left : List ℕ) (root : Option ℕ) (kept : Bool) → (is_some_number task root && kept) ≡ stops → IsStopped (entered_by stops flagged task left) root kept
stopped-by true flagged task left root kept h = let k = both (is_some_number task root) kept h in (its-number task root k.0, k.1)
stopped-by false true task left root kept h = tt
stopped-by false false task left root kept h = tt

stopped-entered : (s : State) (p : Phase) → IsStopped p s.root s.panicked → IsStopped (entered s p) s.root s.panicked
stopped-entered s (Entered task left) k =
    stopped-by (is_some_number task s.root && s.panicked) (is_flagged (find task s.marks)) task left s.root s.panicked refl
stopped-entered s _ k = k

stopped-node : (p : Phase) (root : Option ℕ) (kept : Bool) → IsStopped p root kept → IsStopped (node_ended p) root kept
stopped-node (Leaving task result left) root kept k = tt
stopped-node (Cleaning cause) root kept k = tt
stopped-node _ root kept k = k

stopped-cleans : (over : Bool) (cause : Option FinishCause) (root : Option ℕ) (kept : Bool) → IsStopped (cleans over cause) root kept
stopped-cleans true cause root kept = tt
stopped-cleans false cause root kept = tt

stopped-leaves : (settles : Bool) (task : ℕ) (result : Option Outcome) (left : List ℕ) (root : Option ℕ) (kept : Bool) → IsStopped (leaves settles task result left) root kept
stopped-leaves true task result left root kept = tt
stopped-leaves false task result left root kept = tt

-- what is kept stays
stopped-ended : (settles : Bool) (p : Phase) (root : Option ℕ) (kept more : Bool) → IsStopped p root kept → IsStopped (ended settles p) root (kept || more)
stopped-ended settles (Ending task result left) root kept more k = stopped-leaves settles task result left root (kept || more)
stopped-ended settles (Halted task) root kept more k = (k.0, rw k.1 refl)
stopped-ended settles _ root kept more k = tt

stopped-pending : (flagged : Bool) (task : ℕ) (left : List ℕ) (root : Option ℕ) (kept : Bool) → IsStopped (left_pending flagged task left) root kept
stopped-pending true task left root kept = tt
stopped-pending false task left root kept = tt

stopped-finished : (is_root : Bool) (cause : FinishCause) (result : Outcome) (task : ℕ) (left : List ℕ) (root : Option ℕ) (kept : Bool) → IsStopped (finished is_root cause result task left) root kept
stopped-finished true cause result task left root kept = tt
stopped-finished false cause result task left root kept = tt

stopped-answered : (s : State) (task : ℕ) (kind : AnswerKind) → IsStopped s.phase s.root s.panicked → IsStopped (answered s task kind) s.root (panics_answered s kind)
stopped-answered s task Pending k = stopped-pending (is_flagged (find task s.marks)) task (left_of s.phase) s.root s.panicked
stopped-answered s task Ready k = stopped-finished (is_some_number task s.root) Completed There task (left_of s.phase) s.root s.panicked
stopped-answered s task Panicked k = stopped-finished (is_some_number task s.root) TaskPanicked Exited task (left_of s.phase) s.root s.panicked
stopped-answered s task Stopped k = tt
stopped-answered s task NoMemory k = tt
stopped-answered s task Ended k = stopped-ended (is_settled s task) s.phase s.root s.panicked (ends_in_panic s.phase && not s.clock.fixed.catch) k

stopped-after : (s : State) (e : Entry) → IsStopped s.phase s.root s.panicked → IsStopped (after s e).phase (after s e).root (after s e).panicked
unfolding after
stopped-after s (Start next now deadline cycle) k = tt
stopped-after s (Event label fields) k = stopped-entered s s.phase k
stopped-after s (Root task) k = tt
stopped-after s (Round order) k = tt
stopped-after s (Visit task) k = tt
stopped-after s (Answer task kind) k = stopped-answered s task kind k
stopped-after s (NodeEnd node) k = stopped-node s.phase s.root s.panicked k
stopped-after s (Advance now) k = tt
stopped-after s Cleanup k = stopped-cleans (is_ended s.stood.nodes 0) (reached s) s.root s.panicked
stopped-after s (Crash choices) k = tt
stopped-after s (Finish cause) k = tt
stopped-after s _ k = k

-- none is kept where panics are caught
abbrev IsKept : State → Bool → Type 0
IsKept s catch = (s.clock.fixed.catch ≡ catch) × (s.panicked ≡ true → catch ≡ false)

kept-more : (kept ends catch : Bool) → (kept ≡ true → catch ≡ false) → (kept || (ends && not catch)) ≡ true → catch ≡ false
kept-more true ends catch k h = k refl
kept-more false true true k h = absurd (cc)
kept-more false true false k h = refl
kept-more false false catch k h = absurd (cc)

kept-answered : (s : State) (catch : Bool) (kind : AnswerKind) → IsKept s catch → panics_answered s kind ≡ true → catch ≡ false
kept-answered s catch Ended k h = kept-more s.panicked (ends_in_panic s.phase) catch k.1 (rw k.0 at h)
kept-answered s catch _ k h = k.1 h

kept-after : (s : State) (catch : Bool) (e : Entry) → IsKept s catch → IsKept (after s e) catch
unfolding after
kept-after s catch (Answer task kind) k = (k.0, kept-answered s catch kind k)
kept-after s catch (Advance now) k = k
kept-after s catch _ k = k

told : (s : State) (catch : Bool) (x : List Entry) → IsStopped s.phase s.root s.panicked → IsKept s catch → let t = after_all s x in IsStopped t.phase t.root t.panicked × IsKept t catch
told s catch [] k h = (k, h)
told s catch (e ∷ x) k h = told (after s e) catch x (stopped-after s e k) (kept-after s catch e h)

run_told : (b : Begin) (x : List Entry) → let t = after_all (begun b) x in IsStopped t.phase t.root t.panicked × IsKept t b.catch
unfolding begun
run_told b x = told (begun b) b.catch x tt (refl, λ e. absurd (cc))

module _ (b : Begin) (x : List Entry) where
  pub run_stops : (task : ℕ) (y : List Entry) → IsLawful (begun b) (x ++ Answer task Stopped ∷ y) → ((after_all (begun b) x).root ≡ Some task) × ((after_all (begun b) x).panicked ≡ true)
  run_stops task y l =
      let s = after_all (begun b) x in
      let m = (lawful-tail (begun b) x (Answer task Stopped ∷ y) l).0.1.0 in
      let k : IsStopped (Halted task) s.root s.panicked = rw m at (run_told b x).0 in
      k

  pub run_keeps : (after_all (begun b) x).panicked ≡ true → b.catch ≡ false
  run_keeps h = (run_told b x).1.1 h
