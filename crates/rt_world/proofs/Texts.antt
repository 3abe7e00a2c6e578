-- A panic that is kept has its text, and so has the one that a run ends by.
use Rattle.rt_world.proofs.Prelude.{◌≡◌, inl, inr, ◌∙◌, ap, ℕ, List, [], ◌∷◌, refl, Bool, true, false, not, ◌&&◌, ◌||◌, Option, Some, None, is_some, if◌then◌else◌, AnswerKind, IsPending, IsReady, IsPanicked, IsStopped, LacksMemory, IsEnded, FinishCause, Completed, TaskPanicked, Entry, Start, Event, Draw, Root, Round, Visit, AnswerEntry, NodeEnd, Advance, Skip, Fire, Cleanup, Crash, Finish, Alarm, Begin, Outcome, There, Exited, reached, cause_at, where_true, turning_cause, is_some_number, State, Phase, Blank, Making, Between, Visiting, Entered, Polling, Halted, Ending, Leaving, Turning, Over, Cleaning, Closing, Crashed, Finished, begun, after, after_all, left_of, cause_of, is_panic, ends_in_panic, entered, entered_by, left_pending, finished, leaves, ended, node_ended, cleans, is_settled, May, MayAnswer, MayCrash, MayFinish, IsLawful, Held, Steps, Value, nothing, no_number, given, Moves, MovesAnswer, MovesCleanup, MovesCrash, EndsState, IsTied}
use Rattle.rt_audit.specs.declared.finish.FinishCause.TheVariants.{NoMemory as OutOfMemory}
use Rattle.rt_audit.specs.declared.entry.Entry.TheVariants.{Call, Wake}

-- a text is there where a panic is kept, or about to be, or the run ends by one
pub record HasText (panicked catches : Bool) (phase : Phase) (cause : Option FinishCause) (text : Bool) : Type 0 where
  pub kept : panicked ≡ true → text ≡ true
  pub halted : (task : ℕ) → phase ≡ Halted task → panicked ≡ true
  pub coming : (task : ℕ) (left : List ℕ) → phase ≡ Ending task (Some Exited) left → catches ≡ false → text ≡ true
  pub ends : cause ≡ Some TaskPanicked → text ≡ true

abbrev pub Texts : {A O : Type 0} → State → Value A O → Type 0
Texts s v = HasText s.panicked s.clock.fixed.catch s.phase (reached s) (is_some v.panic)

-- neither stopped by a panic nor ended by one
abbrev is_calm : Phase → Bool
is_calm (Halted task) = false
is_calm (Ending task (Some Exited) left) = false
is_calm (Over cause) = false
is_calm (Cleaning cause) = false
is_calm (Closing cause) = false
is_calm (Crashed cause) = false
is_calm (Finished cause) = false
is_calm _ = true

not-where : (b : Bool) (cause : FinishCause) → (cause ≡ TaskPanicked → ⊥) → where_true b cause ≡ Some TaskPanicked → ⊥
not-where true cause other e = other (cc)
not-where false cause other e = cc

not-turning : (due : Option ℕ) (late : Bool) (firing : Option ℕ) (ready : List ℕ) (set : List Alarm) → turning_cause due late firing ready set ≡ Some TaskPanicked → ⊥
not-turning (Some due) late firing ready set e = cc
not-turning None true firing ready set e = cc
not-turning None false (Some alarm) ready set e = cc
not-turning None false None [] [] e = cc
not-turning None false None [] (a ∷ set) e = cc
not-turning None false None (k ∷ ready) set e = cc

calm-cause : (phase : Phase) (s : State) → is_calm phase ≡ true → cause_at phase s ≡ Some TaskPanicked → ⊥
calm-cause Making s calm e = not-where _ _ (λ e. cc) e
calm-cause Between s calm e = not-where _ _ (λ e. cc) e
calm-cause (Visiting left) s calm e = not-where _ _ (λ e. cc) e
calm-cause Turning s calm e = not-turning _ _ _ _ _ e
calm-cause _ s calm e = cc

calm-halted : (phase : Phase) (task : ℕ) → is_calm phase ≡ true → phase ≡ Halted task → ⊥
calm-halted phase task calm e = let bad : false ≡ true = rw e at calm in cc

calm-exited : (phase : Phase) (task : ℕ) (left : List ℕ) → is_calm phase ≡ true → phase ≡ Ending task (Some Exited) left → ⊥
calm-exited phase task left calm e = let bad : false ≡ true = rw e at calm in cc

calmly : (panicked catches text : Bool) (phase : Phase) (s : State) → is_calm phase ≡ true → (panicked ≡ true → text ≡ true) → HasText panicked catches phase (cause_at phase s) text
calmly panicked catches text phase s calm kept = record {
  kept = kept;
  halted = λ task e. absurd (calm-halted phase task calm e);
  coming = λ task left e c. absurd (calm-exited phase task left calm e);
  ends = λ e. absurd (calm-cause phase s calm e);
}

-- what doesn't move the phase
same-phase : (panicked catches text : Bool) (phase : Phase) (s t : State) → HasText panicked catches phase (cause_at phase s) text → HasText panicked catches phase (cause_at phase t) text
same-phase panicked catches text Blank s t h = calmly panicked catches text Blank t refl h.kept
same-phase panicked catches text Making s t h = calmly panicked catches text Making t refl h.kept
same-phase panicked catches text Between s t h = calmly panicked catches text Between t refl h.kept
same-phase panicked catches text (Visiting left) s t h = calmly panicked catches text (Visiting left) t refl h.kept
same-phase panicked catches text Turning s t h = calmly panicked catches text Turning t refl h.kept
same-phase panicked catches text _ s t h = h

both-right : (a b : Bool) → (a && b) ≡ true → b ≡ true
both-right true b e = e
both-right false b e = cc

-- behind the event of a visit
texts-entered : (panicked catches text stops flagged : Bool) (task : ℕ) (left : List ℕ) (s : State) → (panicked ≡ true → text ≡ true) → (stops ≡ true → panicked ≡ true) → HasText panicked catches (entered_by stops flagged task left) (cause_at (entered_by stops flagged task left) s) text
texts-entered panicked catches text true flagged task left s kept stops = record {
  kept = kept;
  halted = λ task e. stops refl;
  coming = λ task left e c. absurd (cc);
  ends = λ e. absurd (cc);
}
texts-entered panicked catches text false true task left s kept stops = calmly panicked catches text (Ending task None left) s refl kept
texts-entered panicked catches text false false task left s kept stops = calmly panicked catches text (Polling task left) s refl kept

texts-left : (panicked catches text flagged : Bool) (task : ℕ) (left : List ℕ) (s : State) → (panicked ≡ true → text ≡ true) → HasText panicked catches (left_pending flagged task left) (cause_at (left_pending flagged task left) s) text
texts-left panicked catches text true task left s kept = calmly panicked catches text (Ending task None left) s refl kept
texts-left panicked catches text false task left s kept = calmly panicked catches text (Visiting left) s refl kept

over : (panicked catches text : Bool) (cause : FinishCause) → (panicked ≡ true → text ≡ true) → (cause ≡ TaskPanicked → text ≡ true) → HasText panicked catches (Over cause) (Some cause) text
over panicked catches text cause kept ends = record {
  kept = kept;
  halted = λ task e. absurd (cc);
  coming = λ task left e c. absurd (cc);
  ends = λ e. ends (cc);
}

texts-ready : (panicked catches text root : Bool) (task : ℕ) (left : List ℕ) (s : State) → (panicked ≡ true → text ≡ true) → HasText panicked catches (finished root Completed There task left) (cause_at (finished root Completed There task left) s) text
texts-ready panicked catches text true task left s kept = over panicked catches text Completed kept (λ e. absurd (cc))
texts-ready panicked catches text false task left s kept = calmly panicked catches text (Ending task (Some There) left) s refl kept

-- behind a panic
texts-panicked : (panicked catches root : Bool) (task : ℕ) (left : List ℕ) (s : State) (own : List ℕ) (text : Option (List ℕ)) → (panicked ≡ true → is_some text ≡ true) → HasText panicked catches (finished root TaskPanicked Exited task left) (cause_at (finished root TaskPanicked Exited task left) s) (is_some (if root || (not panicked && not catches) then Some own else text))
texts-panicked panicked catches true task left s own text kept = over panicked catches true TaskPanicked (λ e. refl) (λ e. refl)
texts-panicked true catches false task left s own text kept = record {
  kept = kept;
  halted = λ task e. absurd (cc);
  coming = λ task left e c. kept refl;
  ends = λ e. absurd (cc);
}
texts-panicked false true false task left s own text kept = record {
  kept = kept;
  halted = λ task e. absurd (cc);
  coming = λ task left e c. absurd (cc);
  ends = λ e. absurd (cc);
}
texts-panicked false false false task left s own text kept = record {
  kept = λ e. absurd (cc);
  halted = λ task e. absurd (cc);
  coming = λ task left e c. refl;
  ends = λ e. absurd (cc);
}

or-false : (b : Bool) → (b || false) ≡ b
or-false true = refl
or-false false = refl

kept-ended : (panicked catches text : Bool) (result : Option Outcome) → (panicked ≡ true → text ≡ true) → (result ≡ Some Exited → catches ≡ false → text ≡ true) → (panicked || (is_panic result && not catches)) ≡ true → text ≡ true
kept-ended true catches text result kept coming e = kept refl
kept-ended false true text (Some Exited) kept coming e = cc
kept-ended false false text (Some Exited) kept coming e = coming refl refl
kept-ended false catches text _ kept coming e = cc

texts-leave : (panicked catches text settles : Bool) (task : ℕ) (result : Option Outcome) (left : List ℕ) (t : State) → (panicked ≡ true → text ≡ true) → HasText panicked catches (leaves settles task result left) (cause_at (leaves settles task result left) t) text
texts-leave panicked catches text true task result left t kept = calmly panicked catches text (Visiting left) t refl kept
texts-leave panicked catches text false task result left t kept = calmly panicked catches text (Leaving task result left) t refl kept

-- behind the end of a task
texts-ended : (panicked catches text settles : Bool) (phase : Phase) (s t : State) → HasText panicked catches phase (cause_at phase s) text → HasText (panicked || (ends_in_panic phase && not catches)) catches (ended settles phase) (cause_at (ended settles phase) t) text
texts-ended panicked catches text settles (Ending task result left) s t h =
    texts-leave (panicked || (is_panic result && not catches)) catches text settles task result left t
    (kept-ended panicked catches text result h.kept (λ e c. h.coming task left (ap (λ r. Ending task r left) e) c))
texts-ended panicked catches text settles phase s t h = rw (or-false panicked) (same-phase panicked catches text phase s t h)

-- behind the end of a node
texts-node : (panicked catches text : Bool) (phase : Phase) (s t : State) → HasText panicked catches phase (cause_at phase s) text → HasText panicked catches (node_ended phase) (cause_at (node_ended phase) t) text
texts-node panicked catches text (Leaving task result left) s t h = calmly panicked catches text (Visiting left) t refl h.kept
texts-node panicked catches text (Cleaning cause) s t h = record { kept = h.kept; halted = λ task e. absurd (cc); coming = λ task left e c. absurd (cc); ends = h.ends }
texts-node panicked catches text phase s t h = same-phase panicked catches text phase s t h

texts-cleanup : (panicked catches text ended : Bool) (cause : Option FinishCause) (t : State) → (panicked ≡ true → text ≡ true) → (cause ≡ Some TaskPanicked → text ≡ true) → HasText panicked catches (cleans ended cause) (cause_at (cleans ended cause) t) text
texts-cleanup panicked catches text true cause t kept ends = record { kept = kept; halted = λ task e. absurd (cc); coming = λ task left e c. absurd (cc); ends = ends }
texts-cleanup panicked catches text false cause t kept ends = record { kept = kept; halted = λ task e. absurd (cc); coming = λ task left e c. absurd (cc); ends = ends }

texts-event : (panicked catches text root : Bool) (phase : Phase) (s t : State) → panicked ≡ s.panicked → HasText panicked catches phase (cause_at phase s) text → HasText panicked catches (entered s phase) (cause_at (entered s phase) t) text
texts-event panicked catches text root (Entered task left) s t e h = texts-entered panicked catches text _ _ task left t h.kept (λ stops. rw e (both-right (is_some_number task s.root) s.panicked stops))
texts-event panicked catches text root phase s t e h = same-phase panicked catches text phase s t h

texts-crash : (panicked catches text : Bool) (phase : Phase) (running : List ℕ) (s t : State) → MayCrash phase running → HasText panicked catches phase (cause_at phase s) text → HasText panicked catches (Crashed (cause_of phase)) (cause_of phase) text
texts-crash panicked catches text (Closing cause) running s t may h = record { kept = h.kept; halted = λ task e. absurd (cc); coming = λ task left e c. absurd (cc); ends = h.ends }
texts-crash panicked catches text phase running s t may h = absurd may

texts-finish : (panicked catches text : Bool) (phase : Phase) (cause : FinishCause) (s : State) → MayFinish phase cause → HasText panicked catches phase (cause_at phase s) text → HasText panicked catches (Finished cause) (Some cause) text
texts-finish panicked catches text (Crashed reached) cause s (inl lacks) h = record { kept = h.kept; halted = λ task e. absurd (cc); coming = λ task left e c. absurd (cc); ends = λ e. absurd (cc) }
texts-finish panicked catches text (Crashed reached) cause s (inr is) h = record { kept = h.kept; halted = λ task e. absurd (cc); coming = λ task left e c. absurd (cc); ends = λ e. h.ends (is ∙ e) }
texts-finish panicked catches text phase cause s may h = absurd may

texts-stopped : (panicked catches text : Bool) (phase : Phase) (task : ℕ) (s : State) → phase ≡ Halted task → HasText panicked catches phase (cause_at phase s) text → HasText panicked catches (Over TaskPanicked) (Some TaskPanicked) text
texts-stopped panicked catches text phase task s e h = over panicked catches text TaskPanicked h.kept (λ c. h.kept (h.halted task e))

module _ {A O : Type 0} (p : Steps A O) (s : State) where
  -- what the values of an answer keep
  cleanup-panic : (v w : Value A O) (phase : Phase) → MovesCleanup p s v phase w → w.panic ≡ v.panic
  cleanup-panic v w Making (inl m) = ap (λ (x : Value A O). x.panic) m.2
  cleanup-panic v w Making (inr m) = elim m [ inl b ↦ ap (λ (x : Value A O). x.panic) b.1 | inr b ↦ ap (λ (x : Value A O). x.panic) b.1 ]
  cleanup-panic v w phase m = ap (λ (x : Value A O). x.panic) m

  ends-panic : (v w : Value A O) (number : ℕ) (a : A) (held : Held A O) → EndsState p s number a held v w → w.panic ≡ v.panic
  ends-panic v w number a held (inl m) = ap (λ (x : Value A O). x.panic) m.1
  ends-panic v w number a held (inr m) = ap (λ (x : Value A O). x.panic) m.1

  crash-panic : (v w : Value A O) (unmade : Option A) → MovesCrash p s v unmade w → w.panic ≡ v.panic
  crash-panic v w None m = ap (λ (x : Value A O). x.panic) m.0
  crash-panic v w (Some a) m = ends-panic (record v { unmade = None }) w no_number a v.held m

  given-panic : (task : ℕ) (o : O) (end : Held A O) (v : Value A O) (root : Bool) → is_some_number task s.root ≡ root → (given s task o end v).panic ≡ v.panic
  given-panic task o end v true e = rw e refl
  given-panic task o end v false e = rw e refl

  texts-answer : (v w : Value A O) (task : ℕ) (kind : AnswerKind) → MayAnswer s task kind → MovesAnswer p s v task kind w → Texts s v → Texts (after s (AnswerEntry task kind)) w
  unfolding after
  texts-answer v w task IsPending may m h = rw (m.2) (texts-left s.panicked s.clock.fixed.catch (is_some v.panic) _ task (left_of s.phase) (after s (AnswerEntry task IsPending)) h.kept)
  texts-answer v w task IsReady may m h =
      rw (m.3, given-panic task m.0 m.1 v (is_some_number task s.root) refl) (texts-ready s.panicked s.clock.fixed.catch (is_some v.panic) _ task (left_of s.phase) (after s (AnswerEntry task IsReady)) h.kept)
  texts-answer v w task IsPanicked may m h =
      rw (m.3) (texts-panicked s.panicked s.clock.fixed.catch (is_some_number task s.root) task (left_of s.phase) (after s (AnswerEntry task IsPanicked)) m.0 v.panic h.kept)
  texts-answer v w task IsStopped may m h = rw m (texts-stopped s.panicked s.clock.fixed.catch (is_some v.panic) s.phase task s may h)
  texts-answer v w task LacksMemory may m h = rw (m.is) (over s.panicked s.clock.fixed.catch (is_some v.panic) OutOfMemory h.kept (λ e. absurd (cc)))
  texts-answer v w task IsEnded may m h =
      rw (ends-panic v w task m.0 _ m.2) (texts-ended s.panicked s.clock.fixed.catch (is_some v.panic) (is_settled s task) s.phase s (after s (AnswerEntry task IsEnded)) h)

  -- each entry keeps it so
  texts-move : (v w : Value A O) (e : Entry) → May s e → Moves p s v e w → Texts s v → Texts (after s e) w
  unfolding after
  texts-move v w (Start next now deadline cycle) may m h = rw m (calmly s.panicked s.clock.fixed.catch (is_some v.panic) Making (after s (Start next now deadline cycle)) refl h.kept)
  texts-move v w (Root task) may m h = rw (m.3) (calmly s.panicked s.clock.fixed.catch (is_some v.panic) Between (after s (Root task)) refl h.kept)
  texts-move v w (Round order) may m h = rw (m.0) (calmly s.panicked s.clock.fixed.catch (is_some v.panic) (Visiting order) (after s (Round order)) refl h.kept)
  texts-move v w (Visit task) may m h = rw (m.0) (calmly s.panicked s.clock.fixed.catch (is_some v.panic) (Entered task _) (after s (Visit task)) refl h.kept)
  texts-move v w (Event label fields) may m h = rw m (texts-event s.panicked s.clock.fixed.catch (is_some v.panic) true s.phase s (after s (Event label fields)) refl h)
  texts-move v w (AnswerEntry task kind) may m h = texts-answer v w task kind may.1.0 m h
  texts-move v w (Advance now) may m h = rw (m.0) (calmly s.panicked s.clock.fixed.catch (is_some v.panic) Turning (after s (Advance now)) refl h.kept)
  texts-move v w (Skip now) may m h = rw (m.0) (same-phase s.panicked s.clock.fixed.catch (is_some v.panic) s.phase s (after s (Skip now)) h)
  texts-move v w (Fire alarm) may m h = rw (m.0) (same-phase s.panicked s.clock.fixed.catch (is_some v.panic) s.phase s (after s (Fire alarm)) h)
  texts-move v w (NodeEnd node) may m h = rw m (texts-node s.panicked s.clock.fixed.catch (is_some v.panic) s.phase s (after s (NodeEnd node)) h)
  texts-move v w Cleanup may m h = rw (cleanup-panic v w s.phase m) (texts-cleanup s.panicked s.clock.fixed.catch (is_some v.panic) _ (reached s) (after s Cleanup) h.kept h.ends)
  texts-move v w (Crash choices) may m h = rw (crash-panic v w v.unmade m) (texts-crash s.panicked s.clock.fixed.catch (is_some v.panic) s.phase s.running s s may.1.0 h)
  texts-move v w (Finish cause) may m h = rw m (texts-finish s.panicked s.clock.fixed.catch (is_some v.panic) s.phase cause s may.1 h)
  texts-move v w (Call by call reply) may m h = rw m (same-phase s.panicked s.clock.fixed.catch (is_some v.panic) s.phase s (after s (Call by call reply)) h)
  texts-move v w (Wake task) may m h = rw m (same-phase s.panicked s.clock.fixed.catch (is_some v.panic) s.phase s (after s (Wake task)) h)
  texts-move v w (Draw value) may m h = rw m (same-phase s.panicked s.clock.fixed.catch (is_some v.panic) s.phase s (after s (Draw value)) h)

texts-all : {A O : Type 0} (p : Steps A O) (s : State) (v w : Value A O) (es : List Entry) → IsLawful s es → IsTied p s v es w → Texts s v → Texts (after_all s es) w
texts-all p s v w [] lawful tied h = rw tied h
texts-all p s v w (e ∷ es) lawful tied h = texts-all p (after s e) tied.0 w es lawful.1 tied.2 (texts-move p s v tied.0 e lawful.0 tied.1 h)

-- a run that ends by a panic has its text
pub ends-with-text : {A O : Type 0} (p : Steps A O) (begin : Begin) (es : List Entry) (w : Value A O) → IsLawful (begun begin) es → IsTied p (begun begin) nothing es w → reached (after_all (begun begin) es) ≡ Some TaskPanicked → is_some w.panic ≡ true
unfolding begun
ends-with-text p begin es w lawful tied e =
    (texts-all p (begun begin) nothing w es lawful tied (calmly false begin.catch false Blank (begun begin) refl (λ e. absurd (cc)))).ends e
