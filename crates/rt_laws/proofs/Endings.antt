-- A cleanup only ends tasks, and a run ends for the cause that it had reached.
use Rattle.rt_laws.proofs.Prelude.{◌≡◌, ◌≢◌, ◌⊎◌, inl, inr, ℕ, List, [], ◌∷◌, ◌++◌, Option, Some, Bool, true, false, not, ◌&&◌, if◌then◌else◌, arith, refl, sym, ap, ◌∙◌, All, AllByRecursion, All-from_recursion, Call, WakeCall, CallReply, AnswerKind, Ended, FinishCause, OutOfMemory, Entry, Start, CallEntry, Event, Wake, Draw, Round, Answer, NodeEnd, Advance, Skip, Cleanup, Crash, Finish, only-rounds, Begin, Mark, TaskResult, is_ended, find, those, State, Phase, Between, Turning, Entered, Ending, Leaving, Cleaning, Closing, Crashed, Finished, Stood, begun, reached, ends_next, after, after_all, is_closing, is_settled, due_called, due_answered, due_node, due_panic, due_ended, ends_in_panic, cause_of, answered, node_ended, cleans, entered, ended, May, CallsAt, MayAnswer, MayEvent, MayEndNode, MayRound, MayClose, MayCrash, MayFinish, IsLawful, after_all-append, IsOfCleanup}
use Rattle.rt_laws.proofs.Clock.{lawful-tail}

-- in a cleanup that began for this cause, if it had one, or behind it
abbrev pub EndsFor : Option FinishCause → Phase → Type 0
EndsFor cause (Cleaning of) = of ≡ cause
EndsFor cause (Closing of) = of ≡ cause
EndsFor cause (Crashed of) = of ≡ cause
EndsFor cause (Finished end) = (end ≡ OutOfMemory) ⊎ (cause ≡ Some end)
EndsFor cause _ = ⊥

module _ (cause : Option FinishCause) where
  call-closing : (p : Phase) (root next by : Option ℕ) → EndsFor cause p → CallsAt p root next by → is_closing p ≡ true
  call-closing (Closing of) root next by k m = refl
  call-closing (Cleaning of) root next by k m = absurd m
  call-closing (Crashed of) root next by k m = absurd m
  call-closing (Finished end) root next by k m = absurd m
  call-closing _ root next by k m = absurd k

  no-round : (p : Phase) (s : State) → EndsFor cause p → MayRound p s → ⊥
  no-round Between s k m = k
  no-round Turning s k m = k
  no-round _ s k m = m

  no-cleanup : (p : Phase) → EndsFor cause p → MayClose p → ⊥
  no-cleanup (Cleaning of) k m = m
  no-cleanup (Closing of) k m = m
  no-cleanup (Crashed of) k m = m
  no-cleanup (Finished end) k m = m
  no-cleanup _ k m = k

  crash-ends : (p : Phase) (running : List ℕ) → EndsFor cause p → MayCrash p running → cause_of p ≡ cause
  crash-ends (Closing of) running k m = k
  crash-ends _ running k m = absurd m

  cleaned-ends : (p : Phase) → EndsFor cause p → EndsFor cause (node_ended p)
  cleaned-ends (Cleaning of) k = k
  cleaned-ends (Leaving task result left) k = absurd k
  cleaned-ends _ k = k

  node-closing : (p : Phase) (ms : List (ℕ × Mark)) (node : ℕ) → EndsFor cause p → MayEndNode p ms node → is_closing p ≡ true
  node-closing (Cleaning of) ms node k m = refl
  node-closing (Leaving task result left) ms node k m = absurd k
  node-closing _ ms node k m = absurd m

  finish-ends : (p : Phase) (end : FinishCause) → EndsFor cause p → MayFinish p end → (end ≡ OutOfMemory) ⊎ (cause ≡ Some end)
  finish-ends (Crashed of) end k m = elim m [ inl h ↦ inl h | inr h ↦ inr (sym k ∙ h) ]
  finish-ends _ end k m = absurd m

  ended-ends : (settles : Bool) (p : Phase) → EndsFor cause p → EndsFor cause (ended settles p)
  ended-ends settles (Ending task result left) k = absurd k
  ended-ends settles _ k = k

  answer-ends : (s : State) (task : ℕ) (kind : AnswerKind) → EndsFor cause s.phase → MayAnswer s task kind → IsOfCleanup (Answer task kind) × EndsFor cause (answered s task kind)
  answer-ends s task Ended k m = (tt, ended-ends (is_settled s task) s.phase k)
  answer-ends s task _ k m = absurd (rw m at k)

  owes-none : (ms : List (ℕ × Mark)) (ss : Stood) (call : Call) (reply : CallReply) → due_called true ms ss call reply ≡ []
  owes-none ms ss (WakeCall task) reply = refl
  owes-none ms ss _ reply = refl

  owes-called : (closing : Bool) (ms : List (ℕ × Mark)) (ss : Stood) (call : Call) (reply : CallReply) → closing ≡ true → due_called closing ms ss call reply ≡ []
  owes-called true ms ss call reply h = owes-none ms ss call reply
  owes-called false ms ss call reply h = absurd (cc)

  owes-ended : (p : Phase) (settles : Bool) (r : Option TaskResult) → EndsFor cause p → (ends_in_panic p ≡ false) × (due_ended p settles r ≡ [])
  owes-ended (Ending task result left) settles r k = absurd k
  owes-ended _ settles r k = (refl, refl)

  owes-no-panic : (s : State) → ends_in_panic s.phase ≡ false → due_panic s ≡ []
  owes-no-panic s h = rw h (no-wake s.root_left s.panicked s.clock.fixed.catch)
    where
      no-wake : (left panicked catch : Bool) → (if left && not panicked && false && not catch then those s.root else []) ≡ []
      no-wake left panicked catch = grind (arith)

  owes-answered : (s : State) (task : ℕ) (kind : AnswerKind) → EndsFor cause s.phase → due_answered s task kind ≡ []
  owes-answered s task Ended k =
      let e = owes-ended s.phase (is_settled s task) (find task s.stood.results) k in
      rw (owes-no-panic s e.0, e.1) refl
  owes-answered s task _ k = refl

  owes-node : (closing : Bool) (s : State) (node : ℕ) → closing ≡ true → due_node closing s node ≡ []
  owes-node true s node h = refl
  owes-node false s node h = absurd (cc)

  event-ends : (s : State) (p : Phase) → EndsFor cause p → EndsFor cause (entered s p)
  event-ends s (Entered task left) k = absurd k
  event-ends s _ k = k

  event-of : (s : State) (p : Phase) (label : List ℕ) (fields : List (List ℕ)) → EndsFor cause p → MayEvent p s label fields → IsOfCleanup (Event label fields)
  event-of s (Entered task left) label fields k m = absurd k
  event-of s _ label fields k m = (s.stood, s.announced, m.2)

  pub ends-entry : (s : State) (e : Entry) → s.owed ≡ [] → EndsFor cause s.phase → May s e → IsOfCleanup e × ((after s e).owed ≡ []) × EndsFor cause (after s e).phase
  unfolding after
  ends-entry s (CallEntry by call reply) o k m = (tt, owes-called (is_closing s.phase) s.marks s.stood call reply (call-closing s.phase s.root (ends_next s.running s.root) by k m.1.0), k)
  ends-entry s (Event label fields) o k m = (event-of s s.phase label fields k m.1, refl, event-ends s s.phase k)
  ends-entry s (Wake task) o k m = absurd (cc)
  ends-entry s (Draw value) o k m = absurd (no-round s.phase s k (only-rounds s.phase s value m.1))
  ends-entry s (Round order) o k m = absurd (no-round s.phase s k m.1.0)
  ends-entry s (Answer task kind) o k m = let a = answer-ends s task kind k m.1.0 in (a.0, owes-answered s task kind k, a.1)
  ends-entry s (NodeEnd node) o k m = (tt, owes-node (is_closing s.phase) s node (node-closing s.phase s.marks node k m.1), cleaned-ends s.phase k)
  ends-entry s Cleanup o k m = absurd (no-cleanup s.phase k m.1.0)
  ends-entry s (Crash choices) o k m = (tt, refl, crash-ends s.phase s.running k m.1.0)
  ends-entry s (Finish end) o k m = (tt, refl, finish-ends s.phase end k m.1)
  ends-entry s _ o k m = absurd (rw m.1.0 at k)

  pub ends-all : (s : State) (x : List Entry) → s.owed ≡ [] → EndsFor cause s.phase → IsLawful s x → AllByRecursion IsOfCleanup x × EndsFor cause (after_all s x).phase
  ends-all s [] o k l = (tt, k)
  ends-all s (e ∷ x) o k l =
      let h = ends-entry s e o k l.0 in
      let rest = ends-all (after s e) x h.1 h.2 l.1 in
      ((h.0, rest.0), rest.1)

-- a cleanup begins for the cause that was reached
pub cleans-for : (over : Bool) (cause : Option FinishCause) → EndsFor cause (cleans over cause)
cleans-for true cause = refl
cleans-for false cause = refl

clock-entry : (s : State) (e : Entry) → IsOfCleanup e → (after s e).clock ≡ s.clock
unfolding after
clock-entry s (Start next now deadline cycle) h = absurd h
clock-entry s (Advance now) h = absurd h
clock-entry s (Skip now) h = absurd h
clock-entry s _ h = refl

clock-all : (s : State) (x : List Entry) → AllByRecursion IsOfCleanup x → (after_all s x).clock ≡ s.clock
clock-all s [] h = refl
clock-all s (e ∷ x) h = clock-all (after s e) x h.1 ∙ clock-entry s e h.0

-- behind a cleanup
module _ (b : Begin) (x y : List Entry) (l : IsLawful (begun b) (x ++ Cleanup ∷ y)) where
  abbrev closes : State
  closes = after_all (begun b) x

  behind : AllByRecursion IsOfCleanup y × EndsFor (reached closes) (after_all (after closes Cleanup) y).phase
  unfolding after
  behind = ends-all (reached closes) (after closes Cleanup) y refl (cleans-for (is_ended closes.stood.nodes 0) (reached closes)) (lawful-tail (begun b) x (Cleanup ∷ y) l).1

  pub run_cleaned : All IsOfCleanup y
  run_cleaned = All-from_recursion IsOfCleanup y behind.0

  pub run_still : (after_all (begun b) (x ++ Cleanup ∷ y)).clock ≡ (after_all (begun b) x).clock
  unfolding after
  run_still = rw (after_all-append (begun b) x (Cleanup ∷ y)) (clock-all (after closes Cleanup) y behind.0)

pub run_cause : (b : Begin) (x y : List Entry) (cause : FinishCause) → IsLawful (begun b) (x ++ Cleanup ∷ y) → (after_all (begun b) (x ++ Cleanup ∷ y)).phase ≡ Finished cause → cause ≢ OutOfMemory → reached (after_all (begun b) x) ≡ Some cause
run_cause b x y cause l h n =
    let s = after_all (begun b) x in
    let k = (behind b x y l).1 in
    let e : (after_all (after s Cleanup) y).phase ≡ Finished cause = ap (λ (s : State). s.phase) (sym (after_all-append (begun b) x (Cleanup ∷ y))) ∙ h in
    let z : EndsFor (reached s) (Finished cause) = rw e at k in
    elim z [ inl m ↦ absurd (n m) | inr m ↦ m ]
