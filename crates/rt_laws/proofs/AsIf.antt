-- What was drawn so far decides nothing of what comes.
use Rattle.rt_laws.proofs.Prelude.{◌≡◌, ◌-◌, ◌^◌, ℕ, List, [], ◌∷◌, Option, Some, None, Bool, true, false, not, leb, refl, ap, ◌∙◌, Error, UnknownToken, TooManyTasks, Call, Child, Spawn, CallReply, NodeAt, TaskAt, Closed, Refused, AnswerKind, IsPending, IsPanicked, LacksMemory, Entry, CallEntry, Event, Draw, Round, AnswerEntry, NodeEnd, Cleanup, Crash, is_live, only-rounds, round-draws, Drawn, State, Phase, Making, Between, Entered, Turning, cause_at, after, after_all, entered, due_node, drawn_after, is_free, ChildAnswers, SpawnAnswers, Unless, Answers, MayEvent, MayRound, MayAnswer, May, IsLawful, Held, Steps, Value, Polls, PollBreaks, MovesCleanup, MovesCrash, MovesAnswer, Moves, IsTied}
use Rattle.rt_audit.specs.declared.answer.AnswerKind.TheVariants.{Ready as IsReady}
use Rattle.rt_model.specs.declared.answer.Answer.{Answer}

-- as if this had been drawn
abbrev pub as_if : List Drawn → State → State
as_if drawn s = record s { drawn = drawn }

module _ (drawn : List Drawn) (s : State) where
  child-so : (b : Bool) (error : Error) (node : ℕ) (label : List ℕ) (reply : CallReply) → Unless b error (ChildAnswers (as_if drawn s) node label) reply → Unless b error (ChildAnswers s node label) reply
  child-so true error node label reply a = a
  child-so false error node label (NodeAt number ended) a = a
  child-so false error node label (Refused other) a = a
  child-so false error node label _ a = a

  spawn-so : (b c : Bool) (error other : Error) (node : ℕ) (reply : CallReply) → Unless b error (λ reply. Unless c other (SpawnAnswers (as_if drawn s) node) reply) reply → Unless b error (λ reply. Unless c other (SpawnAnswers s node) reply) reply
  spawn-so true c error other node reply a = a
  spawn-so false true error other node reply a = a
  spawn-so false false error other node (TaskAt task number) a = a
  spawn-so false false error other node Closed a = a
  spawn-so false false error other node _ a = a

  answers-so : (call : Call) (reply : CallReply) → Answers (as_if drawn s) call reply → Answers s call reply
  answers-so (Child node label) reply a = child-so (not (is_live s.stood.nodes node)) UnknownToken node label reply a
  answers-so (Spawn node) reply a = spawn-so (not (is_free s.stood.nodes node)) (leb (2 ^ 64 - 1) s.numbers.next) UnknownToken TooManyTasks node reply a
  answers-so _ _ a = a

  event-so : (p : Phase) (label : List ℕ) (fields : List (List ℕ)) → MayEvent p (as_if drawn s) label fields → MayEvent p s label fields
  event-so (Entered task left) label fields m = m
  event-so _ label fields m = m

  round-so : (p : Phase) → MayRound p (as_if drawn s) → MayRound p s
  round-so Between m = m
  round-so Turning m = m
  round-so _ m = m

  answer-so : (task : ℕ) (kind : AnswerKind) → MayAnswer (as_if drawn s) task kind → MayAnswer s task kind
  answer-so task IsPending m = m
  answer-so task _ m = m

  may-so : (e : Entry) → May (as_if drawn s) e → May s e
  may-so (CallEntry by call reply) m = (m.0, (m.1.0, answers-so call reply m.1.1, m.1.2))
  may-so (Event label fields) m = (m.0, event-so s.phase label fields m.1)
  may-so (Draw value) m = (m.0, round-draws s.phase s value (round-so s.phase (only-rounds s.phase (as_if drawn s) value m.1)))
  may-so (Round order) m = (m.0, (round-so s.phase m.1.0, m.1.1))
  may-so (AnswerEntry task kind) m = (m.0, (answer-so task kind m.1.0, m.1.1))
  may-so _ m = m

  entered-so : (p : Phase) → entered (as_if drawn s) p ≡ entered s p
  entered-so (Entered task left) = refl
  entered-so _ = refl

  node-so : (closing : Bool) (node : ℕ) → due_node closing (as_if drawn s) node ≡ due_node closing s node
  node-so true node = refl
  node-so false node = refl

  pub cause-so : (p : Phase) → cause_at p (as_if drawn s) ≡ cause_at p s
  cause-so Making = refl
  cause-so _ = refl

  answered-so : (task : ℕ) (kind : AnswerKind) → after (as_if drawn s) (AnswerEntry task kind) ≡ as_if drawn (after s (AnswerEntry task kind))
  unfolding after
  answered-so task IsPending = refl
  answered-so task _ = refl

  after-so : (e : Entry) → after (as_if drawn s) e ≡ as_if (drawn_after drawn e) (after s e)
  unfolding after
  after-so (Event label fields) = rw (entered-so s.phase) refl
  after-so (AnswerEntry task kind) = answered-so task kind
  after-so (NodeEnd node) = rw (node-so _ node) refl
  after-so Cleanup = rw (cause-so s.phase) refl
  after-so _ = refl

  module _ {A O : Type 0} (p : Steps A O) (v w : Value A O) where
    polls-so : (task : ℕ) (answer : Answer O) (end : Held A O) → Polls p (as_if drawn s) task v.held answer end → Polls p s task v.held answer end
    polls-so task answer end k = record { before = k.before; left = k.left; moved = k.moved; there = k.there; walks = k.walks; is = k.is }

    breaks-so : (task : ℕ) → PollBreaks p (as_if drawn s) task v w → PollBreaks p s task v w
    breaks-so task k = record { before = k.before; left = k.left; moved = k.moved; there = k.there; breaks = k.breaks; is = k.is }

    cleanup-so : (q : Phase) → MovesCleanup p (as_if drawn s) v q w → MovesCleanup p s v q w
    cleanup-so Making k = k
    cleanup-so _ k = k

    answering-so : (task : ℕ) (kind : AnswerKind) → MovesAnswer p (as_if drawn s) v task kind w → MovesAnswer p s v task kind w
    answering-so task IsPending k = (k.0, polls-so task _ k.0 k.1, k.2)
    answering-so task IsReady k = (k.0, k.1, polls-so task _ k.1 k.2, k.3)
    answering-so task IsPanicked k = (k.0, k.1, polls-so task _ k.1 k.2, k.3)
    answering-so task LacksMemory k = breaks-so task k
    answering-so task _ k = k

    crash-so : (unmade : Option A) → MovesCrash p (as_if drawn s) v unmade w → MovesCrash p s v unmade w
    crash-so None k = k
    crash-so (Some a) k = k

    moves-so : (e : Entry) → Moves p (as_if drawn s) v e w → Moves p s v e w
    moves-so (AnswerEntry task kind) k = answering-so task kind k
    moves-so Cleanup k = cleanup-so s.phase k
    moves-so (Crash choices) k = crash-so v.unmade k
    moves-so _ k = k

pub lawful-so : (drawn : List Drawn) (s : State) (x : List Entry) → IsLawful (as_if drawn s) x → IsLawful s x
lawful-so drawn s [] l = l
lawful-so drawn s (e ∷ x) l =
    let rest : IsLawful (as_if (drawn_after drawn e) (after s e)) x = rw (after-so drawn s e) at l.1 in
    (may-so drawn s e l.0, lawful-so (drawn_after drawn e) (after s e) x rest)

pub tied-so : {A O : Type 0} (p : Steps A O) (drawn : List Drawn) (s : State) (v w : Value A O) (x : List Entry) → IsTied p (as_if drawn s) v x w → IsTied p s v x w
tied-so p drawn s v w [] t = t
tied-so p drawn s v w (e ∷ x) t =
    let rest : IsTied p (as_if (drawn_after drawn e) (after s e)) t.0 x w = rw (after-so drawn s e) at t.2 in
    (t.0, moves-so drawn s p v t.0 e t.1, tied-so p (drawn_after drawn e) (after s e) t.0 w x rest)

pub phase-so : (drawn : List Drawn) (s : State) (x : List Entry) → (after_all (as_if drawn s) x).phase ≡ (after_all s x).phase
phase-so drawn s [] = refl
phase-so drawn s (e ∷ x) = ap (λ (t : State). (after_all t x).phase) (after-so drawn s e) ∙ phase-so (drawn_after drawn e) (after s e) x
