-- The calls under way, and what was drawn, make no difference to what may come, and none to what is kept.
use Rattle.rt_walk.proofs.Prelude.{◌≡◌, ◌↔◌, ℕ, List, Bool, true, false, IsTrue, refl, ap, not, leb, ◌-◌, ◌^◌, Error, OutOfMemory, Result, Ok, Err, IfOk, AnswerKind, Pending, Ended, Call, Abort, AbortTask, Child, CloseNode, GiveUp, Join, Spawn, WakeCall, SleepPoll, Slots, CallReply, Closed, Done, NodeAt, PendingAt, IsReady, Refused, TaskAt, Entry, CallEntry, Event, Wake, Draw, NodeEnd, Round, Answer, Cleanup, is_ended, is_live, Begin, State, Phase, begun, Making, Between, Entered, Turning, cause_at, after, cleans, due_node, entered, is_closing, marks_after, owed_after, panicked_after, phase_after, stood_after, Answers, ChildAnswers, May, MayAnswer, MayEvent, MayRound, MayDraw, SpawnAnswers, Unless, is_free, quiet}

unless-same : (b : Bool) (e : Error) (f g : CallReply → Type 0) (r : CallReply) → f r ≡ g r → Unless b e f r ≡ Unless b e g r
unless-same true e f g r h = refl
unless-same false e f g r h = h

child-quiet : (s : State) (node : ℕ) (label : _) (r : CallReply) → ChildAnswers s node label r ≡ ChildAnswers (quiet s) node label r
child-quiet s node label (NodeAt number ended) = refl
child-quiet s node label (Refused error) = refl
child-quiet s node label _ = refl

spawn-quiet : (s : State) (node : ℕ) (r : CallReply) → SpawnAnswers s node r ≡ SpawnAnswers (quiet s) node r
spawn-quiet s node (TaskAt task number) = refl
spawn-quiet s node Closed = refl
spawn-quiet s node _ = refl

answers-quiet : (s : State) (call : Call) (reply : CallReply) → Answers s call reply ≡ Answers (quiet s) call reply
answers-quiet s (Child node label) reply =
    unless-same (not (is_live s.stood.nodes node)) _ (ChildAnswers s node label) (ChildAnswers (quiet s) node label) reply (child-quiet s node label reply)
answers-quiet s (CloseNode node) Done = refl
answers-quiet s (Spawn node) reply =
    unless-same (not (is_free s.stood.nodes node)) _ _ _ reply
    (unless-same (leb (2 ^ 64 - 1) s.numbers.next) _ (SpawnAnswers s node) (SpawnAnswers (quiet s) node) reply (spawn-quiet s node reply))
answers-quiet s (Abort task) Done = refl
answers-quiet s (AbortTask task) Done = refl
answers-quiet s (AbortTask task) (Refused error) = refl
answers-quiet s (Join task) reply = refl
answers-quiet s (GiveUp task) Done = refl
answers-quiet s (WakeCall task) Done = refl
answers-quiet s (WakeCall task) (Refused error) = refl
answers-quiet s (SleepPoll due) IsReady = refl
answers-quiet s (SleepPoll due) (PendingAt alarm) = refl
answers-quiet s (Slots call) reply = refl
answers-quiet s _ _ = refl

answer-quiet : (s : State) (task : ℕ) (kind : AnswerKind) → MayAnswer s task kind ≡ MayAnswer (quiet s) task kind
answer-quiet s task Pending = refl
answer-quiet s task _ = refl

round-quiet : (p : Phase) (s : State) → MayRound p s ≡ MayRound p (quiet s)
round-quiet Between s = refl
round-quiet Turning s = refl
round-quiet _ s = refl

draw-quiet : (p : Phase) (s : State) (value : ℕ) → MayDraw p s value ≡ MayDraw p (quiet s) value
draw-quiet Between s value = refl
draw-quiet _ s value = refl

event-quiet : (p : Phase) (s : State) (label : List ℕ) (fields : List (List ℕ)) → MayEvent p s label fields ≡ MayEvent p (quiet s) label fields
event-quiet (Entered task left) s label fields = refl
event-quiet _ s label fields = refl

may-quiet : (s : State) (e : Entry) → May s e ≡ May (quiet s) e
may-quiet s (Event label fields) = rw (event-quiet s.phase s label fields) refl
may-quiet s (CallEntry by call reply) = rw (answers-quiet s call reply) refl
may-quiet s (Answer task kind) = rw (answer-quiet s task kind) refl
may-quiet s (Round order) = rw (round-quiet s.phase s) refl
may-quiet s (Draw value) = rw (draw-quiet s.phase s value) refl
may-quiet s (Wake task) = refl
may-quiet s _ = refl

cause-quiet : (p : Phase) (s : State) → cause_at p s ≡ cause_at p (quiet s)
cause-quiet Making s = refl
cause-quiet _ s = refl

entered-quiet : (p : Phase) (s : State) → entered s p ≡ entered (quiet s) p
entered-quiet (Entered task left) s = refl
entered-quiet _ s = refl

phase-quiet : (s : State) (e : Entry) → phase_after s e ≡ phase_after (quiet s) e
phase-quiet s Cleanup = ap (cleans (is_ended s.stood.nodes 0)) (cause-quiet s.phase s)
phase-quiet s (Event label fields) = entered-quiet s.phase s
phase-quiet s _ = refl

panicked-quiet : (s : State) (e : Entry) → panicked_after s e ≡ panicked_after (quiet s) e
panicked-quiet s (Answer task Ended) = refl
panicked-quiet s (Answer task _) = refl
panicked-quiet s _ = refl

marks-quiet : (s : State) (e : Entry) → marks_after s e ≡ marks_after (quiet s) e
marks-quiet s (Answer task Pending) = refl
marks-quiet s _ = refl

stood-quiet : (s : State) (e : Entry) → stood_after s e ≡ stood_after (quiet s) e
stood-quiet s (Answer task Ended) = refl
stood-quiet s (Answer task _) = refl
stood-quiet s _ = refl

due-quiet : (b : Bool) (s : State) (node : ℕ) → due_node b s node ≡ due_node b (quiet s) node
due-quiet true s node = refl
due-quiet false s node = refl

owed-quiet : (s : State) (e : Entry) → owed_after s e ≡ owed_after (quiet s) e
owed-quiet s (Answer task Ended) = refl
owed-quiet s (Answer task _) = refl
owed-quiet s (NodeEnd node) = due-quiet (is_closing s.phase) s node
owed-quiet s _ = refl

after-quiet : (s : State) (e : Entry) → quiet (after s e) ≡ quiet (after (quiet s) e)
unfolding after
after-quiet s e =
    rw (phase-quiet s e, panicked-quiet s e, marks-quiet s e, stood-quiet s e, owed-quiet s e) refl

pub begun-quiet : (b : Begin) → quiet (begun b) ≡ begun b
unfolding begun
begun-quiet b = refl

pub may-states : (r : Bool) (w s : State) (e : Entry) → quiet s ≡ w → (IsTrue r ↔ May w e) → IsTrue r ↔ May s e
may-states r w s e is h = rw (may-quiet s e, is) h

pub may-alike : (r : Result Bool OutOfMemory) (w : State) (e : Entry) → IfOk r (λ may. IsTrue may ↔ May w e) → IfOk r (λ may. (s : State) → quiet s ≡ w → IsTrue may ↔ May s e)
may-alike (Ok r) w e h = λ s is. may-states r w s e is h
may-alike (Err lack) w e h = tt

pub after-states : (v w s : State) (e : Entry) → v ≡ quiet (after w e) → quiet s ≡ w → v ≡ quiet (after s e)
after-states v w s e then is = rw (after-quiet s e, is) then

pub ruleset quiet_laws = (may-states, after-states)
