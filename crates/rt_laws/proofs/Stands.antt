-- Which entries may come in which phase.
use Rattle.rt_laws.proofs.Prelude.{◌≡◌, ℕ, List, [], Option, Bool, true, false, refl, Call, CallReply, AnswerKind, Ended, FinishCause, Entry, Start, CallEntry, Event, Wake, Draw, Root, Round, Visit, Answer, NodeEnd, Advance, Skip, Fire, Cleanup, Crash, Finish, only-rounds, Mark, State, Phase, Blank, Making, Between, Visiting, Entered, Polling, Halted, Ending, Leaving, Turning, Over, Cleaning, Closing, Crashed, ends_next, CallsAt, May, MayEvent, MayAnswer, MayRound, MayClose, MayCrash, MayFinish, MayEnd, MayEndNode}

-- the entry may come in this phase, if it may come at all
abbrev pub stands : Phase → Entry → Bool
stands p (Wake task) = true
stands Blank (Start next now deadline cycle) = true
stands Making (CallEntry by call reply) = true
stands Making (Root task) = true
stands Making Cleanup = true
stands Between (Draw value) = true
stands Between (Round order) = true
stands Between Cleanup = true
stands (Visiting left) (Visit task) = true
stands (Visiting left) (Advance now) = true
stands (Visiting left) Cleanup = true
stands Making (Event label fields) = true
stands (Entered task left) (Event label fields) = true
stands (Polling task left) (Event label fields) = true
stands (Ending task result left) (Event label fields) = true
stands (Closing cause) (Event label fields) = true
stands (Polling task left) (CallEntry by call reply) = true
stands (Polling task left) (Answer other kind) = true
stands (Halted task) (Answer other kind) = true
stands (Ending task result left) (CallEntry by call reply) = true
stands (Ending task result left) (Answer other kind) = true
stands (Leaving task result left) (NodeEnd node) = true
stands Turning (Draw value) = true
stands Turning (Round order) = true
stands Turning (Skip now) = true
stands Turning (Fire alarm) = true
stands Turning Cleanup = true
stands (Over cause) Cleanup = true
stands (Cleaning cause) (NodeEnd node) = true
stands (Closing cause) (CallEntry by call reply) = true
stands (Closing cause) (Answer task kind) = true
stands (Closing cause) (Crash choices) = true
stands (Crashed reached) (Finish cause) = true
stands _ _ = false

module _ (by : Option ℕ) (call : Call) (reply : CallReply) where
  call-stands : (p : Phase) (root next : Option ℕ) → CallsAt p root next by → stands p (CallEntry by call reply) ≡ true
  call-stands Making root next m = refl
  call-stands (Polling task left) root next m = refl
  call-stands (Ending task result left) root next m = refl
  call-stands (Closing cause) root next m = refl
  call-stands _ root next m = absurd m

event-stands : (label : List ℕ) (fields : List (List ℕ)) (p : Phase) (s : State) → MayEvent p s label fields → stands p (Event label fields) ≡ true
event-stands label fields Making s m = refl
event-stands label fields (Entered task left) s m = refl
event-stands label fields (Polling task left) s m = refl
event-stands label fields (Ending task result left) s m = refl
event-stands label fields (Closing cause) s m = refl
event-stands label fields _ s m = absurd m.1

draw-stands : (p : Phase) (s : State) (value : ℕ) → MayRound p s → stands p (Draw value) ≡ true
draw-stands Between s value m = refl
draw-stands Turning s value m = refl
draw-stands _ s value m = absurd m

round-stands : (p : Phase) (s : State) (order : List ℕ) → MayRound p s → stands p (Round order) ≡ true
round-stands Between s order m = refl
round-stands Turning s order m = refl
round-stands _ s order m = absurd m

end-stands : (p : Phase) (next : Option ℕ) (task : ℕ) → MayEnd p next task → stands p (Answer task Ended) ≡ true
end-stands (Ending ended result left) next task m = refl
end-stands (Closing cause) next task m = refl
end-stands _ next task m = absurd m

answer-stands : (s : State) (task : ℕ) (kind : AnswerKind) → MayAnswer s task kind → stands s.phase (Answer task kind) ≡ true
answer-stands s task Ended m = end-stands s.phase (ends_next s.running s.root) task m
answer-stands s task _ m = rw m refl

node-stands : (p : Phase) (ms : List (ℕ × Mark)) (node : ℕ) → MayEndNode p ms node → stands p (NodeEnd node) ≡ true
node-stands (Leaving task result left) ms node m = refl
node-stands (Cleaning cause) ms node m = refl
node-stands _ ms node m = absurd m

cleanup-stands : (p : Phase) → MayClose p → stands p Cleanup ≡ true
cleanup-stands Making m = refl
cleanup-stands Between m = refl
cleanup-stands (Visiting left) m = refl
cleanup-stands Turning m = refl
cleanup-stands (Over cause) m = refl
cleanup-stands _ m = absurd m

crash-stands : (p : Phase) (running : List ℕ) → MayCrash p running → stands p (Crash []) ≡ true
crash-stands (Closing cause) running m = refl
crash-stands _ running m = absurd m

finish-stands : (p : Phase) (cause : FinishCause) → MayFinish p cause → stands p (Finish cause) ≡ true
finish-stands (Crashed reached) cause m = refl
finish-stands _ cause m = absurd m

pub may_stand : (s : State) (e : Entry) → May s e → stands s.phase e ≡ true
may_stand s (CallEntry by call reply) m = call-stands by call reply s.phase s.root (ends_next s.running s.root) m.1.0
may_stand s (Event label fields) m = event-stands label fields s.phase s m.1
may_stand s (Wake task) m = refl
may_stand s (Draw value) m = draw-stands s.phase s value (only-rounds s.phase s value m.1)
may_stand s (Round order) m = round-stands s.phase s order m.1.0
may_stand s (Answer task kind) m = answer-stands s task kind m.1.0
may_stand s (NodeEnd node) m = node-stands s.phase s.marks node m.1
may_stand s Cleanup m = cleanup-stands s.phase m.1.0
may_stand s (Crash choices) m = rw m.1.1 (crash-stands s.phase s.running m.1.0)
may_stand s (Finish cause) m = finish-stands s.phase cause m.1
may_stand s _ m = rw m.1.0 refl
