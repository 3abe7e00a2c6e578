-- A run stops where it has reached a cause.
use Rattle.rt_laws.proofs.Prelude.{◌≡◌, ◌≢◌, ◌≤◌, ◌-◌, ◌^◌, ◌&&◌, ℕ, List, [], ◌∷◌, Option, Some, None, Bool, true, false, leb, ltb, refl, arith, MAX_TIME, Ended, FinishCause, Timeout, TimeOverflow, Entry, Event, Wake, Draw, Root, Round, Visit, Answer, NodeEnd, Advance, Skip, Fire, Cleanup, Crash, Finish, Alarm, only-rounds, Mark, is_nil, State, Phase, Making, Between, Entered, Polling, Ending, Leaving, Turning, Cleaning, Closing, Crashed, ends_next, is_late, turning_cause, where_true, cause_at, reached, CallsAt, May, MayEvent, MayEnd, MayEndNode, MayRound, MayClose, MayCrash, MayFinish}
use Rattle.rt_audit.specs.declared.finish.FinishCause.TheVariants.{TooManyTasks}
use Rattle.rt_audit.specs.declared.entry.Entry.TheVariants.{Call}

is-true : (b : Bool) (cause other : FinishCause) → where_true b cause ≡ Some other → b ≡ true
is-true true cause other k = refl
is-true false cause other k = absurd (cc)

-- a number of the round that runs is visited before a cycle more
none-to-visit : (xs ys : List ℕ) (task : ℕ) (over : Bool) (cause : FinishCause) → xs ≡ task ∷ ys → where_true (is_nil xs && over) TimeOverflow ≡ Some cause → ⊥
none-to-visit [] ys task over cause e k = cc
none-to-visit (x ∷ xs) ys task over cause e k = cc

no-overflow : (xs : List ℕ) (next : ℕ) (cause : FinishCause) → xs ≡ [] → next ≤ MAX_TIME → where_true (is_nil xs && ltb MAX_TIME next) TimeOverflow ≡ Some cause → ⊥
no-overflow [] next cause e m k = let late = is-true (ltb MAX_TIME next) TimeOverflow cause k in grind (arith)
no-overflow (x ∷ xs) next cause e m k = cc

skips-first : (due : ℕ) (skip : Option ℕ) (late : Bool) (firing : Option ℕ) (ready : List ℕ) (set : List Alarm) (cause : FinishCause) → skip ≡ Some due → turning_cause skip late firing ready set ≡ Some cause → ⊥
skips-first due (Some at) late firing ready set cause e k = cc
skips-first due None late firing ready set cause e k = cc

fires-first : (alarm : ℕ) (skip : Option ℕ) (late : Bool) (firing : Option ℕ) (ready : List ℕ) (set : List Alarm) (cause : FinishCause) → late ≡ false → firing ≡ Some alarm → turning_cause skip late firing ready set ≡ Some cause → ⊥
fires-first alarm (Some at) late firing ready set cause d e k = cc
fires-first alarm None true firing ready set cause d e k = cc
fires-first alarm None false (Some at) ready set cause d e k = cc
fires-first alarm None false None ready set cause d e k = cc

nobody-ready : (skip : Option ℕ) (late : Bool) (firing : Option ℕ) (ready : List ℕ) (set : List Alarm) (cause : FinishCause) → ready ≢ [] → late ≡ false → firing ≡ None → turning_cause skip late firing ready set ≡ Some cause → ⊥
nobody-ready (Some at) late firing ready set cause r d e k = cc
nobody-ready None true firing ready set cause r d e k = cc
nobody-ready None false (Some at) ready set cause r d e k = cc
nobody-ready None false None [] set cause r d e k = r refl
nobody-ready None false None (x ∷ ready) set cause r d e k = cc

-- where a cleanup may begin, nobody but the maker makes a call, and nothing else is under way
no-call : (phase : Phase) (root next by : Option ℕ) → MayClose phase → phase ≢ Making → CallsAt phase root next by → ⊥
no-call Making root next by close made m = made refl
no-call (Polling task left) root next by close made m = close
no-call (Ending task result left) root next by close made m = close
no-call (Closing cause) root next by close made m = close
no-call _ root next by close made m = m

no-event : (phase : Phase) (s : State) (label : List ℕ) (fields : List (List ℕ)) → MayClose phase → phase ≢ Making → MayEvent phase s label fields → ⊥
no-event (Entered task left) s label fields close made m = close
no-event phase s label fields close made m = no-call phase s.root (ends_next s.running s.root) m.0 close made m.1

no-end : (phase : Phase) (next : Option ℕ) (task : ℕ) → MayClose phase → MayEnd phase next task → ⊥
no-end (Ending ended result left) next task close m = close
no-end (Closing cause) next task close m = close
no-end _ next task close m = m

no-node-end : (phase : Phase) (ms : List (ℕ × Mark)) (node : ℕ) → MayClose phase → MayEndNode phase ms node → ⊥
no-node-end (Leaving task result left) ms node close m = close
no-node-end (Cleaning cause) ms node close m = close
no-node-end _ ms node close m = m

no-crash : (phase : Phase) (running : List ℕ) → MayClose phase → MayCrash phase running → ⊥
no-crash (Closing cause) running close m = close
no-crash _ running close m = m

no-finish : (phase : Phase) (cause : FinishCause) → MayClose phase → MayFinish phase cause → ⊥
no-finish (Crashed reached) cause close m = close
no-finish _ cause close m = m

module _ (s : State) (cause : FinishCause) (close : MayClose s.phase) (made : s.phase ≢ Making) (owed : s.owed ≡ []) (is : reached s ≡ Some cause) where
  no-round : (phase : Phase) → cause_at phase s ≡ Some cause → MayRound phase s → ⊥
  no-round Between k m = let late = is-true (is_late s.clock) Timeout cause k in cc
  no-round Turning k m = nobody-ready _ _ _ _ _ cause m.0 m.1 m.2 k
  no-round _ k m = m

  only-cleanup : (e : Entry) → May s e → e ≡ Cleanup
  only-cleanup (Call by call reply) m = absurd (no-call s.phase s.root (ends_next s.running s.root) by close made m.1.0)
  only-cleanup (Event label fields) m = absurd (no-event s.phase s label fields close made m.1)
  only-cleanup (Wake task) m = absurd (cc)
  only-cleanup (Draw value) m = absurd (no-round s.phase is (only-rounds s.phase s value m.1))
  only-cleanup (Root task) m = absurd (made m.1.0)
  only-cleanup (Round order) m = absurd (no-round s.phase is m.1.0)
  only-cleanup (Visit task) m = absurd (none-to-visit _ _ task _ cause m.1.1 (rw m.1.0 at is))
  only-cleanup (Answer task Ended) m = absurd (no-end s.phase _ task close m.1.0)
  only-cleanup (NodeEnd node) m = absurd (no-node-end s.phase _ node close m.1)
  only-cleanup (Advance now) m = absurd (no-overflow _ _ cause m.1.1 (rw m.1.2 at m.1.3) (rw m.1.0 at is))
  only-cleanup (Skip now) m = absurd (skips-first now _ _ _ _ _ cause m.1.1 (rw m.1.0 at is))
  only-cleanup (Fire alarm) m = absurd (fires-first alarm _ _ _ _ _ cause m.1.1 m.1.2 (rw m.1.0 at is))
  only-cleanup Cleanup m = refl
  only-cleanup (Crash choices) m = absurd (no-crash s.phase _ close m.1.0)
  only-cleanup (Finish other) m = absurd (no-finish s.phase other close m.1)
  only-cleanup _ m = absurd (rw m.1.0 at close)

pub stops : (s : State) (e : Entry) (cause : FinishCause) → MayClose s.phase → s.phase ≢ Making → s.owed ≡ [] → reached s ≡ Some cause → May s e → e ≡ Cleanup
stops s e cause close made owed is m = only-cleanup s cause close made owed is e m

pub takes_no_root : (s : State) (task : ℕ) (cause : FinishCause) → s.phase ≡ Making → reached s ≡ Some cause → May s (Root task) → ⊥
takes_no_root s task cause phase is m = let full = is-true (leb (2 ^ 64 - 1) s.numbers.next) TooManyTasks cause (rw phase at is) in grind (arith, m.1.1, m.1.2)
