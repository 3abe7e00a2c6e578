-- What is left of a run from a state on, and rules by which it completes, whatever the steps.
use Rattle.rt_laws.proofs.Prelude.{◌≡◌, ◌≢◌, ◌≤◌, ◌<◌, ◌+◌, ◌⊎◌, inl, inr, ℕ, List, [], ◌∷◌, ◌++◌, drop, Option, Some, None, true, false, refl, sym, ap, ◌∙◌, arith, eq-eqb, IsPermutation, Call, SleepPoll, CallReply, PendingAt, IsOver, IsPending, IsPanicked, IsStopped, LacksMemory, IsEnded, FinishCause, Completed, Entry, Start, CallEntry, Event, Wake, Draw, Root, Round, Visit, AnswerEntry, Advance, Skip, Fire, Cleanup, only-rounds, Begin, Outcome, Drawn, Long, State, Phase, Making, Between, Visiting, Entered, Polling, Halted, Ending, Turning, Over, Finished, Announced, Clock, Stood, Turn, begun, process_task, task_fields, announced_by, IsOfCall, alarm_of, skip_to, fires, cause_at, reached, from_running, after, after_all, entering, announces, task_label, Answers, May, MayEvent, MayRound, IsLawful, find, is_ended, Held, Ask, Sleeping, Heard, Asks, Fits, call_of, put, Step, Does, Gives, Gave, Walks, Steps, Value, nothing, MovesCleanup, Moves, Polls, IsTied, taken, given, IsRun, IsValidInput}
use Rattle.rt_audit.specs.declared.answer.AnswerKind.TheVariants.{Ready as IsReady}
use Rattle.rt_audit.specs.declared.finish.FinishCause.TheVariants.{NoMemory}
use Rattle.rt_model.specs.declared.answer.Answer.{Answer}
use Rattle.rt_model.specs.declared.answer.Answer.TheVariants.{Pending, Ready, Panicked}
use Rattle.rt_laws.proofs.AsIf.{as_if, lawful-so, tied-so, phase-so}
use Rattle.rt_laws.proofs.Endings.{EndsFor, ends-all, cleans-for}
use Rattle.rt_laws.proofs.Starts.{run_starts}
use Rattle.rt_laws.proofs.Stands.{stands, may_stand}
use Rattle.rt_laws.proofs.Values.{all-whole, not-whole}
use Rattle.rt_laws.proofs.Fronts.{LeadsTo, IsFront, walks-front, front-front, leads-fronts, leads-gave}

-- the steps of a run, and what is known of the entries that are still to come in a state: also of those behind the first, and whatever
-- was drawn so far
pub record Course (A O : Type 0) : Type 1 where
  pub steps : Steps A O
  pub Known : State → List Entry → Type 0
  pub onward : (s : State) (e : Entry) (x : List Entry) → Known s (e ∷ x) → Known (after s e) x
  pub blind : (drawn : List Drawn) (s : State) (x : List Entry) → Known (as_if drawn s) x → Known s x

-- nothing is known of the entries
abbrev pub any : {A O : Type 0} → Steps A O → Course A O
any p = record { steps = p; Known = λ s x. Unit {0}; onward = λ s e x known. tt; blind = λ drawn s x known. tt }

-- the rest of a run that finishes for this cause, and isn't cut off
pub record Rest {A O : Type 0} (p : Course A O) (s : State) (v : Value A O) (x : List Entry) (cause : FinishCause) : Type 0 where
  pub value : Value A O
  pub lawful : IsLawful s x
  pub tied : IsTied p.steps s v x value
  pub whole : value.whole ≡ true
  pub ends : (after_all s x).phase ≡ Finished cause
  pub caused : cause ≢ NoMemory
  pub known : p.Known s x

-- each such rest completes
abbrev pub Completes : {A O : Type 0} → Course A O → State → Value A O → Type 0
Completes p s v = (x : List Entry) (cause : FinishCause) → Rest p s v x cause → cause ≡ Completed

-- a call that announces nothing
abbrev pub IsQuiet : {A O : Type 0} → Ask A O → Type 0
IsQuiet ask = (stood : Stood) (reply : CallReply) → announced_by stood (call_of ask) reply ≡ []

-- no cause is reached, or this one
abbrev pub IsFine : Option FinishCause → Type 0
IsFine None = Unit {0}
IsFine (Some cause) = cause ≡ Completed

module _ {A O : Type 0} (p : Course A O) where
  -- behind its first entry
  pub further : (s : State) (v : Value A O) (e : Entry) (x : List Entry) (cause : FinishCause) (r : Rest p s v (e ∷ x) cause) → (u : Value A O) × Moves p.steps s v e u × (u.whole ≡ true) × Rest p (after s e) u x cause
  further s v e x cause r =
      let t = r.tied in
      let u : Value A O = t.0 in
      (u, t.1, all-whole p.steps (after s e) u r.value x t.2 r.whole, record { value = r.value; lawful = r.lawful.1; tied = t.2; whole = r.whole; ends = r.ends; caused = r.caused; known = p.onward s e x r.known })

  abbrev pub Continues : State → Value A O → Type 0
  Continues s v = (e : Entry) (u : Value A O) → May s e → Moves p.steps s v e u → u.whole ≡ true → Completes p (after s e) u

  pub continues : (s : State) (v : Value A O) → ((cause : FinishCause) → s.phase ≢ Finished cause) → Continues s v → Completes p s v
  continues s v n c [] cause r = absurd (n cause r.ends)
  continues s v n c (e ∷ x) cause r = let m = further s v e x cause r in c e m.0 r.lawful.0 m.1 m.2 x cause m.3

  -- a cleanup where no other cause is reached
  fine-some : (of : Option FinishCause) (cause : FinishCause) → IsFine of → of ≡ Some cause → cause ≡ Completed
  fine-some None cause f e = absurd (cc)
  fine-some (Some reached) cause f e = let same : reached ≡ cause = cc in sym same ∙ f

  fine-ends : (of : Option FinishCause) (cause : FinishCause) (q : Phase) → IsFine of → cause ≢ NoMemory → q ≡ Finished cause → EndsFor of q → cause ≡ Completed
  fine-ends of cause q f n e k =
      let z : EndsFor of (Finished cause) = rw e at k in
      elim z [ inl m ↦ absurd (n m) | inr m ↦ fine-some of cause f m ]

  pub cleanup : (s : State) (u : Value A O) → IsFine (reached s) → Completes p (after s Cleanup) u
  unfolding after
  cleanup s u f x cause r = fine-ends (reached s) cause (after_all (after s Cleanup) x).phase f r.caused r.ends (ends-all (reached s) (after s Cleanup) x refl (cleans-for (is_ended s.stood.nodes 0) (reached s)) r.lawful).1

  pub over : (s : State) (v : Value A O) → s.phase ≡ Over Completed → s.owed ≡ [] → Completes p s v
  over s v h o = continues s v (λ cause e. cc) c
    where
      c : Continues s v
      c Cleanup u m k w = cleanup s u (rw h refl)
      c (Wake task) u m k w = absurd (cc)
      c e u m k w = let z : stands (Over Completed) e ≡ true = rw h at (may_stand s e m) in absurd (cc)

  ready : (s : State) (v : Value A O) (task : ℕ) → s.root ≡ Some task → Completes p (after s (AnswerEntry task IsReady)) v
  unfolding after
  ready s v task root = over (after s (AnswerEntry task IsReady)) v (rw (root, eq-eqb task task refl) refl) refl

  -- the calls of a part under way are a front of its walk

  cleanup-front : (s : State) (v u : Value A O) (q : Phase) → q ≡ Making → MovesCleanup p.steps s v q u → u.whole ≡ true → IsFront (p.steps.first s.clock.time) v.held s.turns
  cleanup-front s v u q h m w =
      let k : MovesCleanup p.steps s v Making u = rw h at m in
      elim k [
        | inl k ↦ walks-front s.stood tt k.0 u.held s.turns v.held (p.steps.first s.clock.time) k.1
        | inr k ↦ absurd (elim k [
          | inl b ↦ not-whole u (record v { held = u.held; unmade = u.unmade; whole = false }) w refl b.1
          | inr b ↦ not-whole u (record v { held = u.held; unmade = None; whole = false }) w refl b.1
        ])
      ]

  making-front : (s : State) (v : Value A O) (x : List Entry) (cause : FinishCause) → s.phase ≡ Making → Rest p s v x cause → IsFront (p.steps.first s.clock.time) v.held s.turns
  unfolding after
  making-front s v [] cause h r = let e = r.ends in absurd (cc)
  making-front s v (CallEntry by call reply ∷ x) cause h r =
      let m = further s v (CallEntry by call reply) x cause r in
      let t : Turn = record { by = by; call = call; reply = reply; stood = s.stood } in
      let k = making-front (after s (CallEntry by call reply)) m.0 x cause h m.3 in
      front-front s.turns (t ∷ []) v.held (p.steps.first s.clock.time) (rw m.1 at k)
  making-front s v (Event label fields ∷ x) cause h r =
      let m = further s v (Event label fields) x cause r in
      let k = making-front (after s (Event label fields)) m.0 x cause (rw h refl) m.3 in
      rw m.1 at k
  making-front s v (Wake task ∷ x) cause h r =
      let m = further s v (Wake task) x cause r in
      let k = making-front (after s (Wake task)) m.0 x cause h m.3 in
      rw m.1 at k
  making-front s v (Root task ∷ x) cause h r =
      let m = further s v (Root task) x cause r in
      let k = m.1 in
      walks-front s.stood tt k.0 k.1 s.turns v.held (p.steps.first s.clock.time) k.2
  making-front s v (Cleanup ∷ x) cause h r =
      let m = further s v Cleanup x cause r in
      cleanup-front s v m.0 s.phase h m.1 m.2
  making-front s v (e ∷ x) cause h r = let z : stands Making e ≡ true = rw h at (may_stand s e r.lawful.0) in absurd (cc)

  -- the walk of a poll, from the state that the task is in
  polls-walk : (s : State) (v : Value A O) (task other : ℕ) (a : A) (answer : Answer O) (end : Held A O) → other ≡ task → find task v.held.tasks ≡ Some a → (k : Polls p.steps s other v.held answer end) → Walks (p.steps.task.next a s.clock.time task) (taken task v.held) s.turns s.stood answer k.left k.moved
  polls-walk s v task other a answer end e f k =
      let there : find task v.held.tasks ≡ Some k.before = rw e at k.there in
      let same : k.before ≡ a = cc in
      let walks = k.walks in
      rw (e, same) at walks

  polling-front : (s : State) (v : Value A O) (task : ℕ) (left : List ℕ) (a : A) (x : List Entry) (cause : FinishCause) → s.phase ≡ Polling task left → find task v.held.tasks ≡ Some a → Rest p s v x cause → IsFront (p.steps.task.next a s.clock.time task) (taken task v.held) s.turns
  unfolding after
  polling-front s v task left a [] cause h f r = let e = r.ends in absurd (cc)
  polling-front s v task left a (CallEntry by call reply ∷ x) cause h f r =
      let m = further s v (CallEntry by call reply) x cause r in
      let t : Turn = record { by = by; call = call; reply = reply; stood = s.stood } in
      let k = polling-front (after s (CallEntry by call reply)) m.0 task left a x cause h (rw m.1 f) m.3 in
      front-front s.turns (t ∷ []) (taken task v.held) (p.steps.task.next a s.clock.time task) (rw m.1 at k)
  polling-front s v task left a (Event label fields ∷ x) cause h f r =
      let m = further s v (Event label fields) x cause r in
      let k = polling-front (after s (Event label fields)) m.0 task left a x cause (rw h refl) (rw m.1 f) m.3 in
      rw m.1 at k
  polling-front s v task left a (Wake other ∷ x) cause h f r =
      let m = further s v (Wake other) x cause r in
      let k = polling-front (after s (Wake other)) m.0 task left a x cause h (rw m.1 f) m.3 in
      rw m.1 at k
  polling-front s v task left a (AnswerEntry other IsPending ∷ x) cause h f r =
      let m = further s v (AnswerEntry other IsPending) x cause r in
      let n = r.lawful.0.1.0 in
      let end : Held A O = m.1.0 in
      let k : Polls p.steps s other v.held Pending end = m.1.1 in
      walks-front s.stood Pending k.left k.moved s.turns (taken task v.held) (p.steps.task.next a s.clock.time task) (polls-walk s v task other a Pending end (cc) f k)
  polling-front s v task left a (AnswerEntry other IsReady ∷ x) cause h f r =
      let m = further s v (AnswerEntry other IsReady) x cause r in
      let n = r.lawful.0.1.0 in
      let o : O = m.1.0 in
      let end : Held A O = m.1.1 in
      let k : Polls p.steps s other v.held (Ready o) end = m.1.2 in
      walks-front s.stood (Ready o) k.left k.moved s.turns (taken task v.held) (p.steps.task.next a s.clock.time task) (polls-walk s v task other a (Ready o) end (cc) f k)
  polling-front s v task left a (AnswerEntry other IsPanicked ∷ x) cause h f r =
      let m = further s v (AnswerEntry other IsPanicked) x cause r in
      let n = r.lawful.0.1.0 in
      let text : List ℕ = m.1.0 in
      let end : Held A O = m.1.1 in
      let k : Polls p.steps s other v.held (Panicked text) end = m.1.2 in
      walks-front s.stood (Panicked text) k.left k.moved s.turns (taken task v.held) (p.steps.task.next a s.clock.time task) (polls-walk s v task other a (Panicked text) end (cc) f k)
  polling-front s v task left a (AnswerEntry other LacksMemory ∷ x) cause h f r =
      let m = further s v (AnswerEntry other LacksMemory) x cause r in
      let k = m.1 in
      not-whole m.0 (record v { held = put other k.left k.moved; whole = false }) m.2 refl k.is
  polling-front s v task left a (AnswerEntry other IsEnded ∷ x) cause h f r = absurd (rw h at r.lawful.0.1.0)
  polling-front s v task left a (AnswerEntry other IsStopped ∷ x) cause h f r = let n : Polling task left ≡ Halted other = rw h at r.lawful.0.1.0 in absurd (cc)
  polling-front s v task left a (e ∷ x) cause h f r = let z : stands (Polling task left) e ≡ true = rw h at (may_stand s e r.lawful.0) in absurd (cc)

  -- an event that no call of a part announces leads nowhere

  -- calls of tasks or of the maker are made here
  abbrev pub AreMade : Phase → Type 0
  AreMade q = (q ≡ Making) ⊎ ((task : ℕ) × (left : List ℕ) × (q ≡ Polling task left)) ⊎ ((task : ℕ) × (result : Option Outcome) × (left : List ℕ) × (q ≡ Ending task result left))

  made-none : (q : Phase) (e : Entry) → AreMade q → stands Making e ≡ false → ((task : ℕ) (left : List ℕ) → stands (Polling task left) e ≡ false) → ((task : ℕ) (result : Option Outcome) (left : List ℕ) → stands (Ending task result left) e ≡ false) → stands q e ≡ true → ⊥
  made-none q e made n1 n2 n3 h = elim made [
    | inl z ↦ (let a : stands Making e ≡ true = rw z at h in cc)
    | inr m ↦ elim m [
      | inl z ↦ (let a : stands (Polling z.0 z.1) e ≡ true = rw z.2 at h in let n = n2 z.0 z.1 in cc)
      | inr z ↦ (let a : stands (Ending z.0 z.1 z.2) e ≡ true = rw z.3 at h in let n = n3 z.0 z.1 z.2 in cc)
    ]
  ]

  goes-on-making : (s : State) (q : Phase) → AreMade q → entering s q ≡ q
  goes-on-making s q made = elim made [
    | inl z ↦ rw z refl
    | inr m ↦ elim m [ inl z ↦ rw z.2 refl | inr z ↦ rw z.3 refl ]
  ]

  some-behind : (events : List Announced) (event : Announced) → events ++ event ∷ [] ≡ [] → ⊥
  some-behind [] event e = cc
  some-behind (other ∷ events) event e = cc

  announces-some : (q : Phase) (events : List Announced) (label : List ℕ) (fields : List (List ℕ)) → AreMade q → announces q events label fields ≢ []
  announces-some q events label fields made n =
      let e : events ++ record { label = label; fields = fields } ∷ [] ≡ [] = elim made [
        | inl z ↦ rw z at n
        | inr m ↦ elim m [ inl z ↦ rw z.2 at n | inr z ↦ rw z.3 at n ]
      ] in
      some-behind events (record { label = label; fields = fields }) e

  -- the steps of a part, whose turns so far lead to those whose next call announces nothing
  module _ {L R : Type 0} (step at : Step A L O R) (held now : Held A O) (turns : List Turn) (leads : LeadsTo step held turns at now) (q : Phase) (made : AreMade q) (clock : Clock) (stood : Stood) (v : Value A O) (quiet : (by : Option ℕ) (call : Call) (reply : CallReply) → IsFront at now (record { by = by; call = call; reply = reply; stood = stood } ∷ []) → announced_by stood call reply ≡ []) (front : (s : State) (x : List Entry) (cause : FinishCause) → s.phase ≡ q → s.clock ≡ clock → Rest p s v x cause → IsFront step held s.turns) where
    stray : (s : State) (x : List Entry) (cause : FinishCause) → s.phase ≡ q → s.clock ≡ clock → s.stood ≡ stood → s.turns ≡ turns → s.owed ≡ [] → s.announced ≢ [] → Rest p s v x cause → ⊥
    unfolding after
    stray s [] cause h c is t o n r =
        let e : q ≡ Finished cause = sym h ∙ r.ends in
        elim made [ inl z ↦ cc | inr m ↦ elim m [ inl z ↦ (let k = z.2 in cc) | inr z ↦ (let k = z.3 in cc) ] ]
    stray s (CallEntry by call reply ∷ x) cause h c is t o n r =
        let m = further s v (CallEntry by call reply) x cause r in
        let rest : Rest p (after s (CallEntry by call reply)) v x cause = rw m.1 at m.3 in
        let turn : Turn = record { by = by; call = call; reply = reply; stood = s.stood } in
        let f : IsFront step held (s.turns ++ turn ∷ []) = front (after s (CallEntry by call reply)) x cause h c rest in
        let one : IsFront at now (turn ∷ []) = leads-fronts at now (turn ∷ []) turns held step leads (rw t at f) in
        n (r.lawful.0.1.2 ∙ quiet by call reply (rw is at one))
    stray s (Event label fields ∷ x) cause h c is t o n r =
        let m = further s v (Event label fields) x cause r in
        let rest : Rest p (after s (Event label fields)) v x cause = rw m.1 at m.3 in
        let phase : entering s s.phase ≡ q = rw h (goes-on-making s q made) in
        let some : announces s.phase s.announced label fields ≢ [] = rw h (announces-some q s.announced label fields made) in
        stray (after s (Event label fields)) x cause phase c is t refl some rest
    stray s (Wake other ∷ x) cause h c is t o n r = let w = r.lawful.0 in absurd (cc)
    stray s (AnswerEntry task kind ∷ x) cause h c is t o n r = n r.lawful.0.1.1
    stray s (Root task ∷ x) cause h c is t o n r = n r.lawful.0.1.3
    stray s (Cleanup ∷ x) cause h c is t o n r = n r.lawful.0.1.1
    stray s (e ∷ x) cause h c is t o n r = made-none q e made refl (λ task left. refl) (λ task result left. refl) (rw h at (may_stand s e r.lawful.0))

    pub strays : (s : State) → s.phase ≡ q → s.clock ≡ clock → s.stood ≡ stood → s.turns ≡ turns → (label : List ℕ) (fields : List (List ℕ)) (u : Value A O) → u ≡ v → Completes p (after s (Event label fields)) u
    unfolding after
    strays s h c is t label fields u e x cause r =
        let rest : Rest p (after s (Event label fields)) v x cause = rw e at r in
        let phase : entering s s.phase ≡ q = rw h (goes-on-making s q made) in
        let some : announces s.phase s.announced label fields ≢ [] = rw h (announces-some q s.announced label fields made) in
        absurd (stray (after s (Event label fields)) x cause phase c is t refl some rest)

  -- visits

  module _ (s : State) (v : Value A O) (owes : s.owed ≡ []) where
    pub entered : (task : ℕ) (left : List ℕ) → s.phase ≡ Entered task left → Completes p (after s (Event process_task (task_fields task (task_label s task)))) v → Completes p s v
    entered task left h more = continues s v (λ cause e. cc) c
      where
        c : Continues s v
        c (Event label fields) u m k w =
            let e : MayEvent (Entered task left) s label fields = rw h at m.1 in
            rw (e.0, e.1, k) more
        c (Wake other) u m k w = absurd (cc)
        c e u m k w = let z : stands (Entered task left) e ≡ true = rw h at (may_stand s e m) in absurd (cc)

    pub visiting : (task : ℕ) (left rest : List ℕ) → s.phase ≡ Visiting left → from_running s.running left ≡ task ∷ rest → IsFine (reached s) → Completes p (after s (Visit task)) v → Completes p s v
    visiting task left rest h next f more = continues s v (λ cause e. cc) c
      where
        c : Continues s v
        c (Visit other) u m k w =
            let is : from_running s.running left ≡ other ∷ drop 1 (from_running s.running left) = rw h at m.1.1 in
            let same : other ≡ task = cc in
            rw (same, k.0) more
        c (Advance now) u m k w =
            let is : from_running s.running left ≡ [] = rw h at m.1.1 in
            absurd (cc)
        c Cleanup u m k w = cleanup s u f
        c (Wake other) u m k w = absurd (cc)
        c e u m k w = let z : stands (Visiting left) e ≡ true = rw h at (may_stand s e m) in absurd (cc)

    pub visited : (left : List ℕ) → s.phase ≡ Visiting left → from_running s.running left ≡ [] → IsFine (reached s) → Completes p (after s (Advance (s.clock.time + s.clock.fixed.cycle))) v → Completes p s v
    visited left h none f more = continues s v (λ cause e. cc) c
      where
        c : Continues s v
        c (Visit other) u m k w =
            let is : from_running s.running left ≡ other ∷ drop 1 (from_running s.running left) = rw h at m.1.1 in
            absurd (cc)
        c (Advance now) u m k w = rw (m.1.2, k.0) more
        c Cleanup u m k w = cleanup s u f
        c (Wake other) u m k w = absurd (cc)
        c e u m k w = let z : stands (Visiting left) e ≡ true = rw h at (may_stand s e m) in absurd (cc)

    -- polls

    module _ (task : ℕ) (left : List ℕ) (a : A) (is : s.phase ≡ Polling task left) (there : find task v.held.tasks ≡ Some a) (now : Held A O) where
      abbrev Leads : Step A A O (Answer O) → Type 0
      Leads at = LeadsTo (p.steps.task.next a s.clock.time task) (taken task v.held) s.turns at now

      abbrev turned : Call → CallReply → Turn
      turned call reply = record { by = Some task; call = call; reply = reply; stood = s.stood }

      -- no event comes before a call that announces none
      pub silent : (at : Step A A O (Answer O)) → Leads at → ((by : Option ℕ) (call : Call) (reply : CallReply) → IsFront at now (record { by = by; call = call; reply = reply; stood = s.stood } ∷ []) → announced_by s.stood call reply ≡ []) → (label : List ℕ) (fields : List (List ℕ)) (u : Value A O) → u ≡ v → Completes p (after s (Event label fields)) u
      silent at l quiet =
          strays (p.steps.task.next a s.clock.time task) at (taken task v.held) now s.turns l (Polling task left) (inr (inl (task, left, refl))) s.clock s.stood v quiet
          (λ t x cause h c r. let f = polling-front t v task left a x cause h there r in rw c at f)
          s is refl refl refl

      -- a call that may come is the next one
      pub called : (at : Step A A O (Answer O)) (call : Call) (reply : CallReply) (u : Value A O) (x : List Entry) (cause : FinishCause) → Leads at → u ≡ v → Rest p (after s (CallEntry (Some task) call reply)) u x cause → IsFront at now (turned call reply ∷ [])
      unfolding after
      called at call reply u x cause l k r =
          let f = polling-front (after s (CallEntry (Some task) call reply)) u task left a x cause is (rw k there) r in
          leads-fronts at now (turned call reply ∷ []) s.turns (taken task v.held) (p.steps.task.next a s.clock.time task) l (rw k at f)

      pub gave : (at : Step A A O (Answer O)) (answer : Answer O) (end : Held A O) (other : ℕ) → Leads at → other ≡ task → (k : Polls p.steps s other v.held answer end) → Gave s.stood now at answer k.left k.moved
      gave at answer end other l e k = leads-gave at now s.stood answer k.left k.moved s.turns (taken task v.held) (p.steps.task.next a s.clock.time task) l (polls-walk s v task other a answer end e there k)

      -- the call that is asked for comes next, or an event before it
      pub polling_asks : (ask : Ask A O) (on : Heard O → Step A A O (Answer O)) → Leads (Does ask on) → ((label : List ℕ) (fields : List (List ℕ)) (u : Value A O) → IsOfCall s.stood s.announced label fields → u ≡ v → Completes p (after s (Event label fields)) u) → ((reply : CallReply) → s.announced ≡ announced_by s.stood (call_of ask) reply → Answers s (call_of ask) reply → (held : Held A O) → Fits held ask (turned (call_of ask) reply) → Completes p (after s (CallEntry (Some task) (call_of ask) reply)) v) → Completes p s v
      polling_asks ask on l events more = continues s v (λ cause e. cc) c
        where
          calls : (by : Option ℕ) (call : Call) (reply : CallReply) (u : Value A O) → by ≡ Some task → u ≡ v → Answers s call reply → s.announced ≡ announced_by s.stood call reply → Completes p (after s (CallEntry by call reply)) u
          calls by call reply u e k m n x cause r =
              let rest : Rest p (after s (CallEntry (Some task) call reply)) u x cause = rw e at r in
              let asks : Asks now ask (turned call reply) = (called (Does ask on) call reply u x cause l k rest).1.0 in
              let fits : Fits now ask (turned call reply) = asks.1 in
              let same : call ≡ call_of ask = asks.0 in
              more reply (rw same at n) (rw same at m) now (rw same at fits) x cause (rw (same, k) at rest)

          c : Continues s v
          c (CallEntry by call reply) u m k w = calls by call reply u (rw is at m.1.0) k m.1.1 m.1.2
          c (Event label fields) u m k w =
              let e : MayEvent (Polling task left) s label fields = rw is at m.1 in
              events label fields u e.2 k
          c (AnswerEntry other IsPending) u m k w = let n = m.1.0 in absurd (gave (Does ask on) Pending k.0 other l (cc) k.1)
          c (AnswerEntry other IsReady) u m k w = let n = m.1.0 in let o : O = k.0 in absurd (gave (Does ask on) (Ready o) k.1 other l (cc) k.2)
          c (AnswerEntry other IsPanicked) u m k w = let n = m.1.0 in let text : List ℕ = k.0 in absurd (gave (Does ask on) (Panicked text) k.1 other l (cc) k.2)
          c (AnswerEntry other IsStopped) u m k w = let n : Polling task left ≡ Halted other = rw is at m.1.0 in absurd (cc)
          c (AnswerEntry other LacksMemory) u m k w = not-whole u (record v { held = put other k.left k.moved; whole = false }) w refl k.is
          c (AnswerEntry other IsEnded) u m k w = absurd (rw is at m.1.0)
          c (Wake other) u m k w = absurd (cc)
          c e u m k w = let z : stands (Polling task left) e ≡ true = rw is at (may_stand s e m) in absurd (cc)

      -- a call that announces nothing
      pub polling_does : (ask : Ask A O) (on : Heard O → Step A A O (Answer O)) → Leads (Does ask on) → IsQuiet ask → ((reply : CallReply) → Answers s (call_of ask) reply → (held : Held A O) → Fits held ask (turned (call_of ask) reply) → Completes p (after s (CallEntry (Some task) (call_of ask) reply)) v) → Completes p s v
      polling_does ask on l quiet more =
          polling_asks ask on l
          (λ label fields u m. silent (Does ask on) l (λ by call reply f. rw f.1.0.0 (quiet s.stood reply)) label fields u)
          (λ reply n. more reply)

      -- a sleep, by whether it is due
      pub polling_sleeps : (due : ℕ) (alarm : Option ℕ) (on : Heard O → Step A A O (Answer O)) → Leads (Does (Sleeping due alarm) on) → s.clock.time < due → Completes p (after s (CallEntry (Some task) (SleepPoll due) (PendingAt (alarm_of s.stood.alarms due alarm)))) v → Completes p s v
      polling_sleeps due alarm on l later more = polling_does (Sleeping due alarm) on l (λ stood reply. refl) told
        where
          told : (reply : CallReply) → Answers s (SleepPoll due) reply → (held : Held A O) → Fits held (Sleeping due alarm) (turned (SleepPoll due) reply) → Completes p (after s (CallEntry (Some task) (SleepPoll due) reply)) v
          told IsOver m held f = absurd (omega arith)
          told (PendingAt number) m held f = rw f more
          told _ m held f = absurd m

      pub polling_wakes : (due : ℕ) (alarm : Option ℕ) (on : Heard O → Step A A O (Answer O)) → Leads (Does (Sleeping due alarm) on) → due ≤ s.clock.time → Completes p (after s (CallEntry (Some task) (SleepPoll due) IsOver)) v → Completes p s v
      polling_wakes due alarm on l late more = polling_does (Sleeping due alarm) on l (λ stood reply. refl) told
        where
          told : (reply : CallReply) → Answers s (SleepPoll due) reply → (held : Held A O) → Fits held (Sleeping due alarm) (turned (SleepPoll due) reply) → Completes p (after s (CallEntry (Some task) (SleepPoll due) reply)) v
          told IsOver m held f = more
          told (PendingAt number) m held f = let l = m.0 in absurd (omega arith)
          told _ m held f = absurd m

      -- an answer that is no panic, of the root or of another task
      pub polling_answers : (answer : Answer O) (next : A) → ((text : List ℕ) → answer ≢ Panicked text) → Leads (Gives answer next) → (answer ≡ Pending → Completes p (after s (AnswerEntry task IsPending)) (record v { held = put task next now })) → ((o : O) → answer ≡ Ready o → Completes p (after s (AnswerEntry task IsReady)) (given s task o (put task next now) v)) → Completes p s v
      polling_answers answer next calm l pending ready = continues s v (λ cause e. cc) c
        where
          calls : (by : Option ℕ) (call : Call) (reply : CallReply) (u : Value A O) → by ≡ Some task → u ≡ v → Completes p (after s (CallEntry by call reply)) u
          calls by call reply u e k x cause r =
              let rest : Rest p (after s (CallEntry (Some task) call reply)) u x cause = rw e at r in
              absurd (called (Gives answer next) call reply u x cause l k rest).1

          pends : (other : ℕ) (u : Value A O) (end : Held A O) → other ≡ task → Polls p.steps s other v.held Pending end → u ≡ record v { held = end } → Completes p (after s (AnswerEntry other IsPending)) u
          pends other u end e k is =
              let g = gave (Gives answer next) Pending end other l e k in
              let held : end ≡ put task next now = k.is ∙ rw (e, ← g.1, g.2) refl in
              let same : u ≡ record v { held = put task next now } = is ∙ rw held refl in
              rw (e, same) (pending g.0)

          gives : (other : ℕ) (u : Value A O) (o : O) (end : Held A O) → other ≡ task → Polls p.steps s other v.held (Ready o) end → u ≡ given s other o end v → Completes p (after s (AnswerEntry other IsReady)) u
          gives other u o end e k is =
              let g = gave (Gives answer next) (Ready o) end other l e k in
              let held : end ≡ put task next now = k.is ∙ rw (e, ← g.1, g.2) refl in
              let same : u ≡ given s task o (put task next now) v = is ∙ rw (e, held) refl in
              rw (e, same) (ready o g.0)

          c : Continues s v
          c (CallEntry by call reply) u m k w = calls by call reply u (rw is at m.1.0) k
          c (Event label fields) u m k w = silent (Gives answer next) l (λ by call reply f. absurd f.1) label fields u k
          c (AnswerEntry other IsPending) u m k w = let n = m.1.0 in pends other u k.0 (cc) k.1 k.2
          c (AnswerEntry other IsReady) u m k w = let n = m.1.0 in gives other u k.0 k.1 (cc) k.2 k.3
          c (AnswerEntry other IsPanicked) u m k w = let n = m.1.0 in let text : List ℕ = k.0 in absurd (calm text (gave (Gives answer next) (Panicked text) k.1 other l (cc) k.2).0)
          c (AnswerEntry other IsStopped) u m k w = let n : Polling task left ≡ Halted other = rw is at m.1.0 in absurd (cc)
          c (AnswerEntry other LacksMemory) u m k w = not-whole u (record v { held = put other k.left k.moved; whole = false }) w refl k.is
          c (AnswerEntry other IsEnded) u m k w = absurd (rw is at m.1.0)
          c (Wake other) u m k w = absurd (cc)
          c e u m k w = let z : stands (Polling task left) e ≡ true = rw is at (may_stand s e m) in absurd (cc)

      pub polling_gives : (answer : Answer O) (next : A) → s.root ≡ Some task → ((text : List ℕ) → answer ≢ Panicked text) → Leads (Gives answer next) → (answer ≡ Pending → Completes p (after s (AnswerEntry task IsPending)) (record v { held = put task next now })) → Completes p s v
      polling_gives answer next root calm l more =
          polling_answers answer next calm l more (λ o e. ready s (given s task o (put task next now) v) task root)

    -- the maker

    pub made : (at : Step A A O (Unit {0})) (now : Held A O) (by : Option ℕ) (call : Call) (reply : CallReply) (u : Value A O) (x : List Entry) (cause : FinishCause) → s.phase ≡ Making → LeadsTo (p.steps.first s.clock.time) v.held s.turns at now → u ≡ v → Rest p (after s (CallEntry by call reply)) u x cause → IsFront at now (record { by = by; call = call; reply = reply; stood = s.stood } ∷ [])
    unfolding after
    made at now by call reply u x cause h l k r =
        let f = making-front (after s (CallEntry by call reply)) u x cause h r in
        leads-fronts at now (record { by = by; call = call; reply = reply; stood = s.stood } ∷ []) s.turns v.held (p.steps.first s.clock.time) l (rw k at f)

    pub making_silent : (at : Step A A O (Unit {0})) (now : Held A O) → s.phase ≡ Making → LeadsTo (p.steps.first s.clock.time) v.held s.turns at now → ((by : Option ℕ) (call : Call) (reply : CallReply) → IsFront at now (record { by = by; call = call; reply = reply; stood = s.stood } ∷ []) → announced_by s.stood call reply ≡ []) → (label : List ℕ) (fields : List (List ℕ)) (u : Value A O) → u ≡ v → Completes p (after s (Event label fields)) u
    making_silent at now h l quiet =
        strays (p.steps.first s.clock.time) at v.held now s.turns l Making (inl refl) s.clock s.stood v quiet
        (λ t x cause h c r. let f = making-front t v x cause h r in rw c at f)
        s h refl refl refl

    pub making_gives : (next : A) (now : Held A O) → s.phase ≡ Making → LeadsTo (p.steps.first s.clock.time) v.held s.turns (Gives tt next) now → IsFine (reached s) → Completes p (after s (Root s.numbers.next)) (record v { held = put s.numbers.next next now }) → Completes p s v
    making_gives next now h l f more = continues s v (λ cause e. cc) c
      where
        takes : (task : ℕ) (u : Value A O) → task ≡ s.numbers.next → Moves p.steps s v (Root task) u → Completes p (after s (Root task)) u
        takes task u e k =
            let g = leads-gave (Gives tt next) now s.stood tt k.0 k.1 s.turns v.held (p.steps.first s.clock.time) l k.2 in
            let same : u ≡ record v { held = put s.numbers.next next now } = k.3 ∙ rw (e, ← g.1, g.2) refl in
            rw (e, same) more

        c : Continues s v
        c (CallEntry by call reply) u m k w = λ x cause r. absurd (made (Gives tt next) now by call reply u x cause h l k r).1
        c (Event label fields) u m k w = making_silent (Gives tt next) now h l (λ by call reply f. absurd f.1) label fields u k
        c (Root task) u m k w = takes task u m.1.1 k
        c Cleanup u m k w = cleanup s u f
        c (Wake other) u m k w = absurd (cc)
        c e u m k w = let z : stands Making e ≡ true = rw h at (may_stand s e m) in absurd (cc)

    -- clock steps

    pub skips : (now : ℕ) → s.phase ≡ Turning → s.ready ≡ [] → fires s.stood.alarms.alarms s.clock.time ≡ None → skip_to s.ready s.stood.alarms.alarms s.clock.time ≡ Some now → IsFine (reached s) → Completes p (after s (Skip now)) v → Completes p s v
    skips now h idle quiet to f more = continues s v (λ cause e. cc) c
      where
        busy : (q : Phase) → q ≡ Turning → MayRound q s → ⊥
        busy q e m = let k : MayRound Turning s = rw e at m in k.0 idle

        c : Continues s v
        c (Draw value) u m k w = absurd (busy s.phase h (only-rounds s.phase s value m.1))
        c (Round order) u m k w = absurd (busy s.phase h m.1.0)
        c (Skip other) u m k w = let n = m.1.1 in let same : other ≡ now = cc in rw (same, k.0) more
        c (Fire alarm) u m k w = let n = m.1.2 in absurd (cc)
        c Cleanup u m k w = cleanup s u f
        c (Wake other) u m k w = absurd (cc)
        c e u m k w = let z : stands Turning e ≡ true = rw h at (may_stand s e m) in absurd (cc)

    pub fired : (alarm : ℕ) → s.phase ≡ Turning → skip_to s.ready s.stood.alarms.alarms s.clock.time ≡ None → fires s.stood.alarms.alarms s.clock.time ≡ Some alarm → IsFine (reached s) → Completes p (after s (Fire alarm)) v → Completes p s v
    fired alarm h none due f more = continues s v (λ cause e. cc) c
      where
        busy : (q : Phase) → q ≡ Turning → MayRound q s → ⊥
        busy q e m = let k : MayRound Turning s = rw e at m in let n = k.2 in cc

        c : Continues s v
        c (Draw value) u m k w = absurd (busy s.phase h (only-rounds s.phase s value m.1))
        c (Round order) u m k w = absurd (busy s.phase h m.1.0)
        c (Skip other) u m k w = let n = m.1.1 in absurd (cc)
        c (Fire other) u m k w = let n = m.1.2 in let same : other ≡ alarm = cc in rw (same, k.0) more
        c Cleanup u m k w = cleanup s u f
        c (Wake other) u m k w = absurd (cc)
        c e u m k w = let z : stands Turning e ≡ true = rw h at (may_stand s e m) in absurd (cc)

  -- a wake that an event owes
  pub woken : (s : State) (v : Value A O) (task : ℕ) (rest : List ℕ) → s.owed ≡ task ∷ rest → ((cause : FinishCause) → s.phase ≢ Finished cause) → Completes p (after s (Wake task)) v → Completes p s v
  woken s v task rest owes n more = continues s v n c
    where
      c : Continues s v
      c (Wake other) u m k w = let same : other ≡ task = cc in rw (same, k) more
      c e u m k w = let z = m.0 in absurd (cc)

  -- rounds

  -- a round begins here: time doesn't skip, and no alarm goes off
  abbrev pub MustRound : State → Type 0
  MustRound s =
      (s.phase ≡ Between)
      ⊎ ((s.phase ≡ Turning) × (skip_to s.ready s.stood.alarms.alarms s.clock.time ≡ None) × (fires s.stood.alarms.alarms s.clock.time ≡ None))

  -- with these draws for its order, and this drawn so far
  abbrev drawing : State → List ℕ → List Drawn → State
  drawing s draws drawn = record s { draws = draws; drawn = drawn; owed = []; announced = [] }

  reached-drawn : (s : State) (draws : List ℕ) (drawn : List Drawn) (q : Phase) → cause_at q (drawing s draws drawn) ≡ cause_at q s
  reached-drawn s draws drawn Making = refl
  reached-drawn s draws drawn _ = refl

  -- what was drawn so far doesn't matter
  rest-so : (drawn : List Drawn) (s : State) (v : Value A O) (x : List Entry) (cause : FinishCause) → Rest p (as_if drawn s) v x cause → Rest p s v x cause
  rest-so drawn s v x cause r = record {
    value = r.value;
    lawful = lawful-so drawn s x r.lawful;
    tied = tied-so p.steps drawn s v r.value x r.tied;
    whole = r.whole;
    ends = sym (phase-so drawn s x) ∙ r.ends;
    caused = r.caused;
    known = p.blind drawn s x r.known;
  }

  module _ (s : State) (v : Value A O) (must : MustRound s) (f : IsFine (reached s)) (more : (order : List ℕ) → IsPermutation s.ready order → Completes p (after s (Round order)) v) where
    must-stand : (e : Entry) → stands Between e ≡ false → stands Turning e ≡ false → stands s.phase e ≡ true → ⊥
    must-stand e n k h = elim must [
      | inl z ↦ (let a : stands Between e ≡ true = rw z at h in cc)
      | inr z ↦ (let a : stands Turning e ≡ true = rw z.0 at h in cc)
    ]

    round-drawn : (draws : List ℕ) (drawn : List Drawn) → Completes p (drawing s draws drawn) v
    unfolding after
    round-drawn draws drawn [] cause r = let e = r.ends in elim must [ inl z ↦ absurd (cc) | inr z ↦ absurd (cc) ]
    round-drawn draws drawn (Draw value ∷ x) cause r =
        let m = further (drawing s draws drawn) v (Draw value) x cause r in
        let rest : Rest p (drawing s (draws ++ value ∷ []) (drawn ++ Long value ∷ [])) v x cause = rw m.1 at m.3 in
        round-drawn (draws ++ value ∷ []) (drawn ++ Long value ∷ []) x cause rest
    round-drawn draws drawn (Round order ∷ x) cause r =
        let m = further (drawing s draws drawn) v (Round order) x cause r in
        let rest : Rest p (as_if drawn (after s (Round order))) v x cause = rw m.1.0 at m.3 in
        more order r.lawful.0.1.1 x cause (rest-so drawn (after s (Round order)) v x cause rest)
    round-drawn draws drawn (Cleanup ∷ x) cause r =
        let m = further (drawing s draws drawn) v Cleanup x cause r in
        cleanup (drawing s draws drawn) m.0 (rw (reached-drawn s draws drawn s.phase) f) x cause m.3
    round-drawn draws drawn (Skip now ∷ x) cause r = let m = r.lawful.0.1 in elim must [ inl z ↦ absurd (cc) | inr z ↦ absurd (cc) ]
    round-drawn draws drawn (Fire alarm ∷ x) cause r = let m = r.lawful.0.1 in elim must [ inl z ↦ absurd (cc) | inr z ↦ absurd (cc) ]
    round-drawn draws drawn (Wake task ∷ x) cause r = let m = r.lawful.0 in absurd (cc)
    round-drawn draws drawn (e ∷ x) cause r = absurd (must-stand e refl refl (may_stand (drawing s draws drawn) e r.lawful.0))

    pub rounds : s.owed ≡ [] → s.announced ≡ [] → Completes p s v
    rounds owes silent =
        let e : s ≡ record s { announced = [] } = ap (λ announced. record s { announced = announced }) silent in
        let same : s ≡ drawing s s.draws s.drawn = ap (λ owed. record s { owed = owed }) owes ∙ ap (λ (t : State). record t { owed = [] }) e in
        rw same (round-drawn s.draws s.drawn)

  -- from the beginning

  begun-ends : (b : Begin) (cause : FinishCause) → (begun b).phase ≢ Finished cause
  unfolding begun
  begun-ends b cause e = cc

  pub begins_known : (b : Begin) → Completes p (after (begun b) (Start b.first b.start b.deadline b.cycle)) nothing → (x : List Entry) (cause : FinishCause) (end : State) (value : Value A O) → IsRun p.steps b x cause end value → p.Known (begun b) x → cause ≡ Completed
  begins_known b more x cause end value r known =
      continues (begun b) nothing (begun-ends b) c x cause (record {
        value = value;
        lawful = r.lawful;
        tied = r.tied;
        whole = r.whole;
        ends = ap (λ (s : State). s.phase) r.reaches ∙ r.ends;
        caused = r.caused;
        known = known;
      })
    where
      c : Continues (begun b) nothing
      c e u m k w =
          let same = run_starts b e [] (m, tt) in
          let kept : u ≡ nothing = rw same at k in
          rw (same, kept) more

pub begins : {A O : Type 0} (p : Steps A O) (b : Begin) → Completes (any p) (after (begun b) (Start b.first b.start b.deadline b.cycle)) nothing → IsValidInput p b
begins p b more x cause end value r = begins_known (any p) b more x cause end value r tt
