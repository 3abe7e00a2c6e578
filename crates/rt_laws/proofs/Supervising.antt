-- Further rules by which a run completes: calls of the maker, tokens that are spent, and a task that ends in its visit.
use Rattle.rt_laws.proofs.Prelude.{◌≡◌, ◌≢◌, ◌⊎◌, inl, inr, ℕ, zero, suc, List, [], ◌∷◌, Option, Some, None, Bool, true, false, Contains, option_map, is_some, leb, ◌-◌, ◌^◌, refl, ap, ◌∙◌, arith, IsPermutation, Contains-permutation, length_permutation, Error, Execution, Call, Child, Spawn, AbortTask, Join, CallReply, Done, NodeAt, TaskAt, Closed, Refused, IsPending, IsPanicked, IsStopped, LacksMemory, IsEnded, FinishCause, Entry, CallEntry, Event, Wake, Root, AnswerEntry, NodeEnd, Cleanup, Mark, Outcome, TaskResult, is_live, is_known, is_ended, State, Making, Polling, Halted, Ending, Leaving, Turn, reached, after, label_at, announced_by, Answers, OutcomeAnswers, ChildAnswers, SpawnAnswers, label_refusal, is_free, find, Held, Ask, Plainly, Spawning, Heard, Plain, Asks, Fits, call_of, put, has_place, Step, Does, Spends, Gives, Gave, Walks, Value, Polls, EndsState, EndsTask, taken}
use Rattle.rt_audit.specs.declared.answer.AnswerKind.TheVariants.{Ready as IsReady}
use Rattle.rt_model.specs.declared.answer.Answer.{Answer}
use Rattle.rt_model.specs.declared.answer.Answer.TheVariants.{Pending, Ready, Panicked}
use Rattle.rt_laws.proofs.Completing.{Course, Rest, Completes, IsFine, IsQuiet, Continues, continues, further, cleanup, called, gave, made, silent, making_silent, strays}
use Rattle.rt_laws.proofs.Fronts.{LeadsTo, IsFront, walks-front, front-front, leads-fronts, leads-gave}
use Rattle.rt_laws.proofs.Stands.{stands, may_stand}
use Rattle.rt_laws.proofs.Values.{not-whole}

-- there are two orders of two numbers

two : (k x y : ℕ) → Contains (x ∷ y ∷ []) k → (x ≡ k) ⊎ (y ≡ k)
two k x y (zero, l, e) = inl e
two k x y (suc zero, l, e) = inr e
two k x y (suc (suc i), l, e) = absurd (omega arith)

module _ (a b : ℕ) (n : a ≢ b) where
  abbrev IsEither : List ℕ → Type 0
  IsEither order = (order ≡ a ∷ b ∷ []) ⊎ (order ≡ b ∷ a ∷ [])

  among : (x y : ℕ) → (x ≡ a) ⊎ (y ≡ a) → (x ≡ b) ⊎ (y ≡ b) → IsEither (x ∷ y ∷ [])
  among x y (inl h) (inl k) = absurd (n (cc))
  among x y (inl h) (inr k) = inl (rw (h, k) refl)
  among x y (inr h) (inl k) = inr (rw (h, k) refl)
  among x y (inr h) (inr k) = absurd (n (cc))

  pub either : (order : List ℕ) → IsPermutation (a ∷ b ∷ []) order → IsEither order
  either [] perm = let e = length_permutation (a ∷ b ∷ []) [] perm in absurd (omega arith)
  either (x ∷ []) perm = let e = length_permutation (a ∷ b ∷ []) (x ∷ []) perm in absurd (omega arith)
  either (x ∷ y ∷ []) perm =
      let first = two a x y (Contains-permutation (a ∷ b ∷ []) (x ∷ y ∷ []) a perm (0, omega arith, refl)) in
      let second = two b x y (Contains-permutation (a ∷ b ∷ []) (x ∷ y ∷ []) b perm (1, omega arith, refl)) in
      among x y first second
  either (x ∷ y ∷ z ∷ rest) perm = let e = length_permutation (a ∷ b ∷ []) (x ∷ y ∷ z ∷ rest) perm in absurd (omega arith)

pub never : {C : Type 0} (b : Bool) → b ≡ true → b ≡ false → C
never b h k = absurd (cc)

-- what follows the next call once this was heard; and that this is the next call
abbrev pub behind : {A L O R : Type 0} → Step A L O R → Heard O → Step A L O R
behind (Does ask on) heard = on heard
behind step heard = step

abbrev pub Calls : {A L O R : Type 0} → Step A L O R → Ask A O → Type 0
Calls step ask = step ≡ Does ask (behind step)

-- what follows once a child is made, and once a task is spawned on it
abbrev pub placed : {A L O R : Type 0} → Step A L O R → ℕ → Step A L O R
placed step child = behind step (Plain (NodeAt child false))

abbrev pub told : {A L O R : Type 0} → Step A L O R → ℕ → ℕ → ℕ → Step A L O R
told step child task own = behind (placed step child) (Plain (TaskAt task own))

module _ {A O : Type 0} (p : Course A O) where
  -- a state in another form
  pub in_form : (s t : State) (v : Value A O) → s ≡ t → Completes p t v → Completes p s v
  in_form s t v e more = rw e more

  -- the calls of an end under way are a front of its walk

  ends-walk : (s : State) (v u : Value A O) (task other : ℕ) (a : A) → other ≡ task → find task v.held.tasks ≡ Some a → EndsTask p.steps s v other u → u.whole ≡ true → Walks (p.steps.task.last a s.clock.time task) (taken task v.held) s.turns s.stood tt tt u.held × (u ≡ record v { held = u.held })
  ends-walk s v u task other a e f k w =
      let there : find task v.held.tasks ≡ Some k.0 = rw e at k.1 in
      let same : k.0 ≡ a = cc in
      let ends = k.2 in
      let z : EndsState p.steps s task a (taken task v.held) v u = rw (e, same) at ends in
      elim z [
        | inl z ↦ z
        | inr z ↦ not-whole u (record v { held = u.held; whole = false }) w refl z.1
      ]

  ending-front : (s : State) (v : Value A O) (task : ℕ) (result : Option Outcome) (left : List ℕ) (a : A) (x : List Entry) (cause : FinishCause) → s.phase ≡ Ending task result left → find task v.held.tasks ≡ Some a → Rest p s v x cause → IsFront (p.steps.task.last a s.clock.time task) (taken task v.held) s.turns
  unfolding after
  ending-front s v task result left a [] cause h f r = let e = r.ends in absurd (cc)
  ending-front s v task result left a (CallEntry by call reply ∷ x) cause h f r =
      let m = further p s v (CallEntry by call reply) x cause r in
      let t : Turn = record { by = by; call = call; reply = reply; stood = s.stood } in
      let k = ending-front (after s (CallEntry by call reply)) m.0 task result left a x cause h (rw m.1 f) m.3 in
      front-front s.turns (t ∷ []) (taken task v.held) (p.steps.task.last a s.clock.time task) (rw m.1 at k)
  ending-front s v task result left a (Event label fields ∷ x) cause h f r =
      let m = further p s v (Event label fields) x cause r in
      let k = ending-front (after s (Event label fields)) m.0 task result left a x cause (rw h refl) (rw m.1 f) m.3 in
      rw m.1 at k
  ending-front s v task result left a (Wake other ∷ x) cause h f r =
      let m = further p s v (Wake other) x cause r in
      let k = ending-front (after s (Wake other)) m.0 task result left a x cause h (rw m.1 f) m.3 in
      rw m.1 at k
  ending-front s v task result left a (AnswerEntry other IsEnded ∷ x) cause h f r =
      let m = further p s v (AnswerEntry other IsEnded) x cause r in
      let e : other ≡ task = rw h at r.lawful.0.1.0 in
      let k = ends-walk s v m.0 task other a e f m.1 m.2 in
      walks-front s.stood tt tt m.0.held s.turns (taken task v.held) (p.steps.task.last a s.clock.time task) k.0
  ending-front s v task result left a (AnswerEntry other IsPending ∷ x) cause h f r = let n : Ending task result left ≡ Polling other left = rw h at r.lawful.0.1.0 in absurd (cc)
  ending-front s v task result left a (AnswerEntry other IsReady ∷ x) cause h f r = let n : Ending task result left ≡ Polling other left = rw h at r.lawful.0.1.0 in absurd (cc)
  ending-front s v task result left a (AnswerEntry other IsPanicked ∷ x) cause h f r = let n : Ending task result left ≡ Polling other left = rw h at r.lawful.0.1.0 in absurd (cc)
  ending-front s v task result left a (AnswerEntry other IsStopped ∷ x) cause h f r = let n : Ending task result left ≡ Halted other = rw h at r.lawful.0.1.0 in absurd (cc)
  ending-front s v task result left a (AnswerEntry other LacksMemory ∷ x) cause h f r = let n : Ending task result left ≡ Polling other left = rw h at r.lawful.0.1.0 in absurd (cc)
  ending-front s v task result left a (e ∷ x) cause h f r = let z : stands (Ending task result left) e ≡ true = rw h at (may_stand s e r.lawful.0) in absurd (cc)

  -- whatever is replied to this call
  abbrev pub Replied : State → Value A O → Option ℕ → Ask A O → Type 0
  Replied s v by ask =
      (reply : CallReply) → Answers s (call_of ask) reply → (held : Held A O) → Fits held ask (record { by = by; call = call_of ask; reply = reply; stood = s.stood }) → Completes p (after s (CallEntry by (call_of ask) reply)) v

  -- what is replied to the calls of supervision; of a child also its refusal

  module _ (s : State) (v : Value A O) (by : Option ℕ) where
    pub child_told : (node : ℕ) (label : List ℕ) → is_live s.stood.nodes node ≡ true → ((number : ℕ) → is_known s.stood.nodes number ≡ false → Completes p (after s (CallEntry by (Child node label) (NodeAt number (is_ended s.stood.nodes node)))) v) → ((error : Error) → Some error ≡ label_refusal (label_at s.labels node) label → Completes p (after s (CallEntry by (Child node label) (Refused error))) v) → Replied s v by (Plainly (Child node label))
    child_told node label live more refused reply m held f = tells reply (rw live at m)
      where
        tells : (reply : CallReply) → ChildAnswers s node label reply → Completes p (after s (CallEntry by (Child node label) reply)) v
        tells (NodeAt number over) m = rw m.2 (more number m.1)
        tells (Refused error) m = refused error m
        tells _ m = absurd m

    pub spawn_told : (node : ℕ) (execution : Execution) (made : ℕ → A) → is_free s.stood.nodes node ≡ true → is_ended s.stood.nodes node ≡ false → leb (2 ^ 64 - 1) s.numbers.next ≡ false → ((own : ℕ) → is_known s.stood.nodes own ≡ false → Completes p (after s (CallEntry by (Spawn node) (TaskAt s.numbers.next own))) v) → Replied s v by (Spawning node execution made)
    spawn_told node execution made free runs room more reply m held f = tells reply (rw (free, room) at m)
      where
        tells : (reply : CallReply) → SpawnAnswers s node reply → Completes p (after s (CallEntry by (Spawn node) reply)) v
        tells (TaskAt task own) m = rw m.0 (more own m.2)
        tells Closed m = never (is_ended s.stood.nodes node) m runs
        tells _ m = absurd m

    pub abort_told : (task : ℕ) → is_some (find task s.marks) ≡ true → Completes p (after s (CallEntry by (AbortTask task) Done)) v → Replied s v by (Plainly (AbortTask task))
    abort_told task there more Done m held f = more
    abort_told task there more (Refused error) m held f = never (is_some (find task s.marks)) there m.1
    abort_told task there more _ m held f = absurd m

    -- of a join, by what has come of the task
    pub join_told : (task : ℕ) (r : TaskResult) → find task s.stood.results ≡ Some r → ((reply : CallReply) → OutcomeAnswers r.outcome reply → Completes p (after s (CallEntry by (Join task) reply)) v) → Replied s v by (Plainly (Join task))
    join_told task r there more reply m held f = more reply (rw there at m)

  module _ (s : State) (v : Value A O) (owes : s.owed ≡ []) where
    abbrev turned : Option ℕ → Call → CallReply → Turn
    turned by call reply = record { by = by; call = call; reply = reply; stood = s.stood }

    -- a part of which these are the next calls, made by this task or by nobody

    abbrev CallsOf : {L R : Type 0} → Option ℕ → Step A L O R → Held A O → Type 0
    CallsOf by at now = (call : Call) (reply : CallReply) (u : Value A O) (x : List Entry) (cause : FinishCause) → u ≡ v → Rest p (after s (CallEntry by call reply)) u x cause → IsFront at now (turned by call reply ∷ [])

    does : {L R : Type 0} (by : Option ℕ) (ask : Ask A O) (on : Heard O → Step A L O R) (now : Held A O) → CallsOf by (Does ask on) now → Replied s v by ask → (other : Option ℕ) (call : Call) (reply : CallReply) (u : Value A O) → other ≡ by → u ≡ v → Answers s call reply → Completes p (after s (CallEntry other call reply)) u
    does by ask on now calls more other call reply u e k m x cause r =
        let rest : Rest p (after s (CallEntry by call reply)) u x cause = rw e at r in
        let asks : Asks now ask (turned by call reply) = (calls call reply u x cause k rest).1.0 in
        let fits : Fits now ask (turned by call reply) = asks.1 in
        let same : call ≡ call_of ask = asks.0 in
        more reply (rw same at m) now (rw same at fits) x cause (rw (same, k) at rest)

    spends : {L R : Type 0} (by : Option ℕ) (ask : Ask A O) (next : Step A L O R) (now : Held A O) → CallsOf by (Spends ask next) now → has_place s.stood (call_of ask) ≡ true → Completes p (after s (CallEntry by (call_of ask) Done)) v → (other : Option ℕ) (call : Call) (reply : CallReply) (u : Value A O) → other ≡ by → u ≡ v → Completes p (after s (CallEntry other call reply)) u
    spends by ask next now calls there more other call reply u e k x cause r =
        let rest : Rest p (after s (CallEntry by call reply)) u x cause = rw e at r in
        let f = (calls call reply u x cause k rest).1.0 there in
        let call_same : call ≡ call_of ask = f.0 in
        let reply_same : reply ≡ Done = f.1 in
        more x cause (rw (call_same, reply_same, k) at rest)

    -- the maker

    module _ (h : s.phase ≡ Making) (f : IsFine (reached s)) (now : Held A O) where
      abbrev MakerLeads : Step A A O (Unit {0}) → Type 0
      MakerLeads at = LeadsTo (p.steps.first s.clock.time) v.held s.turns at now

      maker-calls : (at : Step A A O (Unit {0})) → MakerLeads at → CallsOf None at now
      maker-calls at l call reply u x cause k r = made p s v owes at now None call reply u x cause h l k r

      pub making_does : (ask : Ask A O) (on : Heard O → Step A A O (Unit {0})) → MakerLeads (Does ask on) → IsQuiet ask → Replied s v None ask → Completes p s v
      making_does ask on l quiet more = continues p s v (λ cause e. cc) c
        where
          c : Continues p s v
          c (CallEntry by call reply) u m k w = does None ask on now (maker-calls (Does ask on) l) more by call reply u (rw h at m.1.0) k m.1.1
          c (Event label fields) u m k w = making_silent p s v owes (Does ask on) now h l (λ by call reply f. rw f.1.0.0 (quiet s.stood reply)) label fields u k
          c (Root task) u m k w = absurd (leads-gave (Does ask on) now s.stood tt k.0 k.1 s.turns v.held (p.steps.first s.clock.time) l k.2)
          c Cleanup u m k w = cleanup p s u f
          c (Wake other) u m k w = absurd (cc)
          c e u m k w = let z : stands Making e ≡ true = rw h at (may_stand s e m) in absurd (cc)

      pub making_spends : (ask : Ask A O) (next : Step A A O (Unit {0})) → MakerLeads (Spends ask next) → IsQuiet ask → has_place s.stood (call_of ask) ≡ true → Completes p (after s (CallEntry None (call_of ask) Done)) v → Completes p s v
      making_spends ask next l quiet there more = continues p s v (λ cause e. cc) c
        where
          c : Continues p s v
          c (CallEntry by call reply) u m k w = spends None ask next now (maker-calls (Spends ask next) l) there more by call reply u (rw h at m.1.0) k
          c (Event label fields) u m k w = making_silent p s v owes (Spends ask next) now h l (λ by call reply f. let is : call ≡ call_of ask = (f.1.0 there).0 in rw is (quiet s.stood reply)) label fields u k
          c (Root task) u m k w = let gone = (leads-gave (Spends ask next) now s.stood tt k.0 k.1 s.turns v.held (p.steps.first s.clock.time) l k.2).0 in absurd (cc)
          c Cleanup u m k w = cleanup p s u f
          c (Wake other) u m k w = absurd (cc)
          c e u m k w = let z : stands Making e ≡ true = rw h at (may_stand s e m) in absurd (cc)

    -- a poll

    module _ (task : ℕ) (left : List ℕ) (a : A) (h : s.phase ≡ Polling task left) (f : find task v.held.tasks ≡ Some a) (now : Held A O) where
      pub polling_spends : (ask : Ask A O) (next : Step A A O (Answer O)) → LeadsTo (p.steps.task.next a s.clock.time task) (taken task v.held) s.turns (Spends ask next) now → IsQuiet ask → has_place s.stood (call_of ask) ≡ true → Completes p (after s (CallEntry (Some task) (call_of ask) Done)) v → Completes p s v
      polling_spends ask next l quiet there more = continues p s v (λ cause e. cc) c
        where
          calls : CallsOf (Some task) (Spends ask next) now
          calls call reply u x cause k r = called p s v owes task left a h f now (Spends ask next) call reply u x cause l k r

          answers : (answer : Answer O) (end : Held A O) (other : ℕ) → other ≡ task → Polls p.steps s other v.held answer end → ⊥
          answers answer end other e k = let gone = (gave p s v owes task left a h f now (Spends ask next) answer end other l e k).0 in absurd (cc)

          c : Continues p s v
          c (CallEntry by call reply) u m k w = spends (Some task) ask next now calls there more by call reply u (rw h at m.1.0) k
          c (Event label fields) u m k w = silent p s v owes task left a h f now (Spends ask next) l (λ by call reply g. let is : call ≡ call_of ask = (g.1.0 there).0 in rw is (quiet s.stood reply)) label fields u k
          c (AnswerEntry other IsPending) u m k w = let n = m.1.0 in absurd (answers Pending k.0 other (cc) k.1)
          c (AnswerEntry other IsReady) u m k w = let n = m.1.0 in let o : O = k.0 in absurd (answers (Ready o) k.1 other (cc) k.2)
          c (AnswerEntry other IsPanicked) u m k w = let n = m.1.0 in let text : List ℕ = k.0 in absurd (answers (Panicked text) k.1 other (cc) k.2)
          c (AnswerEntry other IsStopped) u m k w = let n : Polling task left ≡ Halted other = rw h at m.1.0 in absurd (cc)
          c (AnswerEntry other LacksMemory) u m k w = not-whole u (record v { held = put other k.left k.moved; whole = false }) w refl k.is
          c (AnswerEntry other IsEnded) u m k w = absurd (rw h at m.1.0)
          c (Wake other) u m k w = absurd (cc)
          c e u m k w = let z : stands (Polling task left) e ≡ true = rw h at (may_stand s e m) in absurd (cc)

    -- an end in a visit

    module _ (task : ℕ) (result : Option Outcome) (left : List ℕ) (a : A) (h : s.phase ≡ Ending task result left) (f : find task v.held.tasks ≡ Some a) (now : Held A O) where
      abbrev EndLeads : Step A (Unit {0}) O (Unit {0}) → Type 0
      EndLeads at = LeadsTo (p.steps.task.last a s.clock.time task) (taken task v.held) s.turns at now

      end-calls : (at : Step A (Unit {0}) O (Unit {0})) → EndLeads at → CallsOf (Some task) at now
      unfolding after
      end-calls at l call reply u x cause k r =
          let front = ending-front (after s (CallEntry (Some task) call reply)) u task result left a x cause h (rw k f) r in
          leads-fronts at now (turned (Some task) call reply ∷ []) s.turns (taken task v.held) (p.steps.task.last a s.clock.time task) l (rw k at front)

      end-silent : (at : Step A (Unit {0}) O (Unit {0})) → EndLeads at → ((by : Option ℕ) (call : Call) (reply : CallReply) → IsFront at now (record { by = by; call = call; reply = reply; stood = s.stood } ∷ []) → announced_by s.stood call reply ≡ []) → (label : List ℕ) (fields : List (List ℕ)) (u : Value A O) → u ≡ v → Completes p (after s (Event label fields)) u
      end-silent at l quiet =
          strays p (p.steps.task.last a s.clock.time task) at (taken task v.held) now s.turns l (Ending task result left) (inr (inr (task, result, left, refl))) s.clock s.stood v quiet
          (λ t x cause h c r. let g = ending-front t v task result left a x cause h f r in rw c at g)
          s h refl refl refl

      -- its answer is its last step
      end-gave : (at : Step A (Unit {0}) O (Unit {0})) (u : Value A O) (other : ℕ) → EndLeads at → other ≡ task → EndsTask p.steps s v other u → u.whole ≡ true → Gave s.stood now at tt tt u.held × (u ≡ record v { held = u.held })
      end-gave at u other l e k w =
          let z = ends-walk s v u task other a e f k w in
          (leads-gave at now s.stood tt tt u.held s.turns (taken task v.held) (p.steps.task.last a s.clock.time task) l z.0, z.1)

      pub ending_spends : (ask : Ask A O) (next : Step A (Unit {0}) O (Unit {0})) → EndLeads (Spends ask next) → IsQuiet ask → has_place s.stood (call_of ask) ≡ true → Completes p (after s (CallEntry (Some task) (call_of ask) Done)) v → Completes p s v
      ending_spends ask next l quiet there more = continues p s v (λ cause e. cc) c
        where
          c : Continues p s v
          c (CallEntry by call reply) u m k w = spends (Some task) ask next now (end-calls (Spends ask next) l) there more by call reply u (rw h at m.1.0) k
          c (Event label fields) u m k w = end-silent (Spends ask next) l (λ by call reply g. let is : call ≡ call_of ask = (g.1.0 there).0 in rw is (quiet s.stood reply)) label fields u k
          c (AnswerEntry other IsEnded) u m k w = let gone = (end-gave (Spends ask next) u other l (rw h at m.1.0) k w).0.0 in absurd (cc)
          c (AnswerEntry other IsStopped) u m k w = let n : Ending task result left ≡ Halted other = rw h at m.1.0 in absurd (cc)
          c (AnswerEntry other kind) u m k w = let n : Ending task result left ≡ Polling other left = rw h at m.1.0 in absurd (cc)
          c (Wake other) u m k w = absurd (cc)
          c e u m k w = let z : stands (Ending task result left) e ≡ true = rw h at (may_stand s e m) in absurd (cc)

      pub ending_gives : EndLeads (Gives tt tt) → Completes p (after s (AnswerEntry task IsEnded)) (record v { held = now }) → Completes p s v
      ending_gives l more = continues p s v (λ cause e. cc) c
        where
          ends : (other : ℕ) (u : Value A O) → other ≡ task → EndsTask p.steps s v other u → u.whole ≡ true → Completes p (after s (AnswerEntry other IsEnded)) u
          ends other u e k w =
              let g = end-gave (Gives tt tt) u other l e k w in
              let same : u ≡ record v { held = now } = g.1 ∙ ap (λ (held : Held A O). record v { held = held }) g.0.2 in
              rw (e, same) more

          c : Continues p s v
          c (CallEntry by call reply) u m k w =
              λ x cause r.
              let by_task : by ≡ Some task = rw h at m.1.0 in
              let rest : Rest p (after s (CallEntry (Some task) call reply)) u x cause = rw by_task at r in
              absurd (end-calls (Gives tt tt) l call reply u x cause k rest).1
          c (Event label fields) u m k w = end-silent (Gives tt tt) l (λ by call reply g. absurd g.1) label fields u k
          c (AnswerEntry other IsEnded) u m k w = ends other u (rw h at m.1.0) k w
          c (AnswerEntry other IsStopped) u m k w = let n : Ending task result left ≡ Halted other = rw h at m.1.0 in absurd (cc)
          c (AnswerEntry other kind) u m k w = let n : Ending task result left ≡ Polling other left = rw h at m.1.0 in absurd (cc)
          c (Wake other) u m k w = absurd (cc)
          c e u m k w = let z : stands (Ending task result left) e ≡ true = rw h at (may_stand s e m) in absurd (cc)

    -- the node of a task ends behind it
    pub leaving : (task : ℕ) (result : Option Outcome) (left : List ℕ) (node : ℕ) → s.phase ≡ Leaving task result left → option_map (λ (m : Mark). m.node) (find task s.marks) ≡ Some node → Completes p (after s (NodeEnd node)) v → Completes p s v
    leaving task result left node h its more = continues p s v (λ cause e. cc) c
      where
        c : Continues p s v
        c (NodeEnd other) u m k w =
            let is : option_map (λ (m : Mark). m.node) (find task s.marks) ≡ Some other = rw h at m.1 in
            let same : other ≡ node = cc in
            rw (same, k) more
        c (Wake other) u m k w = absurd (cc)
        c e u m k w = let z : stands (Leaving task result left) e ≡ true = rw h at (may_stand s e m) in absurd (cc)
