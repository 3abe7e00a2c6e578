-- The entries of a run determine what it moves: the steps decide each walk, as long as no part lacked memory.
use Rattle.rt_laws.proofs.Prelude.{◌≡◌, inl, inr, ℕ, List, [], ◌∷◌, Option, Some, None, is_some, if◌then◌else◌, Bool, true, false, refl, ap, sym, ◌∙◌, AnswerKind, IsPending, IsPanicked, IsStopped, LacksMemory, IsEnded, FinishCause, Entry, Root, Round, Visit, AnswerEntry, Advance, Skip, Fire, Cleanup, Crash, Begin, State, Phase, Making, Stood, Turn, begun, after, find, is_some_number, counted, Held, put, Step, Does, Spends, Counts, Gives, Gave, Walks, Steps, Value, Polls, EndsState, Makes, MakerBreaks, MovesAnswer, MovesCleanup, MovesCrash, Moves, IsTied, taken, no_number, nothing, given, kept_text, with_result, IsRun}
use Rattle.rt_audit.specs.declared.answer.AnswerKind.TheVariants.{Ready as IsReady}
use Rattle.rt_model.specs.declared.answer.Answer.{Answer}
use Rattle.rt_model.specs.declared.answer.Answer.TheVariants.{Pending, Ready, Panicked}
use Rattle.rt_laws.proofs.Same.{same_begin}
use Rattle.rt_laws.proofs.Fronts.{goes-both}

-- two walks of the same steps with the same turns
module _ {A L O R : Type 0} (stood : Stood) (a b : R) (l m : L) (e f : Held A O) where
  abbrev Same : Type 0
  Same = (a ≡ b) × (l ≡ m) × (e ≡ f)

  gave-same : (held : Held A O) (step : Step A L O R) → Gave stood held step a l e → Gave stood held step b m f → Same
  gave-same held (Does ask on) h k = absurd h
  gave-same held (Spends ask next) h k = gave-same held next h.1 k.1
  gave-same held (Counts change next) h k = gave-same (counted change held) next h k
  gave-same held (Gives given state) h k = (sym h.0 ∙ k.0, sym h.1 ∙ k.1, h.2 ∙ sym k.2)

  walks-same : (turns : List Turn) (held : Held A O) (step : Step A L O R) → Walks step held turns stood a l e → Walks step held turns stood b m f → Same
  walks-same [] held step h k = gave-same held step h k
  walks-same (t ∷ turns) held step h k =
      goes-both (λ held step. Walks step held turns stood a l e) (λ held step. Walks step held turns stood b m f) (λ held step h k. walks-same turns held step h k) held step t h k

same-some : {A : Type 0} → (x : Option A) (a b : A) → x ≡ Some a → x ≡ Some b → a ≡ b
same-some x a b h k = cc

-- a whole value isn't one that is not
pub not-whole : {A O C : Type 0} → (v u : Value A O) → v.whole ≡ true → u.whole ≡ false → v ≡ u → C
not-whole v u h k e = absurd (cc)

module _ {A O : Type 0} (p : Steps A O) (s : State) (v u w : Value A O) where
  polls-same : (task : ℕ) (a b : Answer O) (e f : Held A O) → Polls p s task v.held a e → Polls p s task v.held b f → (a ≡ b) × (e ≡ f)
  polls-same task a b e f h k =
      let same = same-some (find task v.held.tasks) k.before h.before k.there h.there in
      let walks = k.walks in
      let other : Walks (p.task.next h.before s.clock.time task) (taken task v.held) s.turns s.stood b k.left k.moved = rw same at walks in
      let q = walks-same s.stood a b h.left k.left h.moved k.moved s.turns (taken task v.held) (p.task.next h.before s.clock.time task) h.walks other in
      (q.0, h.is ∙ (rw (q.1, q.2) refl) ∙ sym k.is)

  makes-same : (a b : A) (e f : Held A O) → Makes p s v.held a e → Makes p s v.held b f → (a ≡ b) × (e ≡ f)
  makes-same a b e f h k =
      let q = walks-same s.stood tt tt a b e f s.turns v.held (p.first s.clock.time) h k in
      (q.1, q.2)

  module _ (first : u.whole ≡ true) (second : w.whole ≡ true) where
    ends-same : (number : ℕ) (before : A) (held : Held A O) (v : Value A O) → EndsState p s number before held v u → EndsState p s number before held v w → u ≡ w
    ends-same number before held v h k = elim h [
      | inl h ↦ elim k [
        | inl k ↦ (
            let e = (walks-same s.stood tt tt tt tt u.held w.held s.turns held (p.task.last before s.clock.time number) h.0 k.0).2 in
            h.1 ∙ ap (λ (x : Held A O). record v { held = x }) e ∙ sym k.1)
        | inr k ↦ not-whole w (record v { held = w.held; whole = false }) second refl k.1
      ]
      | inr h ↦ not-whole u (record v { held = u.held; whole = false }) first refl h.1
    ]

    answer-same : (task : ℕ) (kind : AnswerKind) → MovesAnswer p s v task kind u → MovesAnswer p s v task kind w → u ≡ w
    answer-same task IsPending h k =
        let q = polls-same task Pending Pending h.0 k.0 h.1 k.1 in
        h.2 ∙ rw q.1 refl ∙ sym k.2
    answer-same task IsReady h k =
        let q = polls-same task (Ready h.0) (Ready k.0) h.1 k.1 h.2 k.2 in
        let o : h.0 ≡ k.0 = let e = q.0 in cc in
        h.3 ∙ (rw (o, q.1) refl) ∙ sym k.3
    answer-same task IsPanicked h k =
        let q = polls-same task (Panicked h.0) (Panicked k.0) h.1 k.1 h.2 k.2 in
        let text : h.0 ≡ k.0 = let e = q.0 in cc in
        h.3 ∙ (rw (text, q.1) refl) ∙ sym k.3
    answer-same task IsStopped h k = h ∙ sym k
    answer-same task LacksMemory h k = not-whole u (record v { held = put task h.left h.moved; whole = false }) first refl h.is
    answer-same task IsEnded h k =
        let same = same-some (find task v.held.tasks) k.0 h.0 k.1 h.1 in
        let ends = k.2 in
        let other : EndsState p s task h.0 (taken task v.held) v w = rw same at ends in
        ends-same task h.0 (taken task v.held) v h.2 other

    broken : (x : Value A O) → x.whole ≡ true → MakerBreaks p s v x → ⊥
    broken x whole h = elim h [
      | inl h ↦ not-whole x (record v { held = x.held; unmade = x.unmade; whole = false }) whole refl h.1
      | inr h ↦ not-whole x (record v { held = x.held; unmade = None; whole = false }) whole refl h.1
    ]

    cleanup-same : (phase : Phase) → MovesCleanup p s v phase u → MovesCleanup p s v phase w → u ≡ w
    cleanup-same Making h k = elim h [
      | inl h ↦ elim k [
        | inl k ↦ (
            let q = makes-same h.0 k.0 u.held w.held h.1 k.1 in
            h.2 ∙ rw (q.0, q.1) refl ∙ sym k.2)
        | inr k ↦ absurd (broken w second k)
      ]
      | inr h ↦ absurd (broken u first h)
    ]
    cleanup-same _ h k = h ∙ sym k

    crash-same : (unmade : Option A) → MovesCrash p s v unmade u → MovesCrash p s v unmade w → u ≡ w
    crash-same None h k = h.0 ∙ sym k.0
    crash-same (Some a) h k = ends-same no_number a v.held (record v { unmade = None }) h k

    moves-same : (e : Entry) → Moves p s v e u → Moves p s v e w → u ≡ w
    moves-same (Root task) h k =
        let q = makes-same h.0 k.0 h.1 k.1 h.2 k.2 in
        h.3 ∙ rw (q.0, q.1) refl ∙ sym k.3
    moves-same (AnswerEntry task kind) h k = answer-same task kind h k
    moves-same Cleanup h k = cleanup-same s.phase h k
    moves-same (Crash choices) h k = crash-same v.unmade h k
    moves-same (Round order) h k = h.0 ∙ sym k.0
    moves-same (Visit task) h k = h.0 ∙ sym k.0
    moves-same (Advance now) h k = h.0 ∙ sym k.0
    moves-same (Skip now) h k = h.0 ∙ sym k.0
    moves-same (Fire alarm) h k = h.0 ∙ sym k.0
    moves-same _ h k = h ∙ sym k

-- what is whole was whole before
module _ {A O : Type 0} (p : Steps A O) (s : State) (v w : Value A O) (whole : w.whole ≡ true) where
  was-same : (u : Value A O) → w ≡ u → u.whole ≡ true
  was-same u k = ap (λ (x : Value A O). x.whole) (sym k) ∙ whole

  was-ended : (number : ℕ) (before : A) (held : Held A O) (v : Value A O) → EndsState p s number before held v w → v.whole ≡ true
  was-ended number before held v k = elim k [
    | inl k ↦ was-same (record v { held = w.held }) k.1
    | inr k ↦ not-whole w (record v { held = w.held; whole = false }) whole refl k.1
  ]

  -- an output leaves it as it is, wherever it goes
  was-given : (is_root : Bool) (task : ℕ) (o : O) (end : Held A O) → w ≡ (if is_root then record v { held = end; output = Some o } else record v { held = with_result (is_some (find task s.stood.results)) task o end }) → v.whole ≡ true
  was-given true task o end k = was-same (record v { held = end; output = Some o }) k
  was-given false task o end k = was-same (record v { held = with_result (is_some (find task s.stood.results)) task o end }) k

  was-answered : (task : ℕ) (kind : AnswerKind) → MovesAnswer p s v task kind w → v.whole ≡ true
  was-answered task IsPending k = was-same (record v { held = k.0 }) k.2
  was-answered task IsReady k = was-given (is_some_number task s.root) task k.0 k.1 k.3
  was-answered task IsPanicked k = was-same (record v { held = k.1; panic = kept_text s task k.0 v.panic }) k.3
  was-answered task IsStopped k = was-same v k
  was-answered task LacksMemory k = not-whole w (record v { held = put task k.left k.moved; whole = false }) whole refl k.is
  was-answered task IsEnded k = was-ended task k.0 (taken task v.held) v k.2

  was-cleaned : (phase : Phase) → MovesCleanup p s v phase w → v.whole ≡ true
  was-cleaned Making k = elim k [
    | inl k ↦ was-same (record v { held = w.held; unmade = Some k.0 }) k.2
    | inr k ↦ absurd (elim k [
      | inl h ↦ not-whole w (record v { held = w.held; unmade = w.unmade; whole = false }) whole refl h.1
      | inr h ↦ not-whole w (record v { held = w.held; unmade = None; whole = false }) whole refl h.1
    ])
  ]
  was-cleaned _ k = was-same v k

  was-crashed : (unmade : Option A) → MovesCrash p s v unmade w → v.whole ≡ true
  was-crashed None k = was-same v k.0
  was-crashed (Some a) k = was-ended no_number a v.held (record v { unmade = None }) k

  was-whole : (e : Entry) → Moves p s v e w → v.whole ≡ true
  was-whole (Root task) k = was-same (record v { held = put task k.0 k.1 }) k.3
  was-whole (AnswerEntry task kind) k = was-answered task kind k
  was-whole Cleanup k = was-cleaned s.phase k
  was-whole (Crash choices) k = was-crashed v.unmade k
  was-whole (Round order) k = k.1
  was-whole (Visit task) k = k.1
  was-whole (Advance now) k = k.1
  was-whole (Skip now) k = k.1
  was-whole (Fire alarm) k = k.1
  was-whole _ k = was-same v k

pub all-whole : {A O : Type 0} → (p : Steps A O) (s : State) (v w : Value A O) (x : List Entry) → IsTied p s v x w → w.whole ≡ true → v.whole ≡ true
all-whole p s v w [] h whole = ap (λ x. x.whole) (sym h) ∙ whole
all-whole p s v w (e ∷ x) h whole = was-whole p s v h.0 (all-whole p (after s e) h.0 w x h.2 whole) e h.1

pub tied-same : {A O : Type 0} → (p : Steps A O) (s : State) (v u w : Value A O) (x : List Entry) → IsTied p s v x u → IsTied p s v x w → u.whole ≡ true → w.whole ≡ true → u ≡ w
tied-same p s v u w [] h k first second = h ∙ sym k
tied-same p s v u w (e ∷ x) h k first second =
    let same = moves-same p s v k.0 h.0 (all-whole p (after s e) k.0 w x k.2 second) (all-whole p (after s e) h.0 u x h.2 first) e k.1 h.1 in
    let rest = k.2 in
    let other : IsTied p (after s e) h.0 x w = rw same at rest in
    tied-same p (after s e) h.0 u w x h.2 other first second

pub same_value : (A O : Type 0) (p : Steps A O) (b c : Begin) (x : List Entry) (cause other : FinishCause) (end last : State) (v w : Value A O) → IsRun p b x cause end v → IsRun p c x other last w → b.catch ≡ c.catch → v ≡ w
same_value A O p b c x cause other end last v w first second catch =
    let begins = same_begin A A O O p p b c x cause other end last v w first second catch in
    let tied = second.tied in
    let other : IsTied p (begun b) nothing x w = rw begins tied in
    tied-same p (begun b) nothing v w x first.tied other first.whole second.whole
