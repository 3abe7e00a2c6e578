-- How a run has come to its outcome.
use Rattle.rt_core.proofs.Prelude.{◌≡◌, ◌⊎◌, ◌≢◌, ◌++◌, inl, inr, ℕ, List, [], refl, ap, ◌∙◌, sym, subst, Bool, true, Option, Some, None, is_some, IfSome, Result, Ok, Err, Stream, Entry, Root, digest_of, FinishCause, Completed, Stalled, TaskPanicked, TimeOverflow, TooManyTasks, Begin, State, Clock, Finished, begun, after, after_all, AreDigested, IsLawful, AreDrawn, Walks, Fronts, Breaks, reached, Steps, Value, IsRun, IsCutOff, Held, Gave, Told, own, pushed, finish_of, text_of, RunError, IsTimeout, IsStalled, HasPanicked, IsTimeOverflow, AreTooManyTasks, IsNoMemory, World, Drew, Kept, Follows, Agrees, IsMade, IsUnmade, unmade_of, value_of, EndAgrees, Runs, EndsFor, IsFinal, Seals, drawn-of, drew-behind, drew-drew, drew-of, ends-with-text, Ended, Completes, Facts, FailedFor, IsValid, Leaves, Starting}
use Rattle.rt_audit.specs.declared.finish.FinishCause.TheVariants.{Timeout, NoMemory}

module _ {A O G : Type 0} (p : Steps A O) (w : World A O G) where
  -- a run that was whole up to its cleanup
  pub ended-whole : (final cause : FinishCause) (output : Option O) → EndsFor p w final output true → (final ≡ cause) → Ended p w cause output
  ended-whole final cause output e is =
      record {
        whole = e.last;
        last = output;
        agrees = e.agrees;
        kept = elim e.kept [ inl h ↦ inl (h, refl) | inr h ↦ inr (sym is ∙ h) ];
      }

  -- one that was cut off
  pub ended-cut : (final : FinishCause) (last output : Option O) (whole : Bool) → EndsFor p w final last whole → Ended p w NoMemory output
  ended-cut final last output whole e = record { whole = e.last; last = last; agrees = e.agrees; kept = inr refl }

  -- one that lacked memory in its cleanup, or before
  pub ended-lacking : (before : World A O G) (outcome : Result O FinishCause) (final : FinishCause) → EndAgrees p before outcome → ((whole : Bool) (output : Option O) → Agrees p whole before output → EndsFor p w final output whole) → Ended p w NoMemory None
  ended-lacking before (Ok output) final a ends = ended-cut final (Some output) None true (ends true (Some output) a)
  ended-lacking before (Err NoMemory) final a ends = ended-cut final None None a.0 (ends a.0 None a.1)
  ended-lacking before (Err cause) final a ends = ended-cut final None None true (ends true None a)

-- a maker that lacked memory
pub unmade : {A O G : Type 0} (p : Steps A O) (old new : World A O G) (root : Option A) → {stream : G → Stream} → Kept stream old new → Follows p new.told (unmade_of old.held) → (Breaks (p.first old.told.state.clock.time) old.held new.told.state.turns new.told.state.stood new.held ⊎ (Fronts (p.first old.told.state.clock.time) old.held new.told.state.turns new.held × (root ≡ None))) → IsUnmade p new root
unmade p old new root kept follows breaks = record {
  before = old.held;
  follows = follows;
  breaks = rw (ap (λ (c : Clock). c.time) kept.clock) breaks;
}

-- one that made no root
pub none-made : {A : Type 0} (P Q : Type 0) (root : Option A) → root ≡ None → P ⊎ Q → P ⊎ (Q × (root ≡ None))
none-made P Q root none (inl p) = inl p
none-made P Q root none (inr q) = inr (q, none)

-- a root that was made
pub made : {A O G : Type 0} (p : Steps A O) (old new : World A O G) (root : A) {stream : G → Stream} → Kept stream old new → Follows p new.told (unmade_of old.held) → Walks (p.first old.told.state.clock.time) old.held new.told.state.turns new.told.state.stood tt root new.held → IsMade p new root
made p old new root kept follows walks = record {
  before = old.held;
  follows = follows;
  walks = rw (ap (λ (c : Clock). c.time) kept.clock) walks;
}

-- all that was drawn, where nothing was before
pub gave-all : {A O G : Type 0} (stream : G → Stream) (a b : World A O G) → Drew stream a b → a.told.state.drawn ≡ [] → Gave (stream a.rng) b.told.state.drawn (stream b.rng)
unfolding Drew
gave-all stream a b d none = rw (d.are, none) d.gave

-- what is so of the entries of a world that began so
pub facts_of : {A O G : Type 0} (s : Starting G) (w : World A O G) (stream : G → Stream) → w.told.begin ≡ s.begin → w.told.given ≡ s.given → AreDrawn (begun w.told.begin) (own w.told) → w.told.state ≡ after_all (begun w.told.begin) (own w.told) → Gave (stream s.rng) w.told.state.drawn (stream w.rng) → AreDigested (digest_of w.told.given) (own w.told) → Facts stream s (own w.told) (stream w.rng)
facts_of s w stream begin given drawn state draws digested = record {
  drawn = rw begin at drawn;
  draws = subst (λ (x : State). Gave (stream s.rng) x.drawn (stream w.rng)) (rw begin at state) draws;
  digested = rw given at digested;
}

module _ {A O G : Type 0} (stream : G → Stream) (a b c : World A O G) where
  -- rounds were made, and then the run was cleaned up
  pub leaves-rounds : (cause : FinishCause) → Runs stream a b → Seals stream b c → c.told.state.phase ≡ Finished cause → Leaves stream a c cause
  leaves-rounds cause runs seals phase = record {
    phase = phase;
    given = seals.given ∙ runs.given;
    begin = seals.begin ∙ runs.begin;
    fixed = ap (λ (x : Clock). x.fixed) seals.clock ∙ runs.fixed;
    drew = drew-drew stream a b c (drew-of stream a b runs.writes) (drew-of stream b c seals.writes);
    tasks = seals.tasks;
  }

  -- calls were made first
  pub leaves-made : (cause : FinishCause) → Kept stream a b → Leaves stream b c cause → Leaves stream a c cause
  leaves-made cause kept leaves = record {
    phase = leaves.phase;
    given = leaves.given ∙ kept.given;
    begin = leaves.begin ∙ kept.begin;
    fixed = leaves.fixed ∙ ap (λ (x : Clock). x.fixed) kept.clock;
    drew = drew-drew stream a b c (drawn-of stream a b kept.lasts) leaves.drew;
    tasks = leaves.tasks;
  }

  -- the root was taken in first
  pub leaves-taken : (cause : FinishCause) (task : ℕ) (held : Held A O) → b ≡ record a { told = pushed a.told (Root task); held = held } → Leaves stream b c cause → Leaves stream a c cause
  unfolding after
  leaves-taken cause task held e leaves =
      let rng : b.rng ≡ a.rng = ap (λ (w : World A O G). w.rng) e in
      let told : b.told ≡ pushed a.told (Root task) = ap (λ (w : World A O G). w.told) e in
      record {
        phase = leaves.phase;
        given = leaves.given ∙ ap (λ (t : Told). t.given) told;
        begin = leaves.begin ∙ ap (λ (t : Told). t.begin) told;
        fixed = leaves.fixed ∙ ap (λ (t : Told). t.state.clock.fixed) told;
        drew = drew-behind stream a b c rng (ap (λ (t : Told). t.state.drawn) told) leaves.drew;
        tasks = leaves.tasks;
      }

-- the run was cleaned up where it stood
pub leaves-sealed : {A O G : Type 0} (stream : G → Stream) (a c : World A O G) (cause : FinishCause) → Seals stream a c → c.told.state.phase ≡ Finished cause → Leaves stream a c cause
leaves-sealed stream a c cause seals phase = record {
  phase = phase;
  given = seals.given;
  begin = seals.begin;
  fixed = ap (λ (x : Clock). x.fixed) seals.clock;
  drew = drew-of stream a c seals.writes;
  tasks = seals.tasks;
}

final-lacks : (final : FinishCause) → IsFinal NoMemory final → final ≡ NoMemory
final-lacks final (inl e) = e
final-lacks final (inr e) = e

-- a maker that lacked memory, and the run was cleaned up
pub leaves-unmade : {A O G : Type 0} (stream : G → Stream) (a b c : World A O G) (final : FinishCause) → Kept stream a b → Seals stream b c → c.told.state.phase ≡ Finished final → IsFinal NoMemory final → Leaves stream a c NoMemory
leaves-unmade stream a b c final kept seals phase is = leaves-made stream a b c NoMemory kept (leaves-sealed stream b c NoMemory seals (phase ∙ ap Finished (final-lacks final is)))

pub ruleset outcome_laws = (ended-whole, ended-cut, leaves-rounds, leaves-made, leaves-taken, leaves-sealed)

-- a world at the end of its run, which is lawful and began so
module _ {A O G : Type 0} (p : Steps A O) (begin : Begin) (w : World A O G) (lawful : IsLawful (begun begin) (own w.told)) (state : w.told.state ≡ after_all (begun begin) (own w.told)) (is : w.told.begin ≡ begin) where
  is_run : (cause : FinishCause) (output : Option O) → w.told.state.phase ≡ Finished cause → Ended p w cause output → cause ≢ NoMemory → (v : Value A O) × IsRun p begin (own w.told) cause w.told.state v × (v.output ≡ output) × (v.panic ≡ w.panic)
  is_run cause output ends e not =
      let kept : (e.whole ≡ true) × (e.last ≡ output) = elim e.kept [ inl h ↦ h | inr h ↦ absurd (not h) ] in (
        value_of w e.last None e.whole,
        record {
          lawful = lawful;
          reaches = sym state;
          ends = ends;
          caused = not;
          tied = rw is at e.agrees.tied;
          whole = kept.0;
        },
        kept.1,
        refl,
      )

  is_cut_off : w.told.state.phase ≡ Finished NoMemory → Ended p w NoMemory None → IsCutOff p begin (own w.told)
  is_cut_off ends e = record {
    value = value_of w e.last None e.whole;
    lawful = lawful;
    ends = ap (λ (s : State). s.phase) (sym state) ∙ ends;
    tied = rw is at e.agrees.tied;
  }

  failed : (cause : FinishCause) → w.told.state.phase ≡ Finished cause → Ended p w cause None → cause ≢ NoMemory → (end : State) × (v : Value A O) × IsRun p begin (own w.told) cause end v × (v.panic ≡ w.panic)
  failed cause ends e not = let r = is_run cause None ends e not in (w.told.state, r.0, r.1, r.3)

  without : (cause : FinishCause) → w.told.state.phase ≡ Finished cause → Ended p w cause None → cause ≢ NoMemory → (end : State) × (v : Value A O) × IsRun p begin (own w.told) cause end v
  without cause ends e not = let f = failed cause ends e not in (f.0, f.1, f.2)

  failed_for : (error : RunError) → IfSome (text_of error) (λ text. w.panic ≡ Some text) → w.told.state.phase ≡ Finished (finish_of error) → Ended p w (finish_of error) None → FailedFor p begin (own w.told) error
  failed_for IsNoMemory text ends e = inr (is_cut_off ends e)
  failed_for (HasPanicked own_text) text ends e = let f = failed TaskPanicked ends e (λ h. cc) in (f.0, f.1, f.2, f.3 ∙ text)
  failed_for IsTimeout text ends e = without Timeout ends e (λ h. cc)
  failed_for IsStalled text ends e = without Stalled ends e (λ h. cc)
  failed_for IsTimeOverflow text ends e = without TimeOverflow ends e (λ h. cc)
  failed_for AreTooManyTasks text ends e = without TooManyTasks ends e (λ h. cc)

  pub failed_by : (error : RunError) (cause : FinishCause) → finish_of error ≡ cause → IfSome (text_of error) (λ text. w.panic ≡ Some text) → w.told.state.phase ≡ Finished cause → Ended p w cause None → FailedFor p begin (own w.told) error
  failed_by error cause is text ends e = failed_for error text (rw is ends) (rw is e)

  -- a run that ends by a panic has its text
  pub has_text : (cause : FinishCause) → w.told.state.phase ≡ Finished cause → Ended p w cause None → cause ≡ TaskPanicked → is_some w.panic ≡ true
  has_text cause ends e panicked =
      ends-with-text p begin (own w.told) (value_of w e.last None e.whole) lawful (rw is at e.agrees.tied)
      (ap reached (sym state) ∙ rw ends refl ∙ ap Some panicked)

  pub completes : (stream : G → Stream) (given journal : List Entry) (rng kept : G) (output : O) (time cycle : ℕ) (deadline : Option ℕ) (catch : Bool) → w.told.state.phase ≡ Finished Completed → Ended p w Completed (Some output) → journal ≡ given ++ own w.told → time ≡ w.told.state.clock.time → w.told.state.clock.fixed ≡ begin → Facts stream (record { begin = begin; given = given; rng = rng }) (own w.told) (stream kept) → begin.cycle ≡ cycle → begin.deadline ≡ deadline → begin.catch ≡ catch → Completes stream p (record { begin = begin; given = given; rng = rng }) output (record { time = time; deadline = deadline; cycle = cycle; catch = catch; journal = journal; rng = kept })
  completes stream given journal rng kept output time cycle deadline catch ends e extends at fixed facts one two three =
      let r = is_run Completed (Some output) ends e (λ h. cc) in
      record {
        entries = own w.told;
        end = w.told.state;
        value = r.0;
        run = r.1;
        gives = r.2;
        keeps = rw (extends, at, ← one, ← two, ← three, ← fixed) refl;
        facts = facts;
      }

-- valid input fails only where it is out of memory
module _ {A O G : Type 0} (stream : G → Stream) (p : Steps A O) (s : Starting G) (x : List Entry) (left : Stream) (v : IsValid stream p s) (facts : Facts stream s x left) where
  valid : (cause : FinishCause) → (end : State) × (v : Value A O) × IsRun p s.begin x cause end v → cause ≡ Completed
  valid cause r = v x cause r.0 r.1 left r.2 facts

  pub only_memory : (error : RunError) → FailedFor p s.begin x error → error ≡ IsNoMemory
  only_memory (HasPanicked text) f = let e = valid TaskPanicked (f.0, f.1, f.2) in absurd (cc)
  only_memory IsNoMemory f = refl
  only_memory IsTimeout f = let e = valid Timeout f in absurd (cc)
  only_memory IsStalled f = let e = valid Stalled f in absurd (cc)
  only_memory IsTimeOverflow f = let e = valid TimeOverflow f in absurd (cc)
  only_memory AreTooManyTasks f = let e = valid TooManyTasks f in absurd (cc)
