-- How a journal goes on following the steps.
use Rattle.rt_world.proofs.Prelude.{◌≡◌, ◌⊎◌, inl, inr, ℕ, List, [], ◌∷◌, ◌++◌, map, refl, ap, ◌∙◌, Bool, true, false, Option, Some, None, append-nil, Stream, IsPending, IsReady, IsPanicked, IsStopped, LacksMemory, IsEnded, FinishCause, Entry, Start, Event, Draw, Root, Round, Visit, AnswerEntry, NodeEnd, Advance, Skip, Fire, Cleanup, Crash, Finish, Begin, is_ended, State, Clock, Phase, begun, Making, after, after_all, process_task, find, is_some_number, Held, put, Walks, Fronts, Breaks, Steps, Value, nothing, Moves, MovesCleanup, MakerBreaks, EndsState, IsTied, Polls, given, kept_text, taken, no_number, after_all-append, IsTied-append, Drains, AreCalm, Calmly, cleanup_by, cleanup_entries, Told, fresh, pushed, pushed_all, AreCalls, AreQuiet, Quietly, own, World, Kept, Follows, Agrees, AgreesWith, value_of, unmade_of, IsMade, MakingAgrees}
use Rattle.rt_audit.specs.declared.entry.Entry.TheVariants.{Call, Wake}
use Rattle.rt_model.specs.declared.answer.Answer.{Answer}
use Rattle.rt_model.specs.declared.answer.Answer.TheVariants.{Pending, Ready, Panicked}

-- calls and wakes are tied to nothing, and move no value
tied-calls : {A O : Type 0} → (p : Steps A O) (s : State) (v : Value A O) (es : List Entry) → AreCalls es → IsTied p s v es v
tied-calls p s v [] h = refl
tied-calls p s v (Call by call reply ∷ es) h = (v, refl, tied-calls p (after s (Call by call reply)) v es h.1)
tied-calls p s v (Event label fields ∷ es) h = (v, refl, tied-calls p (after s (Event label fields)) v es h.1)
tied-calls p s v (Wake task ∷ es) h = (v, refl, tied-calls p (after s (Wake task)) v es h.1)
tied-calls p s v (_ ∷ es) h = cc

module _ {A O : Type 0} (p : Steps A O) where
  pub follows-pushed : (t : Told) (v w : Value A O) (e : Entry) → Follows p t v → Moves p t.state v e w → Follows p (pushed t e) w
  follows-pushed t v w e f h =
      let s = begun t.begin in
      let k : Moves p (after_all s (own t)) v e w = rw (← f.state) h in
      record {
        state = rw (append-nil (own t ++ e ∷ []), after_all-append s (own t) (e ∷ []), f.state) refl;
        tied = rw (append-nil (own t ++ e ∷ [])) (IsTied-append p s nothing v w (own t) (e ∷ []) f.tied (w, k, refl));
      }

  -- at the start of a run nothing has to be tied yet
  pub follows-start : (begin : Begin) (given : List Entry) (next now cycle : ℕ) (deadline : Option ℕ) → Follows p (pushed (fresh begin given) (Start next now deadline cycle)) nothing
  follows-start begin given next now cycle deadline =
      follows-pushed (fresh begin given) nothing nothing (Start next now deadline cycle) (record { state = refl; tied = refl }) refl

  pub follows-called : (t u : Told) (v : Value A O) → Follows p t v → t.calls ≡ [] → u.begin ≡ t.begin → u.past ≡ t.past → AreCalls u.calls → u.state ≡ after_all (begun u.begin) (own u) → Follows p u v
  follows-called t u v f none begin same calls state =
      let e : own t ≡ t.past = rw none (append-nil t.past) in
      let tied : IsTied p (begun t.begin) nothing t.past v = rw e at f.tied in
      record {
        state = state;
        tied = rw (begin, same) (IsTied-append p (begun t.begin) nothing v v t.past u.calls tied (tied-calls p (after_all (begun t.begin) t.past) v u.calls calls));
      }

  -- entries that the steps don't decide
  follows-one : (t : Told) (v : Value A O) (e : Entry) → v.whole ≡ true → Follows p t v → AreQuiet (e ∷ []) → Follows p (pushed t e) v
  follows-one t v (Call by call reply) h f q = cc
  follows-one t v (Root task) h f q = cc
  follows-one t v (AnswerEntry task kind) h f q = cc
  follows-one t v Cleanup h f q = cc
  follows-one t v (Crash choices) h f q = cc
  follows-one t v (Round order) h f q = follows-pushed t v v (Round order) f (refl, h)
  follows-one t v (Visit task) h f q = follows-pushed t v v (Visit task) f (refl, h)
  follows-one t v (Advance now) h f q = follows-pushed t v v (Advance now) f (refl, h)
  follows-one t v (Skip now) h f q = follows-pushed t v v (Skip now) f (refl, h)
  follows-one t v (Fire alarm) h f q = follows-pushed t v v (Fire alarm) f (refl, h)
  follows-one t v e h f q = follows-pushed t v v e f refl

  follows-quiet : (t : Told) (v : Value A O) (es : List Entry) → v.whole ≡ true → Follows p t v → AreQuiet es → Follows p (pushed_all t es) v
  follows-quiet t v [] h f q = f
  follows-quiet t v (e ∷ es) h f q = follows-quiet (pushed t e) v es h (follows-one t v e h f (q.0, tt)) q.1

  pub follows-quietly : (t u : Told) (v : Value A O) → v.whole ≡ true → Quietly t u → Follows p t v → Follows p u v
  follows-quietly t u v h q f = rw q.is (follows-quiet t v q.entries h f q.quiet)

  -- ends of nodes and wakes, also where the part before them lacked memory
  follows-calm : (t : Told) (v : Value A O) (es : List Entry) → Follows p t v → AreCalm es → Follows p (pushed_all t es) v
  follows-calm t v [] f q = f
  follows-calm t v (NodeEnd node ∷ es) f q = follows-calm (pushed t (NodeEnd node)) v es (follows-pushed t v v (NodeEnd node) f refl) q.1
  follows-calm t v (Wake task ∷ es) f q = follows-calm (pushed t (Wake task)) v es (follows-pushed t v v (Wake task) f refl) q.1
  follows-calm t v (_ ∷ es) f q = cc

  pub follows-calmly : (t u : Told) (v : Value A O) → Calmly t u → Follows p t v → Follows p u v
  follows-calmly t u v c f = rw c.is (follows-calm t v c.entries f c.calm)

  follows-draws : (t : Told) (v : Value A O) (draws : List ℕ) → Follows p t v → Follows p (pushed_all t (map Draw draws)) v
  follows-draws t v [] f = f
  follows-draws t v (value ∷ draws) f = follows-draws (pushed t (Draw value)) v draws (follows-pushed t v v (Draw value) f refl)

  -- a round is drained, behind its draws
  pub agrees-drained : {G : Type 0} (old new : World A O G) (from left : Stream) (order : List ℕ) → new ≡ record old { told = new.told; rng = new.rng } → Drains from left old.told new.told order → Agrees p true old None → Agrees p true new None
  agrees-drained {G = G} old new from left order e d f =
      let v = value_of old None None true in
      let ends : Follows p new.told v = rw d.told (follows-pushed (pushed_all old.told (map Draw d.orders.draws)) v v (Round order) (follows-draws old.told v d.orders.draws f) (refl, refl)) in
      let same : value_of new None None true ≡ v = ap (λ (w : World A O G). value_of w None None true) e in
      rw same ends

  -- a visit begins
  pub agrees-entered : {G : Type 0} (old new : World A O G) (task : ℕ) (fields : List (List ℕ)) → new ≡ record old { told = pushed (pushed old.told (Visit task)) (Event process_task fields) } → Agrees p true old None → Agrees p true new None
  agrees-entered old new task fields e f =
      let v = value_of old None None true in
      rw e (follows-pushed (pushed old.told (Visit task)) v v (Event process_task fields) (follows-pushed old.told v v (Visit task) f (refl, refl)) refl)

  -- the root is stopped at its visit
  pub agrees-stopped : {G : Type 0} (old new : World A O G) (task : ℕ) → new ≡ record old { told = pushed old.told (AnswerEntry task IsStopped) } → Agrees p true old None → Agrees p true new None
  agrees-stopped old new task e f = let v = value_of old None None true in rw e (follows-pushed old.told v v (AnswerEntry task IsStopped) f refl)

  -- a poll: the worlds before the state is taken out, before the poll, and after it
  module _ {G : Type 0} (w0 w1 w2 : World A O G) (task : ℕ) (a b : A) (began : w1 ≡ record w0 { held = taken task w0.held; out = Some task }) (there : find task w0.held.tasks ≡ Some a) (none : w0.told.calls ≡ []) {stream : G → Stream} (kept : Kept stream w1 w2) (calls : AreCalls w2.told.calls) (state : w2.told.state ≡ after_all (begun w2.told.begin) (own w2.told)) where
    polled : Agrees p true w0 None → Follows p w2.told (value_of w0 None None true)
    polled f =
        follows-called w0.told w2.told (value_of w0 None None true) f none (kept.begin ∙ ap (λ (w : World A O G). w.told.begin) began) (kept.past ∙ ap (λ (w : World A O G). w.told.past) began) calls state

    panic : w2.panic ≡ w0.panic
    panic = kept.panic ∙ ap (λ (w : World A O G). w.panic) began

    polls : (answer : Answer O) → Walks (p.task.next a w1.told.state.clock.time task) w1.held w2.told.state.turns w2.told.state.stood answer b w2.held → Polls p w2.told.state task w0.held answer (put task b w2.held)
    polls answer walks = record {
      before = a;
      left = b;
      moved = w2.held;
      there = there;
      walks = rw (← ap (λ (w : World A O G). w.held) began, ap (λ (c : Clock). c.time) kept.clock) walks;
      is = refl;
    }

    pub visit-pending : Walks (p.task.next a w1.told.state.clock.time task) w1.held w2.told.state.turns w2.told.state.stood Pending b w2.held → Agrees p true w0 None → Follows p (pushed w2.told (AnswerEntry task IsPending)) (record { held = put task b w2.held; output = None; panic = w2.panic; unmade = None; whole = true })
    visit-pending walks f =
        follows-pushed w2.told (value_of w0 None None true) (record { held = put task b w2.held; output = None; panic = w2.panic; unmade = None; whole = true }) (AnswerEntry task IsPending) (polled f)
        (put task b w2.held, polls Pending walks, rw panic refl)

    pub visit-ready : (o : O) → Walks (p.task.next a w1.told.state.clock.time task) w1.held w2.told.state.turns w2.told.state.stood (Ready o) b w2.held → Agrees p true w0 None → Follows p (pushed w2.told (AnswerEntry task IsReady)) (given w2.told.state task o (put task b w2.held) (value_of w2 None None true))
    visit-ready o walks f =
        follows-pushed w2.told (value_of w0 None None true) (given w2.told.state task o (put task b w2.held) (value_of w2 None None true)) (AnswerEntry task IsReady) (polled f)
        (o, put task b w2.held, polls (Ready o) walks, given-same w2.told.state task o (put task b w2.held) (is_some_number task w2.told.state.root) refl)
      where
        given-same : (s : State) (task : ℕ) (o : O) (end : Held A O) (root : Bool) → is_some_number task s.root ≡ root → given s task o end (value_of w2 None None true) ≡ given s task o end (value_of w0 None None true)
        given-same s task o end true e = rw (e, panic) refl
        given-same s task o end false e = rw (e, panic) refl

    pub visit-panicked : (text : List ℕ) → Walks (p.task.next a w1.told.state.clock.time task) w1.held w2.told.state.turns w2.told.state.stood (Panicked text) b w2.held → Agrees p true w0 None → Follows p (pushed w2.told (AnswerEntry task IsPanicked)) (record { held = put task b w2.held; output = None; panic = kept_text w2.told.state task text w2.panic; unmade = None; whole = true })
    visit-panicked text walks f =
        follows-pushed w2.told (value_of w0 None None true) (record { held = put task b w2.held; output = None; panic = kept_text w2.told.state task text w2.panic; unmade = None; whole = true }) (AnswerEntry task IsPanicked) (polled f)
        (text, put task b w2.held, polls (Panicked text) walks, rw panic refl)

    pub visit-cut : (Breaks (p.task.next a w1.told.state.clock.time task) w1.held w2.told.state.turns w2.told.state.stood w2.held ⊎ Fronts (p.task.next a w1.told.state.clock.time task) w1.held w2.told.state.turns w2.held) → Agrees p true w0 None → Follows p (pushed w2.told (AnswerEntry task LacksMemory)) (record { held = put task b w2.held; output = None; panic = w2.panic; unmade = None; whole = false })
    visit-cut breaks f =
        follows-pushed w2.told (value_of w0 None None true) (record { held = put task b w2.held; output = None; panic = w2.panic; unmade = None; whole = false }) (AnswerEntry task LacksMemory) (polled f)
        (record {
          before = a;
          left = b;
          moved = w2.held;
          there = there;
          breaks = rw (← ap (λ (w : World A O G). w.held) began, ap (λ (c : Clock). c.time) kept.clock) breaks;
          is = rw panic refl;
        })

  closed-by : (t : Told) (v w : Value A O) (ended : Bool) → Follows p t v → MovesCleanup p t.state v t.state.phase w → Follows p (pushed_all t (cleanup_by ended)) w
  closed-by t v w true f m = follows-pushed t v w Cleanup f m
  closed-by t v w false f m = follows-pushed (pushed t Cleanup) w w (NodeEnd 0) (follows-pushed t v w Cleanup f m) refl

  not-making : (s : State) (v : Value A O) (phase : Phase) → (phase ≡ Making → ⊥) → MovesCleanup p s v phase v
  not-making s v Making made = absurd (made refl)
  not-making s v _ made = refl

  -- a cleanup of a run whose root was taken in
  pub follows-closed : (t u : Told) (v : Value A O) → u ≡ pushed_all t (cleanup_entries t.state.stood.nodes) → (t.state.phase ≡ Making → ⊥) → Follows p t v → Follows p u v
  follows-closed t u v e made f = rw e (closed-by t v v (is_ended t.state.stood.nodes 0) f (not-making t.state v t.state.phase made))

  -- the crash of a run whose root was taken in
  pub follows-crashed : (t : Told) (held : Held A O) (output : Option O) (panic : Option (List ℕ)) (whole : Bool) → t.state.turns ≡ [] → let v : Value A O = record { held = held; output = output; panic = panic; unmade = None; whole = whole } in Follows p t v → Follows p (pushed t (Crash [])) v
  follows-crashed t held output panic whole none f =
      let v : Value A O = record { held = held; output = output; panic = panic; unmade = None; whole = whole } in
      follows-pushed t v v (Crash []) f (refl, none)

  -- and its last entry
  pub follows-finished : (t u : Told) (v : Value A O) (cause : FinishCause) → u ≡ pushed t (Finish cause) → Follows p t v → Follows p u v
  follows-finished t u v cause e f = rw e (follows-pushed t v v (Finish cause) f refl)

  -- a cleanup in place of the root's number: the maker made a root, or it lacked memory
  module _ {G : Type 0} (old : World A O G) (u : Told) (closed : u ≡ pushed_all old.told (cleanup_entries old.told.state.stood.nodes)) (making : old.told.state.phase ≡ Making) (calm : old.panic ≡ None) where
    closed-as : (v w : Value A O) → Follows p old.told v → MovesCleanup p old.told.state v Making w → Follows p u w
    closed-as v w f m =
        let moves : MovesCleanup p old.told.state v old.told.state.phase w = rw making m in
        rw closed (closed-by old.told v w (is_ended old.told.state.stood.nodes 0) f moves)

    pub closed-unmade : (whole : Bool) (unmade : Option A) → MakingAgrees p whole old unmade → Follows p u (value_of old None unmade whole)
    closed-unmade true (Some root) m = closed-as (unmade_of m.before) (value_of old None (Some root) true) m.follows (inl (root, m.walks, rw calm refl))
    closed-unmade true None m = absurd m
    closed-unmade false unmade m = closed-as (unmade_of m.before) (value_of old None unmade false) m.follows (inr (broken m.breaks))
      where
        broken : (Breaks (p.first old.told.state.clock.time) m.before old.told.state.turns old.told.state.stood old.held ⊎ (Fronts (p.first old.told.state.clock.time) m.before old.told.state.turns old.held × (unmade ≡ None))) → MakerBreaks p old.told.state (unmade_of m.before) (value_of old None unmade false)
        broken (inl breaks) = inl (breaks, rw calm refl)
        broken (inr fronts) = inr (fronts.0, rw (calm, fronts.1) refl)

  -- the root is taken in
  pub agrees-root : {G : Type 0} (old new : World A O G) (task : ℕ) (root : A) → old.panic ≡ None → new ≡ record old { told = pushed old.told (Root task); held = put task root old.held } → IsMade p old root → Agrees p true new None
  agrees-root old new task root calm e m =
      let w : Value A O = record { held = put task root old.held; output = None; panic = None; unmade = None; whole = true } in
      rw (e, calm) (follows-pushed old.told (unmade_of m.before) w (Root task) m.follows (root, old.held, m.walks, refl))

  -- the end of a task: the worlds before its state is taken out, before the calls of its end, and after them
  module _ {G : Type 0} (w0 w1 w2 : World A O G) (task : ℕ) (a : A) (began : w1 ≡ record w0 { held = taken task w0.held; out = Some task }) (none : w0.told.calls ≡ []) {stream : G → Stream} (kept : Kept stream w1 w2) (calls : AreCalls w2.told.calls) (state : w2.told.state ≡ after_all (begun w2.told.begin) (own w2.told)) (output : Option O) (unmade : Option A) (whole : Bool) (there : find task w0.held.tasks ≡ Some a) where
    ending : AgreesWith p whole w0 output unmade → Follows p w2.told (value_of w0 output unmade whole)
    ending f = follows-called w0.told w2.told (value_of w0 output unmade whole) f none (kept.begin ∙ ap (λ (w : World A O G). w.told.begin) began) (kept.past ∙ ap (λ (w : World A O G). w.told.past) began) calls state

    same-panic : w2.panic ≡ w0.panic
    same-panic = kept.panic ∙ ap (λ (w : World A O G). w.panic) began

    ended : (still : Bool) → EndsState p w2.told.state task a (taken task w0.held) (value_of w0 output unmade whole) (value_of w2 output unmade still) → AgreesWith p whole w0 output unmade → Follows p (pushed w2.told (AnswerEntry task IsEnded)) (value_of w2 output unmade still)
    ended still ends f =
        follows-pushed w2.told (value_of w0 output unmade whole) (value_of w2 output unmade still) (AnswerEntry task IsEnded) (ending f) (a, there, ends)

    pub ended-tied : Walks (p.task.last a w1.told.state.clock.time task) w1.held w2.told.state.turns w2.told.state.stood tt tt w2.held → AgreesWith p whole w0 output unmade → Follows p (pushed w2.told (AnswerEntry task IsEnded)) (value_of w2 output unmade whole)
    ended-tied walks f =
        ended whole (inl (rw (← ap (λ (w : World A O G). w.held) began, ap (λ (c : Clock). c.time) kept.clock) walks, rw same-panic refl)) f

    pub ended-broken : Breaks (p.task.last a w1.told.state.clock.time task) w1.held w2.told.state.turns w2.told.state.stood w2.held → AgreesWith p whole w0 output unmade → Follows p (pushed w2.told (AnswerEntry task IsEnded)) (value_of w2 output unmade false)
    ended-broken breaks f =
        ended false (inr (rw (← ap (λ (w : World A O G). w.held) began, ap (λ (c : Clock). c.time) kept.clock) breaks, rw same-panic refl)) f

  -- the end of a root that was not taken in: the worlds before its calls and after them
  module _ {G : Type 0} (w0 w2 : World A O G) (a : A) (none : w0.told.calls ≡ []) {stream : G → Stream} (kept : Kept stream w0 w2) (calls : AreCalls w2.told.calls) (state : w2.told.state ≡ after_all (begun w2.told.begin) (own w2.told)) (output : Option O) (whole : Bool) where
    unmade-as : (still : Bool) → EndsState p w2.told.state no_number a w0.held (value_of w0 output None whole) (value_of w2 output None still) → AgreesWith p whole w0 output (Some a) → Follows p (pushed w2.told (Crash [])) (value_of w2 output None still)
    unmade-as still ends f =
        follows-pushed w2.told (value_of w0 output (Some a) whole) (value_of w2 output None still) (Crash []) (follows-called w0.told w2.told (value_of w0 output (Some a) whole) f none kept.begin kept.past calls state) ends

    pub unmade-tied : Walks (p.task.last a w0.told.state.clock.time no_number) w0.held w2.told.state.turns w2.told.state.stood tt tt w2.held → AgreesWith p whole w0 output (Some a) → Follows p (pushed w2.told (Crash [])) (value_of w2 output None whole)
    unmade-tied walks f = unmade-as whole (inl (rw (ap (λ (c : Clock). c.time) kept.clock) walks, rw kept.panic refl)) f

    pub unmade-broken : Breaks (p.task.last a w0.told.state.clock.time no_number) w0.held w2.told.state.turns w2.told.state.stood w2.held → AgreesWith p whole w0 output (Some a) → Follows p (pushed w2.told (Crash [])) (value_of w2 output None false)
    unmade-broken breaks f = unmade-as false (inr (rw (ap (λ (c : Clock). c.time) kept.clock) breaks, rw kept.panic refl)) f
