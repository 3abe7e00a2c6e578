-- What was drawn, over the parts of a run.
use Rattle.rt_world.proofs.Prelude.{◌≡◌, ◌∙◌, ap, ℕ, Bool, true, false, List, [], ◌∷◌, ◌++◌, map, length, Option, Some, None, refl, sym, append_assoc, append-nil, Stream, next_u32, next_u64, fill_bytes, AnswerKind, Ended, FinishCause, Entry, Start, Event, Round, Visit, Answer, NodeEnd, Advance, Skip, Fire, Crash, Finish, is_ended, Drawn, Short, Long, Filled, after, is_closing, State, taken, Held, Gave, Draws, Drains, Calmly, is_calm, AreCalm, cleanup_by, cleanup_entries, Told, pushed, pushed_all, is_quiet, AreQuiet, Quietly, gave-gave, World, IsFront, Drew, Writes, Kept, Ends, IsClosing, Seals, Passes}
use Rattle.rt_audit.specs.declared.entry.Entry.TheVariants.{Wake}
use Rattle.rt_world.proofs.Lasting.{grows-of, drawn-of}
use Rattle.rt_world.proofs.Fronts.{front-same, front-front, front-pushed, front-twice, front-called, front-kept}
use Rattle.rt_world.proofs.Seats.{grows-closing}

-- nothing is drawn by what is quiet or calm, nor by the beginning of a cleanup
quiet-one : (s : State) (e : Entry) → is_quiet e ≡ true → (after s e).drawn ≡ s.drawn
unfolding after
quiet-one s (Start next now deadline cycle) h = refl
quiet-one s (Event label fields) h = refl
quiet-one s (Wake task) h = refl
quiet-one s (Round order) h = refl
quiet-one s (Visit task) h = refl
quiet-one s (NodeEnd node) h = refl
quiet-one s (Advance now) h = refl
quiet-one s (Skip now) h = refl
quiet-one s (Fire alarm) h = refl
quiet-one s (Finish cause) h = refl
quiet-one s _ h = cc

quiet-all : (t : Told) (es : List Entry) → AreQuiet es → (pushed_all t es).state.drawn ≡ t.state.drawn
quiet-all t [] h = refl
quiet-all t (e ∷ es) h = quiet-all (pushed t e) es h.1 ∙ quiet-one t.state e h.0

pub quietly-drawn : (t u : Told) → Quietly t u → u.state.drawn ≡ t.state.drawn
quietly-drawn t u q = rw q.is (quiet-all t q.entries q.quiet)

calm-one : (s : State) (e : Entry) → is_calm e ≡ true → (after s e).drawn ≡ s.drawn
unfolding after
calm-one s (NodeEnd node) h = refl
calm-one s (Wake task) h = refl
calm-one s _ h = cc

calm-all : (t : Told) (es : List Entry) → AreCalm es → (pushed_all t es).state.drawn ≡ t.state.drawn
calm-all t [] h = refl
calm-all t (e ∷ es) h = calm-all (pushed t e) es h.1 ∙ calm-one t.state e h.0

pub calmly-drawn : (t u : Told) → Calmly t u → u.state.drawn ≡ t.state.drawn
calmly-drawn t u c = rw c.is (calm-all t c.entries c.calm)

cleanup-drawn : (t : Told) (ended : Bool) → (pushed_all t (cleanup_by ended)).state.drawn ≡ t.state.drawn
unfolding after
cleanup-drawn t true = refl
cleanup-drawn t false = refl

pub cleaned-drawn : (t u : Told) → u ≡ pushed_all t (cleanup_entries t.state.stood.nodes) → u.state.drawn ≡ t.state.drawn
cleaned-drawn t u e = rw e (cleanup-drawn t (is_ended t.state.stood.nodes 0))

-- what a generator gave, one part after another
draws-draws : (from mid left : Stream) (a b c : List Drawn) → Draws from mid a b → Draws mid left b c → Draws from left a c
draws-draws from mid left a b c h k = record {
  more = h.more ++ k.more;
  are = rw (k.are, h.are) (append_assoc a h.more k.more);
  gave = gave-gave from mid left h.more k.more h.gave k.gave;
}

-- one thing that it gave
draws-one : (from left : Stream) (old new : List Drawn) (drawn : Drawn) → new ≡ old ++ drawn ∷ [] → Gave from (drawn ∷ []) left → Draws from left old new
draws-one from left old new drawn are gave = record { more = drawn ∷ []; are = are; gave = gave }

module _ {A O G : Type 0} (stream : G → Stream) where
  -- nothing was drawn
  pub drew-same : (old new : World A O G) → new.rng ≡ old.rng → new.told.state.drawn ≡ old.told.state.drawn → Drew stream old new
  unfolding Drew
  drew-same old new rng drawn = record { more = []; are = rw drawn (sym (append-nil old.told.state.drawn)); gave = ap stream (sym rng) }

  pub drew-drew : (a b c : World A O G) → Drew stream a b → Drew stream b c → Drew stream a c
  unfolding Drew
  drew-drew a b c h k = draws-draws (stream a.rng) (stream b.rng) (stream c.rng) a.told.state.drawn b.told.state.drawn c.told.state.drawn h k

  -- and nothing behind it
  pub drew-on : (a b c : World A O G) → Drew stream a b → c.rng ≡ b.rng → c.told.state.drawn ≡ b.told.state.drawn → Drew stream a c
  drew-on a b c h rng drawn = drew-drew a b c h (drew-same b c rng drawn)

  -- or before it
  pub drew-behind : (a b c : World A O G) → b.rng ≡ a.rng → b.told.state.drawn ≡ a.told.state.drawn → Drew stream b c → Drew stream a c
  drew-behind a b c rng drawn k = drew-drew a b c (drew-same a b rng drawn) k

  -- a round was drained
  pub drew-drained : (a b : World A O G) (order : List ℕ) → Drains (stream a.rng) (stream b.rng) a.told b.told order → Drew stream a b
  unfolding Drew after
  drew-drained a b order d = record { more = map Long d.orders.draws; are = ap (λ (s : State). s.drawn) d.state; gave = d.orders.gave }

  -- a call drew
  pub drew-short : (a b : World A O G) (number : ℕ) → b.told.state.drawn ≡ a.told.state.drawn ++ Short number ∷ [] → (number, stream b.rng) ≡ next_u32 (stream a.rng) → Drew stream a b
  unfolding Drew
  drew-short a b number are e = draws-one (stream a.rng) (stream b.rng) a.told.state.drawn b.told.state.drawn (Short number) are (sym (ap (λ (p : ℕ × Stream). p.0) e), sym (ap (λ (p : ℕ × Stream). p.1) e))

  pub drew-long : (a b : World A O G) (number : ℕ) → b.told.state.drawn ≡ a.told.state.drawn ++ Long number ∷ [] → (number, stream b.rng) ≡ next_u64 (stream a.rng) → Drew stream a b
  unfolding Drew
  drew-long a b number are e = draws-one (stream a.rng) (stream b.rng) a.told.state.drawn b.told.state.drawn (Long number) are (sym (ap (λ (p : ℕ × Stream). p.0) e), sym (ap (λ (p : ℕ × Stream). p.1) e))

  pub drew-filled : (a b : World A O G) (len : ℕ) (bytes : List ℕ) → length bytes ≡ len → b.told.state.drawn ≡ a.told.state.drawn ++ Filled bytes ∷ [] → (bytes, stream b.rng) ≡ fill_bytes len (stream a.rng) → Drew stream a b
  unfolding Drew
  drew-filled a b len bytes long are e =
      let same = ap (λ n. fill_bytes n (stream a.rng)) long in
      draws-one (stream a.rng) (stream b.rng) a.told.state.drawn b.told.state.drawn (Filled bytes) are (ap (λ (p : List ℕ × Stream). p.0) (same ∙ sym e), ap (λ (p : List ℕ × Stream). p.1) (same ∙ sym e))

-- what a part writes and draws
pub writes-of : {A O G : Type 0} (stream : G → Stream) (a b : World A O G) → IsFront a.told b.told → Drew stream a b → Writes stream a b
unfolding Writes
writes-of stream a b front drew = (front, drew)

pub front-of : {A O G : Type 0} (stream : G → Stream) (a b : World A O G) → Writes stream a b → IsFront a.told b.told
unfolding Writes
front-of stream a b w = w.0

pub drew-of : {A O G : Type 0} (stream : G → Stream) (a b : World A O G) → Writes stream a b → Drew stream a b
unfolding Writes
drew-of stream a b w = w.1

module _ {A O G : Type 0} (stream : G → Stream) where
  pub writes-same : (a b : World A O G) → b.told ≡ a.told → b.rng ≡ a.rng → Writes stream a b
  writes-same a b told rng = writes-of stream a b (front-same a.told b.told told) (drew-same stream a b rng (ap (λ (t : Told). t.state.drawn) told))

  pub writes-writes : (a b c : World A O G) → Writes stream a b → Writes stream b c → Writes stream a c
  writes-writes a b c h k =
      writes-of stream a c (front-front a.told b.told c.told (front-of stream a b h) (front-of stream b c k)) (drew-drew stream a b c (drew-of stream a b h) (drew-of stream b c k))

-- a part: the worlds before its state is taken out, before its calls, and after them
module _ {A O G : Type 0} (stream : G → Stream) (w0 w1 w2 : World A O G) (task : ℕ) (none : w0.told.calls ≡ []) (began : w1 ≡ record w0 { held = taken task w0.held; out = Some task }) (kept : Kept stream w1 w2) where
  called : Drew stream w0 w2
  called = drew-behind stream w0 w1 w2 (ap (λ (w : World A O G). w.rng) began) (ap (λ (w : World A O G). w.told.state.drawn) began) (drawn-of stream w1 w2 kept.lasts)

  -- its poll is answered
  pub passes-answered : (w3 : World A O G) (kind : AnswerKind) (held : Held A O) (panic : Option (List ℕ)) → w3 ≡ record w2 { told = pushed w2.told (Answer task kind); held = held; panic = panic; out = None } → Passes stream w0 w3
  unfolding after
  passes-answered w3 kind held panic e = rw e record {
    begin = kept.begin ∙ ap (λ (w : World A O G). w.told.begin) began;
    given = kept.given ∙ ap (λ (w : World A O G). w.told.given) began;
    clock = kept.clock ∙ ap (λ (w : World A O G). w.told.state.clock) began;
    root = kept.root ∙ ap (λ (w : World A O G). w.told.state.root) began;
    out = refl;
    writes = writes-of stream w0 _ (front-front w0.told w2.told _ (front-called stream w0 w1 w2 task none began kept) (front-pushed w2.told _ (Answer task kind) refl)) (drew-on stream w0 w2 _ called refl refl);
  }

  -- its task ends in its visit
  pub passes-ended : (w3 : World A O G) → Passes stream (record w2 { lacked = None }) w3 → Passes stream w0 w3
  passes-ended w3 p = record {
    begin = p.begin ∙ kept.begin ∙ ap (λ (w : World A O G). w.told.begin) began;
    given = p.given ∙ kept.given ∙ ap (λ (w : World A O G). w.told.given) began;
    clock = p.clock ∙ kept.clock ∙ ap (λ (w : World A O G). w.told.state.clock) began;
    root = p.root ∙ kept.root ∙ ap (λ (w : World A O G). w.told.state.root) began;
    out = p.out;
    writes = writes-writes stream w0 (record w2 { lacked = None }) w3 (writes-of stream w0 _ (front-called stream w0 w1 w2 task none began kept) (drew-on stream w0 w2 _ called refl refl)) p.writes;
  }

  -- its task ends in the cleanup
  pub writes-ended : (w3 : World A O G) → w3.rng ≡ w2.rng → w3.told ≡ pushed w2.told (Answer task Ended) → Writes stream w0 w3
  unfolding after
  writes-ended w3 rng told =
      writes-of stream w0 w3 (front-front w0.told w2.told w3.told (front-called stream w0 w1 w2 task none began kept) (front-pushed w2.told w3.told (Answer task Ended) told)) (drew-on stream w0 w2 w3 called rng (ap (λ (t : Told). t.state.drawn) told))

-- a cleanup: the worlds before it, where it has begun, and when all tasks have ended
module _ {A O G : Type 0} (stream : G → Stream) (w0 w1 w2 : World A O G) (begin : w1.told.begin ≡ w0.told.begin) (given : w1.told.given ≡ w0.told.given) (front : IsFront w0.told w1.told) (drawn : w1.told.state.drawn ≡ w0.told.state.drawn) (clock : w1.told.state.clock ≡ w0.told.state.clock) (rng : w1.rng ≡ w0.rng) (ends : Ends w1 w2) (ended : Writes stream w1 w2) where
  closed : Writes stream w0 w2
  closed = writes-writes stream w0 w1 w2 (writes-of stream w0 w1 front (drew-same stream w0 w1 rng drawn)) ended

  pub seals-sealed : (w3 : World A O G) (cause : FinishCause) → w2.held.tasks ≡ [] → w3 ≡ record w2 { told = pushed (pushed w2.told (Crash [])) (Finish cause) } → Seals stream w0 w3
  unfolding after
  seals-sealed w3 cause tasks e = rw e record {
    begin = ends.begin ∙ begin;
    given = ends.given ∙ given;
    clock = ends.clock ∙ clock;
    writes = writes-writes stream w0 w2 _ closed (writes-of stream w2 _ (front-twice w2.told _ (Crash []) (Finish cause) refl) (drew-same stream w2 _ refl refl));
    tasks = tasks;
  }

  -- and when a root that was not taken in has ended, too
  pub seals-unmade : (w3 w4 : World A O G) (cause : FinishCause) → Seals stream w2 w3 → w4 ≡ record w3 { told = pushed w3.told (Finish cause) } → Seals stream w0 w4
  unfolding after
  seals-unmade w3 w4 cause s e = rw e record {
    begin = s.begin ∙ ends.begin ∙ begin;
    given = s.given ∙ ends.given ∙ given;
    clock = s.clock ∙ ends.clock ∙ clock;
    writes = writes-writes stream w0 w3 _ (writes-writes stream w0 w2 w3 closed s.writes) (writes-of stream w3 _ (front-pushed w3.told _ (Finish cause) refl) (drew-same stream w3 _ refl refl));
    tasks = s.tasks;
  }

-- the end of that root
pub seals-crashed : {A O G : Type 0} → (stream : G → Stream) (w0 w1 w2 : World A O G) → IsClosing w0 → w0.told.state.running ≡ [] → Kept stream w0 w1 → (w1.out ≡ None → w1.told.state.running ≡ [] → w1.held.tasks ≡ []) → w2 ≡ record w1 { told = pushed w1.told (Crash []); lacked = None } → Seals stream w0 w2
unfolding after
seals-crashed stream w0 w1 w2 i ended kept none e = rw e record {
  begin = kept.begin;
  given = kept.given;
  clock = kept.clock;
  writes = writes-of stream w0 _ (front-front w0.told w1.told _ (front-kept stream w0 w1 i.calls kept) (front-pushed w1.told _ (Crash []) refl)) (drew-on stream w0 w1 _ (drawn-of stream w0 w1 kept.lasts) refl refl);
  tasks = none (kept.out ∙ i.out) (grows-closing _ _ _ (grows-of stream w0 w1 kept.lasts) (ap is_closing i.phase) ∙ ended);
}

pub ruleset part_laws = (writes-same, writes-writes)
