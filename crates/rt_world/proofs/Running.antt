-- What lasts over rounds and clock steps, and over the ends of tasks.
use Rattle.rt_world.proofs.Prelude.{ap, ◌∙◌, ◌≡◌, ◌<◌, ◌+◌, List, [], ◌∷◌, ℕ, refl, map, None, true, false, length, drop, get_or, drop-cons, add-one, Result, Ok, Err, OnOk, Stream, Draw, Event, Visit, Answer, from_running, after, left_of, process_task, has_number, Clock, State, Visiting, Drains, Turns, Told, pushed, all-begin, all-given, World, Passes, Runs}
use Rattle.rt_audit.specs.declared.answer.AnswerKind.TheVariants.{Stopped}
use Rattle.rt_world.proofs.Fronts.{front-pushed, front-twice, front-quietly, front-drained}
use Rattle.rt_world.proofs.Drawn.{quietly-drawn, drew-same, drew-drained, writes-of, writes-same, writes-writes}

module _ {A O G : Type 0} (stream : G → Stream) (a b c : World A O G) where
  pub passes-passes : Passes stream a b → Passes stream b c → Passes stream a c
  passes-passes h k = record {
    begin = k.begin ∙ h.begin;
    given = k.given ∙ h.given;
    clock = k.clock ∙ h.clock;
    root = k.root ∙ h.root;
    out = k.out;
    writes = writes-writes stream a b c h.writes k.writes;
  }

module _ {A O G : Type 0} (stream : G → Stream) (a b : World A O G) where
  -- nothing has happened
  pub passes-same : a.out ≡ None → b ≡ a → Passes stream a b
  passes-same out e = rw e record { begin = refl; given = refl; clock = refl; root = refl; out = out; writes = writes-same stream a a refl refl }

  -- a visit has begun
  pub passes-entered : (task : ℕ) (fields : List (List ℕ)) → a.out ≡ None → b ≡ record a { told = pushed (pushed a.told (Visit task)) (Event process_task fields) } → Passes stream a b
  unfolding after
  passes-entered task fields out e = rw e record { begin = refl; given = refl; clock = refl; root = refl; out = out; writes = writes-of stream a _ (front-twice a.told _ (Visit task) (Event process_task fields) refl) (drew-same stream a _ refl refl) }

  -- the root was stopped at its visit
  pub passes-stopped : (task : ℕ) → a.out ≡ None → b ≡ record a { told = pushed a.told (Answer task Stopped) } → Passes stream a b
  unfolding after
  passes-stopped task out e = rw e record { begin = refl; given = refl; clock = refl; root = refl; out = out; writes = writes-of stream a _ (front-pushed a.told _ (Answer task Stopped) refl) (drew-same stream a _ refl refl) }

module _ {A O G : Type 0} (stream : G → Stream) (a b c : World A O G) where
  pub runs-runs : Runs stream a b → Runs stream b c → Runs stream a c
  runs-runs h k = record {
    begin = k.begin ∙ h.begin;
    given = k.given ∙ h.given;
    writes = writes-writes stream a b c h.writes k.writes;
    fixed = k.fixed ∙ h.fixed;
    root = k.root ∙ h.root;
    out = k.out;
  }

  pub runs-passes : Runs stream a b → Passes stream b c → Runs stream a c
  runs-passes h k = record {
    begin = k.begin ∙ h.begin;
    given = k.given ∙ h.given;
    writes = writes-writes stream a b c h.writes k.writes;
    fixed = ap (λ (x : Clock). x.fixed) k.clock ∙ h.fixed;
    root = k.root ∙ h.root;
    out = k.out;
  }

  pub runs-turns : Runs stream a b → Turns b.told c.told → c.out ≡ b.out → c.rng ≡ b.rng → Runs stream a c
  runs-turns h k out rng = record {
    begin = k.begin ∙ h.begin;
    given = k.given ∙ h.given;
    writes = writes-writes stream a b c h.writes (writes-of stream b c (front-quietly b.told c.told k.quiet) (drew-same stream b c rng (quietly-drawn b.told c.told k.quiet)));
    fixed = k.fixed ∙ h.fixed;
    root = k.root ∙ h.root;
    out = out ∙ h.out;
  }

module _ {A O G : Type 0} (stream : G → Stream) (a b : World A O G) (out : a.out ≡ None) where
  -- nothing has happened
  pub runs-same : b ≡ a → Runs stream a b
  runs-same e = rw e record {
    begin = refl;
    given = refl;
    writes = writes-same stream a a refl refl;
    fixed = refl;
    root = refl;
    out = out;
  }

  -- a round was drained
  pub runs-drained : (order : List ℕ) → b ≡ record a { told = b.told; rng = b.rng } → Drains (stream a.rng) (stream b.rng) a.told b.told order → Runs stream a b
  unfolding after
  runs-drained order same d =
      record {
        begin = ap (λ (t : Told). t.begin) d.told ∙ all-begin a.told (map Draw d.orders.draws);
        given = ap (λ (t : Told). t.given) d.told ∙ all-given a.told (map Draw d.orders.draws);
        writes = writes-of stream a b (front-drained (stream a.rng) (stream b.rng) a.told b.told order d) (drew-drained stream a b order d);
        fixed = ap (λ (s : State). s.clock.fixed) d.state;
        root = ap (λ (s : State). s.root) d.state;
        out = ap (λ (w : World A O G). w.out) same ∙ out;
      }

-- what holds in any case
pub on-ok : {A E P : Type 0} (result : Result A E) → P → OnOk result P
on-ok (Ok a) p = p
on-ok (Err e) p = tt

-- a number of a round was visited, or passed over since it doesn't run
module _ (s : State) (order : List ℕ) (i : ℕ) (lt : i < length order) (left : from_running s.running (left_of s.phase) ≡ from_running s.running (drop i order)) where
  here : drop i order ≡ get_or order i 0 ∷ drop (i + 1) order
  here = rw add-one (drop-cons order i 0 lt)

  pub left-visited : (t : State) → has_number (get_or order i 0) s.running ≡ true → t.phase ≡ Visiting (drop 1 (from_running s.running (left_of s.phase))) → (t.phase ≡ Visiting (left_of t.phase)) × (from_running t.running (left_of t.phase) ≡ from_running t.running (drop (i + 1) order))
  left-visited t runs phase =
      let rest : drop 1 (from_running s.running (left_of s.phase)) ≡ drop (i + 1) order = ap (λ (xs : List ℕ). drop 1 xs) left ∙ rw (here, runs) refl in
      let is : t.phase ≡ Visiting (drop (i + 1) order) = phase ∙ ap Visiting rest in
      (rw is refl, rw is refl)

  pub left-passed : has_number (get_or order i 0) s.running ≡ false → from_running s.running (left_of s.phase) ≡ from_running s.running (drop (i + 1) order)
  left-passed idle = left ∙ rw (here, idle) refl

pub ruleset run_laws = (runs-runs, runs-passes, runs-turns, runs-same)

pub ruleset pass_laws = (passes-passes, passes-same, passes-entered, passes-stopped)
