-- A shuffle, draw by draw.
use Rattle.rt_machine.proofs.Prelude.{◌≡◌, ◌<◌, ◌≤◌, ◌+◌, ◌-◌, ◌%◌, ℕ, zero, suc, List, [], ◌∷◌, ◌++◌, refl, sym, ap, ◌∙◌, map, length, arith, append_assoc, length-append, Bool, false, Option, Result, Ok, Err, OnOk, map-append, swap, length-swap, length_permutation, Stream, next_u32, next_u64, fill_bytes, Draw, Round, AlarmList, TreeRecord, Begin, Mark, TaskResult, Rows, Drawn, Filled, shuffled_from, shuffled, State, Phase, Between, Turning, after, is_closing, May, MayRound, MayDraw, RoundNeeds, IsDrawn, shuffled-permutes, round-draws, Told, Journaled, pushed, pushed_all, Gave, Shuffles, Drains, Grouped, Labelled, Seen, Stands, visit_places}
use Rattle.std.proofs.lemmas.List.{append-nil}
use Rattle.rt_base.specs.declared.no_memory.NoMemory.{NoMemory}
use Rattle.rt_model.specs.Draws.{Short, Long}
use Rattle.rt_machine.proofs.Turning.{pushed-append, all-begin}

pub gave-gave : (from mid left : Stream) (xs ys : List Drawn) → Gave from xs mid → Gave mid ys left → Gave from (xs ++ ys) left
gave-gave from mid left [] ys h k = rw h k
gave-gave from mid left (Short number ∷ xs) ys h k = (h.0, gave-gave (next_u32 from).1 mid left xs ys h.1 k)
gave-gave from mid left (Long number ∷ xs) ys h k = (h.0, gave-gave (next_u64 from).1 mid left xs ys h.1 k)
gave-gave from mid left (Filled bytes ∷ xs) ys h k = (h.0, gave-gave (fill_bytes (length bytes) from).1 mid left xs ys h.1 k)

-- a draw more
gave-more : (from mid left : Stream) (xs : List ℕ) (value : ℕ) → Gave from (map Long xs) mid → (value, left) ≡ next_u64 mid → Gave from (map Long (xs ++ value ∷ [])) left
gave-more from mid left xs value h e =
    rw (map-append Long xs (value ∷ []))
    (gave-gave from mid left (map Long xs) (Long value ∷ []) h (sym (ap (λ (p : ℕ × Stream). p.0) e), sym (ap (λ (p : ℕ × Stream). p.1) e)))

-- numbers are shuffled from this place down, where these draws have decided the places above
pub record IsShuffling (from now : Stream) (old new : Journaled) (numbers order : List ℕ) (left : ℕ) : Type 0 where
  pub draws : List ℕ
  pub count : length draws + left ≡ length numbers - 1
  pub gave : Gave from (map Long draws) now
  pub order_is : (more : List ℕ) → shuffled_from left order more ≡ shuffled numbers (draws ++ more)
  pub long : length order ≡ length numbers
  pub told : new.told ≡ pushed_all old.told (map Draw draws)
  pub state : new.told.state ≡ record old.told.state { draws = draws; drawn = old.told.state.drawn ++ map Long draws }
  pub spare : new.spare + length draws ≡ old.spare
  pub lacked : new.lacked ≡ old.lacked

order-more : (left : ℕ) (numbers order draws : List ℕ) (value : ℕ) → 0 < left → ((more : List ℕ) → shuffled_from left order more ≡ shuffled numbers (draws ++ more)) → (more : List ℕ) → shuffled_from (left - 1) (swap order left (value % (left + 1))) more ≡ shuffled numbers ((draws ++ value ∷ []) ++ more)
order-more zero numbers order draws value h is more = absurd (omega arith)
order-more (suc below) numbers order draws value h is more =
    let less : suc below - 1 ≡ below = omega arith in
    let places : suc below + 1 ≡ below + 2 = omega arith in
    rw (less, places, append_assoc draws (value ∷ []) more) (is (value ∷ more))

pub shuffling-begins : (from : Stream) (j : Journaled) (numbers : List ℕ) → j.told.state.draws ≡ [] → IsShuffling from from j j numbers numbers (length numbers - 1)
shuffling-begins from j numbers none = record {
  draws = [];
  count = omega arith;
  gave = refl;
  order_is = λ more. refl;
  long = refl;
  told = refl;
  state = rw (append-nil j.told.state.drawn) (ap (λ draws. record j.told.state { draws = draws }) none);
  spare = omega arith;
  lacked = refl;
}

after-draw : (s : State) (draws : List ℕ) (drawn : List Drawn) (value : ℕ) → s.announced ≡ [] → s.owed ≡ [] → after (record s { draws = draws; drawn = drawn }) (Draw value) ≡ record s { draws = draws ++ value ∷ []; drawn = drawn ++ Long value ∷ [] }
unfolding after
after-draw s draws drawn value unannounced unowed = rw (unannounced, unowed) refl

drawn-more : (drawn : List Drawn) (draws : List ℕ) (value : ℕ) → (drawn ++ map Long draws) ++ Long value ∷ [] ≡ drawn ++ map Long (draws ++ value ∷ [])
drawn-more drawn draws value = rw (map-append Long draws (value ∷ [])) (append_assoc drawn (map Long draws) (Long value ∷ []))

pub shuffling-more : (from now next : Stream) (old mid new : Journaled) (numbers order : List ℕ) (left value : ℕ) → 0 < left → old.told.state.announced ≡ [] → old.told.state.owed ≡ [] → IsShuffling from now old mid numbers order left → (value, next) ≡ next_u64 now → new.told ≡ pushed mid.told (Draw value) → new.spare + 1 ≡ mid.spare → new.lacked ≡ mid.lacked → IsShuffling from next old new numbers (swap order left (value % (left + 1))) (left - 1)
shuffling-more from now next old mid new numbers order left value lt unannounced unowed i gives told spare lacked =
    record {
      draws = i.draws ++ value ∷ [];
      count = omega (arith, i.count, length-append i.draws (value ∷ []));
      gave = gave-more from now next i.draws value i.gave gives;
      order_is = order-more left numbers order i.draws value lt i.order_is;
      long = length-swap order left (value % (left + 1)) ∙ i.long;
      told =
          told
          ∙ ap (λ t. pushed t (Draw value)) i.told
          ∙ pushed-append old.told (map Draw i.draws) (Draw value ∷ [])
          ∙ ap (λ es. pushed_all old.told es) (sym (map-append Draw i.draws (value ∷ [])));
      state =
          ap (λ (t : Told). t.state) told
          ∙ ap (λ (s : State). after s (Draw value)) i.state
          ∙ after-draw old.told.state i.draws (old.told.state.drawn ++ map Long i.draws) value unannounced unowed
          ∙ ap (λ drawn. record old.told.state { draws = i.draws ++ value ∷ []; drawn = drawn }) (drawn-more old.told.state.drawn i.draws value);
      spare = omega (arith, i.spare, spare, length-append i.draws (value ∷ []));
      lacked = lacked ∙ i.lacked;
    }

-- no place but the first is left
pub shuffling-ends : (from now : Stream) (old new : Journaled) (numbers order : List ℕ) (left : ℕ) → left ≤ 0 → IsShuffling from now old new numbers order left → Shuffles from now old new numbers order
shuffling-ends from now old new numbers order (suc below) h i = absurd (omega arith)
shuffling-ends from now old new numbers order zero h i = record {
  orders = record { draws = i.draws; count = omega (arith, i.count); gave = i.gave; is = i.order_is [] ∙ ap (λ draws. shuffled numbers draws) (append-nil i.draws) };
  told = i.told;
  state = i.state;
  spare = i.spare;
  lacked = i.lacked;
}

-- a draw may come wherever one did
pub round-drawn : (p : Phase) (s : State) (draws : List ℕ) (drawn : List Drawn) → MayRound p s → MayRound p (record s { draws = draws; drawn = drawn })
round-drawn Between s draws drawn m = m
round-drawn Turning s draws drawn m = m
round-drawn _ s draws drawn m = m

pub shuffling-may : (from now : Stream) (old new : Journaled) (numbers order : List ℕ) (left : ℕ) → MayRound old.told.state.phase old.told.state → IsShuffling from now old new numbers order left → (value : ℕ) → MayDraw new.told.state.phase new.told.state value
shuffling-may from now old new numbers order left may i value = rw i.state (round-draws old.told.state.phase _ value (round-drawn old.told.state.phase old.told.state i.draws _ may))

-- while a place is left a draw is wanted
round-wants : (p : Phase) (s : State) (draws : List ℕ) → length draws + 1 < length s.ready → RoundNeeds p s draws
round-wants Between s draws h = h
round-wants Turning s draws h = h
round-wants _ s draws h = tt

pub shuffling-wants : (from now : Stream) (old new : Journaled) (numbers order : List ℕ) (left value : ℕ) → 0 < left → old.told.state.ready ≡ numbers → IsShuffling from now old new numbers order left → IsDrawn new.told.state (Draw value)
shuffling-wants from now old new numbers order left value lt ready i = rw i.state (round-wants old.told.state.phase _ i.draws (rw ready (omega (arith, i.count, lt))))

pub ruleset shuffle_laws = (shuffling-begins, shuffling-more, shuffling-ends, shuffling-may, shuffling-wants)

pub length-shuffled : (xs draws : List ℕ) → length (shuffled xs draws) ≡ length xs
length-shuffled xs draws = length_permutation xs (shuffled xs draws) (shuffled-permutes xs draws)

-- numbers that were shuffled are pushed as the order of a round
module _ (from left : Stream) (j mid end : Journaled) (order : List ℕ) (same : mid.told ≡ j.told) (sh : Shuffles from left mid end j.told.state.ready order) where
  shuffled_state : end.told.state ≡ record j.told.state { draws = sh.orders.draws; drawn = j.told.state.drawn ++ map Long sh.orders.draws }
  shuffled_state = sh.state ∙ ap (λ (t : Told). record t.state { draws = sh.orders.draws; drawn = t.state.drawn ++ map Long sh.orders.draws }) same

  pub shuffled-may : (kept : List ℕ) → kept ≡ order → j.told.state.owed ≡ [] → MayRound j.told.state.phase j.told.state → May end.told.state (Round kept)
  shuffled-may kept e unowed may =
      rw (shuffled_state, e, sh.orders.is)
      (unowed, (round-drawn j.told.state.phase j.told.state sh.orders.draws _ may, shuffled-permutes j.told.state.ready sh.orders.draws))

  pub shuffled-drains : (new : Journaled) (kept : List ℕ) → kept ≡ order → new.told ≡ pushed end.told (Round kept) → Drains from left j.told new.told order
  shuffled-drains new kept e is =
      let told : new.told ≡ pushed end.told (Round order) = is ∙ ap (λ xs. pushed end.told (Round xs)) e in
      record {
        orders = sh.orders;
        told = told ∙ ap (λ t. pushed t (Round order)) (sh.told ∙ ap (λ t. pushed_all t (map Draw sh.orders.draws)) same);
        state = ap (λ (t : Told). t.state) told ∙ ap (λ (s : State). after s (Round order)) shuffled_state;
      }

-- a round without draws
pub plain-drains : (stream : Stream) (old new : Seen) (order : List ℕ) (result : Result (Unit {0}) NoMemory) → old.told.state.draws ≡ [] → order ≡ old.told.state.ready → length order < 2 → OnOk result (new ≡ record { told = pushed old.told (Round order); lacked = old.lacked }) → OnOk result (Drains stream stream old.told new.told order)
plain-drains stream old new order (Err error) none ready one h = tt
plain-drains stream old new order (Ok done) none ready one h =
    let told : new.told ≡ pushed old.told (Round order) = ap (λ (s : Seen). s.told) h in
    record {
      orders = record { draws = []; count = omega (arith, ap length ready); gave = refl; is = ready };
      told = told;
      state = ap (λ (t : Told). t.state) told ∙ ap (λ draws. after (record old.told.state { draws = draws }) (Round order)) none
          ∙ ap (λ drawn. after (record old.told.state { draws = []; drawn = drawn }) (Round order)) (sym (append-nil old.told.state.drawn));
    }

round-open : (p : Phase) (s : State) → MayRound p s → (is_closing p ≡ false) × (visit_places p ≡ 0)
round-open Between s m = (refl, refl)
round-open Turning s m = (refl, refl)
round-open _ s m = absurd m

-- a machine whose ready list was drained
module _ (from left : Stream) (j new : Journaled) (order : List ℕ) (d : Drains from left j.told new.told order) (may : MayRound j.told.state.phase j.told.state) where
  drained_begin : new.told.begin ≡ j.told.begin
  drained_begin = ap (λ (t : Told). t.begin) d.told ∙ all-begin j.told (map Draw d.orders.draws)

  pub stands-drained : (time next : ℕ) (root : Option ℕ) (root_left panicked closing : Bool) (tree : TreeRecord) (labels : Labelled) (ready : List ℕ) (ready_spare seats : ℕ) (alarms : AlarmList) (marks : Rows Mark) (results slots : Rows TaskResult) (senders : Rows (Unit {0})) (groups : Grouped) (promised : ℕ) → Stands j time next root root_left panicked closing tree labels ready ready_spare alarms marks results slots senders groups promised → promised + 4 ≤ new.spare → promised ≤ seats → Stands new time next root root_left panicked closing tree labels [] seats alarms marks results slots senders groups promised
  unfolding after
  stands-drained time next root root_left panicked closing tree labels ready ready_spare seats alarms marks results slots senders groups promised h room fits =
      let e = d.state in
      let going = round-open j.told.state.phase j.told.state may in
      let stands_open : closing ≡ false = h.closing_is ∙ going.0 in
      record {
        clock_is = ap (λ (s : State). s.clock) e ∙ h.clock_is ∙ ap (λ begin. record { time = time; fixed = begin }) (sym drained_begin);
        numbers_are = ap (λ (s : State). s.numbers) e ∙ h.numbers_are ∙ ap (λ (b : Begin). record { first = b.first; next = next }) (sym drained_begin);
        root_is = ap (λ (s : State). s.root) e ∙ h.root_is;
        left_is = ap (λ (s : State). s.root_left) e ∙ h.left_is;
        panicked_is = ap (λ (s : State). s.panicked) e ∙ h.panicked_is;
        nodes_are = ap (λ (s : State). s.stood.nodes) e ∙ h.nodes_are;
        labels_are = ap (λ (s : State). s.labels) e ∙ h.labels_are;
        closing_is = stands_open ∙ sym (ap (λ (s : State). is_closing s.phase) e);
        ready_is = ap (λ (s : State). s.ready) e;
        alarms_are = ap (λ (s : State). s.stood.alarms) e ∙ h.alarms_are;
        marks_are = ap (λ (s : State). s.marks) e ∙ h.marks_are;
        results_are = ap (λ (s : State). s.stood.results) e ∙ h.results_are;
        slots_are = ap (λ (s : State). s.stood.slots) e ∙ h.slots_are;
        signals_are = ap (λ (s : State). s.stood.signals) e ∙ h.signals_are;
        stop_is = ap (λ (s : State). s.stood.stop) e ∙ h.stop_is;
        nobody_met = h.nobody_met;
        none_announced = ap (λ (s : State). s.announced) e;
        none_drawn = ap (λ (s : State). s.draws) e;
        none_owed = ap (λ (s : State). s.owed) e;
        all_ended = λ closed. absurd (cc);
        label_next = h.label_next;
        mark_next = h.mark_next;
        result_next = h.result_next;
        sender_next = h.sender_next;
        promised_is = rw e (omega (arith, h.promised_is, going.1));
        room = rw e (omega (arith, room));
        ready_room = fits;
        fit = rw e h.fit;
        within = rw drained_begin h.within;
      }
