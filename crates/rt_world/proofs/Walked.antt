-- Steps are walked call by call, and poller by poller.
use Rattle.rt_world.proofs.Prelude.{◌≡◌, ◌⊎◌, inl, inr, ℕ, Bool, List, [], ◌∷◌, ◌++◌, refl, sym, ap, ◌∙◌, Option, Some, None, Result, Ok, Err, true, false, append_assoc, arith, is_some, OnOk, OnErr, IfOk, IfErr, append-nil, Error, OutOf, OutOfMemory, Execution, Child, AbortTask, Wake, Join, Slots, Slot, SlotPoll, CallReply, Done, NodeAt, SlotAt, Pending, Ready, Refused, AlarmList, Phase, Making, Polling, Ending, Closing, Stood, Turn, ends_next, CallsAt, MayCall, alarm_of, IsAnswerOf, Ask, Heard, Plainly, Sleeping, Spawning, Plain, Handed, Held, Change, counted, Asks, IsOwn, FreesOne, call_of, heard_of, moved, has_place, find, heard_result, polled, Step, Last, Does, Spends, Counts, Gives, Walks, Fronts, Lacks, Stops, Breaks, then, followed_by, stood_before, IsSpending, walks-then, fronts-then, stops-then, stops-first, frees-counted, frees-append, frees-moved, frees-spent, turn_in, marked, sleep_reply, slept_number, Stream, World, Stays, Grows, Kept, Made, IsUnreceived, IsUnsent, SpentBy, Joined, Received, Lasts, Broke, EndsWith, Turned, Walked, Polled, answered_by, Rooted, root_by, Goes, Called, tells, wake_told, sleep_told, slot_told, child_told, spawn_told, join_told, MaySpend, Closes, Counted, Leads}
use Rattle.rt_model.specs.declared.answer.Answer.{Answer}
use Rattle.rt_model.specs.declared.answer.Answer.TheVariants.{NoMemory}
use Rattle.rt_world.proofs.Drawn.{drew-same, drew-drew}
use Rattle.rt_world.proofs.Lasting.{lasts-of, grows-of, stays-of, drawn-of}
use Rattle.rt_world.specs.Calls.{IsRefused, lacking, spawned_reply}
use Rattle.rt_world.specs.declared.spawning.Spawned.{Spawned}
use Rattle.rt_world.specs.Walked.{Spent}

stood-more : (ts us : List Turn) (n0 n1 n2 : Stood) → stood_before us n2 ≡ n1 → stood_before ts n1 ≡ n0 → stood_before (ts ++ us) n2 ≡ n0
stood-more [] us n0 n1 n2 h k = h ∙ k
stood-more (t ∷ ts) us n0 n1 n2 h k = k

-- what stood before two lists of turns
stood-both : (ts us : List Turn) (stood : Stood) → stood_before (ts ++ us) stood ≡ stood_before ts (stood_before us stood)
stood-both [] us stood = refl
stood-both (t ∷ ts) us stood = refl

-- a refusal is the error that was sent, if one was
fits-refused : {A O G : Type 0} (w : World A O G) (slot : ℕ) (error : Error) → IsUnsent w slot ⊎ (find slot w.held.sent ≡ Some (Err error)) → IsAnswerOf (find slot w.held.sent) (Refused error)
fits-refused w slot error (inl none) = rw none.held tt
fits-refused w slot error (inr found) = rw found refl

-- a mark that isn't there now wasn't there before
unmarked : (old new : Option (List Turn)) → ((made : List Turn) → old ≡ Some made → new ≡ Some made) → new ≡ None → old ≡ None
unmarked None new stays n = refl
unmarked (Some made) new stays n = let e = stays made refl in absurd (cc)

module _ {A L O R M Q G : Type 0} (old mid new : World A O G) (first : Step A L O R) (more : R → L → Step A M O Q) (r : R) (a : L) (given : Option (Q × M)) (one : Turned first old mid (Some (r, a))) (two : Turned (more r a) mid new given) where
  turned-ends : (Walks first old.held one.more mid.told.state.stood r a mid.held) → (given : Option (Q × M)) → EndsWith (more r a) mid.held two.more new.told.state.stood given new.held → EndsWith (then first more) old.held (one.more ++ two.more) new.told.state.stood given new.held
  turned-ends w None e = fronts-then more mid.told.state.stood r a mid.held new.told.state.stood new.held one.more two.more old.held first two.stood w e
  turned-ends w (Some g) e = walks-then more mid.told.state.stood r a mid.held new.told.state.stood g.0 g.1 new.held one.more two.more old.held first two.stood w e

  turned-broke : (made : List Turn) → old.lacked ≡ None → new.lacked ≡ Some made → (there : Option (List Turn)) → mid.lacked ≡ there → Broke (then first more) old.held old.told.state.turns made (one.more ++ two.more) new.told.state.stood new.held
  turned-broke made o n None m =
      let k = two.broke made m n in
      record {
        front = one.more ++ k.front;
        rest = k.rest;
        mid = k.mid;
        are = rw (k.are, append_assoc one.more k.front k.rest) refl;
        before = k.before ∙ ap (λ xs. xs ++ k.front) one.turns ∙ append_assoc old.told.state.turns one.more k.front;
        walks = stops-then more mid.told.state.stood r a mid.held (stood_before k.rest new.told.state.stood) k.mid one.more k.front old.held first (sym (stood-both k.front k.rest new.told.state.stood) ∙ sym (ap (λ us. stood_before us new.told.state.stood) k.are) ∙ two.stood) (one.ends m) k.walks;
        frees = k.frees;
      }
  turned-broke made o n (Some before) m =
      let k = one.broke before o m in
      let same : made ≡ before = let e = two.marked before m in cc in
      record {
        front = k.front;
        rest = k.rest ++ two.more;
        mid = k.mid;
        are = rw (k.are) (append_assoc k.front k.rest two.more);
        before = same ∙ k.before;
        walks = stops-first more (stood_before (k.rest ++ two.more) new.told.state.stood) k.mid k.front old.held first (rw (stood-both k.rest two.more new.told.state.stood, two.stood) k.walks);
        frees = frees-append k.rest two.more k.mid mid.held new.held k.frees two.frees;
      }

  turned-then : Turned (then first more) old new given
  turned-then = record {
    more = one.more ++ two.more;
    turns = two.turns ∙ ap (λ xs. xs ++ two.more) one.turns ∙ append_assoc old.told.state.turns one.more two.more;
    stood = stood-more one.more two.more _ _ _ two.stood one.stood;
    frees = frees-append one.more two.more old.held mid.held new.held one.frees two.frees;
    marked = λ made o. two.marked made (one.marked made o);
    ends = λ n. turned-ends (one.ends (unmarked mid.lacked new.lacked two.marked n)) given (two.ends n);
    broke = λ made o n. turned-broke made o n mid.lacked refl;
  }

some-own : (time : ℕ) (alarms : AlarmList) (due : ℕ) (alarm : Option ℕ) (n : ℕ) → Some n ≡ slept_number time alarms due alarm → n ≡ alarm_of alarms due alarm
some-own time alarms due alarm n h = grind arith

own-alarm : (time : ℕ) (alarms : AlarmList) (due : ℕ) (alarm told : Option ℕ) → told ≡ slept_number time alarms due alarm → IsOwn alarms due alarm (sleep_reply told)
own-alarm time alarms due alarm None h = tt
own-alarm time alarms due alarm (Some n) h = some-own time alarms due alarm n h

has-none : (b : Bool) → b ≡ true → b ≡ false → ⊥
has-none true h k = cc
has-none false h k = cc

module _ {A L O R G : Type 0} (old mid new : World A O G) (given : Option (R × L)) where
  -- a turn more in front
  turned-before : (t : Turn) (step next : Step A L O R) → mid.told.state.turns ≡ old.told.state.turns ++ t ∷ [] → FreesOne t.stood old.held t.call t.reply mid.held → mid.lacked ≡ old.lacked → t.stood ≡ old.told.state.stood → ((us : List Turn) (stood : Stood) (end : Held A O) (given : Option (R × L)) → EndsWith next mid.held us stood given end → EndsWith step old.held (t ∷ us) stood given end) → ((front : List Turn) (stood : Stood) (end : Held A O) → Stops next mid.held front stood end → Stops step old.held (t ∷ front) stood end) → Turned next mid new given → Turned step old new given
  turned-before t step next is frees lacked stood walk front two = record {
    more = t ∷ two.more;
    turns = two.turns ∙ ap (λ ts. ts ++ two.more) is ∙ append_assoc old.told.state.turns (t ∷ []) two.more;
    stood = stood;
    frees = (old.held.counts, mid.held, frees, two.frees);
    marked = λ made o. two.marked made (lacked ∙ o);
    ends = λ n. walk two.more new.told.state.stood new.held given (two.ends n);
    broke = λ made o n.
        let k = two.broke made (lacked ∙ o) n in
        record {
          front = t ∷ k.front;
          rest = k.rest;
          mid = k.mid;
          are = ap (λ xs. t ∷ xs) k.are;
          before = k.before ∙ ap (λ ts. ts ++ k.front) is ∙ append_assoc old.told.state.turns (t ∷ []) k.front;
          walks = front k.front (stood_before k.rest new.told.state.stood) k.mid k.walks;
          frees = k.frees;
        };
  }

  module _ (t : Turn) (ask : Ask A O) (asks : Asks old.held ask t) (is : mid.held ≡ moved old.held ask t) where
    does-ends : (on : Heard O → Step A L O R) (us : List Turn) (stood : Stood) (end : Held A O) (given : Option (R × L)) → EndsWith (on (heard_of old.held t)) mid.held us stood given end → EndsWith (Does ask on) old.held (t ∷ us) stood given end
    does-ends on us stood end None w = (asks, rw (← is) w)
    does-ends on us stood end (Some g) w = (asks, rw (← is) w)

    does-stops : (on : Heard O → Step A L O R) (front : List Turn) (stood : Stood) (end : Held A O) → Stops (on (heard_of old.held t)) mid.held front stood end → Stops (Does ask on) old.held (t ∷ front) stood end
    does-stops on front stood end w = (asks, rw (← is) w)

  -- a call, and then what follows from what was heard of it
  turned-made : (ask : Ask A O) (reply : CallReply) (heard : Heard O) (on : Heard O → Step A L O R) → Made old mid ask reply → Asks old.held ask (turn_in old.told.state old.out (call_of ask) reply) → heard ≡ heard_of old.held (turn_in old.told.state old.out (call_of ask) reply) → Turned (on heard) mid new given → Turned (Does ask on) old new given
  turned-made ask reply heard on made asks is two =
      let t = turn_in old.told.state old.out (call_of ask) reply in
      turned-before t (Does ask on) (on heard) made.turns (rw made.held (frees-moved old.held ask t asks)) made.lacked refl
      (λ us stood end given w. does-ends t ask asks made.held on us stood end given (rw (← is) w))
      (λ front stood end w. does-stops t ask asks made.held on front stood end (rw (← is) w))
      two

  turned-sleep : (due : ℕ) (alarm told : Option ℕ) (on : Heard O → Step A L O R) → told ≡ slept_number old.told.state.clock.time old.told.state.stood.alarms due alarm → Made old mid (Sleeping due alarm) (sleep_reply told) → Turned (on (Plain (sleep_reply told))) mid new given → Turned (Does (Sleeping due alarm) on) old new given
  turned-sleep due alarm told on is made two =
      turned-made (Sleeping due alarm) (sleep_reply told) (Plain (sleep_reply told)) on made (refl, own-alarm old.told.state.clock.time old.told.state.stood.alarms due alarm told is) refl two

  -- a call that spends a token
  module _ (ask : Ask A O) (spends : IsSpending ask) (made : Made old mid ask Done) (there : has_place old.told.state.stood (call_of ask) ≡ true) where
    spent-ends : (next : Step A L O R) (us : List Turn) (stood : Stood) (end : Held A O) (given : Option (R × L)) → EndsWith next mid.held us stood given end → EndsWith (Spends ask next) old.held (turn_in old.told.state old.out (call_of ask) Done ∷ us) stood given end
    spent-ends next us stood end None w = (λ place. (refl, refl, rw (← made.held) w), λ none. absurd (has-none (has_place old.told.state.stood (call_of ask)) there none))
    spent-ends next us stood end (Some g) w = (λ place. (refl, refl, rw (← made.held) w), λ none. absurd (has-none (has_place old.told.state.stood (call_of ask)) there none))

    turned-spent : (next : Step A L O R) → Turned next mid new given → Turned (Spends ask next) old new given
    turned-spent next two =
        let t = turn_in old.told.state old.out (call_of ask) Done in
        turned-before t (Spends ask next) next made.turns (rw made.held (frees-spent old.told.state.stood old.held ask spends)) made.lacked refl
        (λ us stood end given w. spent-ends next us stood end given w)
        (λ front stood end w. (λ place. (refl, refl, rw (← made.held) w), λ none. absurd (has-none (has_place old.told.state.stood (call_of ask)) there none)))
        two

-- a token that has no place is spent by no call
walks-gone : {A L O R : Type 0} (ts : List Turn) (stood before : Stood) (q : R) (b : L) (held end : Held A O) (ask : Ask A O) (next : Step A L O R) → stood_before ts stood ≡ before → has_place before (call_of ask) ≡ false → Walks next held ts stood q b end → Walks (Spends ask next) held ts stood q b end
walks-gone [] stood before q b held end ask next stands gone w = (rw stands gone, w)
walks-gone (t ∷ ts) stood before q b held end ask next stands gone w = (λ there. absurd (has-none (has_place t.stood (call_of ask)) there (rw stands gone)), λ none. w)

fronts-gone : {A L O R : Type 0} (ts : List Turn) (stood before : Stood) (held end : Held A O) (ask : Ask A O) (next : Step A L O R) → stood_before ts stood ≡ before → has_place before (call_of ask) ≡ false → Fronts next held ts end → Fronts (Spends ask next) held ts end
fronts-gone [] stood before held end ask next stands gone w = w
fronts-gone (t ∷ ts) stood before held end ask next stands gone w = (λ there. absurd (has-none (has_place t.stood (call_of ask)) there (rw stands gone)), λ none. w)

stops-gone : {A L O R : Type 0} (ts : List Turn) (stood before : Stood) (held end : Held A O) (ask : Ask A O) (next : Step A L O R) → stood_before ts stood ≡ before → has_place before (call_of ask) ≡ false → Stops next held ts stood end → Stops (Spends ask next) held ts stood end
stops-gone [] stood before held end ask next stands gone w = ((rw stands gone, w.0), w.1)
stops-gone (t ∷ ts) stood before held end ask next stands gone w = (λ there. absurd (has-none (has_place t.stood (call_of ask)) there (rw stands gone)), λ none. w)

module _ {A L O R G : Type 0} (old new : World A O G) (given : Option (R × L)) where
  gone-ends : (us : List Turn) (ask : Ask A O) (next : Step A L O R) → has_place old.told.state.stood (call_of ask) ≡ false → stood_before us new.told.state.stood ≡ old.told.state.stood → (given : Option (R × L)) → EndsWith next old.held us new.told.state.stood given new.held → EndsWith (Spends ask next) old.held us new.told.state.stood given new.held
  gone-ends us ask next gone stood None w = fronts-gone us new.told.state.stood old.told.state.stood old.held new.held ask next stood gone w
  gone-ends us ask next gone stood (Some g) w = walks-gone us new.told.state.stood old.told.state.stood g.0 g.1 old.held new.held ask next stood gone w

  turned-gone : (ask : Ask A O) (next : Step A L O R) → has_place old.told.state.stood (call_of ask) ≡ false → Turned next old new given → Turned (Spends ask next) old new given
  turned-gone ask next gone two = record {
    more = two.more;
    turns = two.turns;
    stood = two.stood;
    frees = two.frees;
    marked = two.marked;
    ends = λ n. gone-ends two.more ask next gone two.stood given (two.ends n);
    broke = λ made o n.
        let k = two.broke made o n in
        record {
          front = k.front;
          rest = k.rest;
          mid = k.mid;
          are = k.are;
          before = k.before;
          frees = k.frees;
          walks = stops-gone k.front (stood_before k.rest new.told.state.stood) old.told.state.stood old.held k.mid ask next (sym (stood-both k.front k.rest new.told.state.stood) ∙ sym (ap (λ us. stood_before us new.told.state.stood) k.are) ∙ two.stood) gone k.walks;
        };
  }

-- a metric that is changed, and then what comes next
walks-counts : {A L O R : Type 0} (ts : List Turn) (stood : Stood) (q : R) (b : L) (held end : Held A O) (change : Change) (next : Step A L O R) → Walks next (counted change held) ts stood q b end → Walks (Counts change next) held ts stood q b end
walks-counts [] stood q b held end change next w = w
walks-counts (t ∷ ts) stood q b held end change next w = w

fronts-counts : {A L O R : Type 0} (ts : List Turn) (held end : Held A O) (change : Change) (next : Step A L O R) → Fronts next (counted change held) ts end → Fronts (Counts change next) held ts end
fronts-counts [] held end change next w = (w.0, w.1)
fronts-counts (t ∷ ts) held end change next w = w

stops-counts : {A L O R : Type 0} (ts : List Turn) (stood : Stood) (held end : Held A O) (change : Change) (next : Step A L O R) → Stops next (counted change held) ts stood end → Stops (Counts change next) held ts stood end
stops-counts [] stood held end change next w = (w.0, (w.1.0, w.1.1))
stops-counts (t ∷ ts) stood held end change next w = w

module _ {A L O R G : Type 0} (old new : World A O G) (change : Change) (next : Step A L O R) where
  counts-ends : (us : List Turn) (stood : Stood) (given : Option (R × L)) → EndsWith next (counted change old.held) us stood given new.held → EndsWith (Counts change next) old.held us stood given new.held
  counts-ends us stood None w = fronts-counts us old.held new.held change next w
  counts-ends us stood (Some g) w = walks-counts us stood g.0 g.1 old.held new.held change next w

  turned-counts : (given : Option (R × L)) → Turned next (record old { held = counted change old.held }) new given → Turned (Counts change next) old new given
  turned-counts given two = record {
    more = two.more;
    turns = two.turns;
    stood = two.stood;
    frees = frees-counted two.more old.held new.held (counted change old.held).counts two.frees;
    marked = two.marked;
    ends = λ n. counts-ends two.more new.told.state.stood given (two.ends n);
    broke = λ made o n.
        let k = two.broke made o n in
        record {
          front = k.front;
          rest = k.rest;
          mid = k.mid;
          are = k.are;
          before = k.before;
          frees = k.frees;
          walks = stops-counts k.front (stood_before k.rest new.told.state.stood) old.held k.mid change next k.walks;
        };
  }

-- no turn was made
turned-none : {A L O R G : Type 0} (w : World A O G) (given : Option (R × L)) (step : Step A L O R) → EndsWith step w.held [] w.told.state.stood given w.held → Turned step w w given
turned-none w given step ends = record {
  more = [];
  turns = sym (append-nil w.told.state.turns);
  stood = refl;
  frees = (w.held.counts, refl);
  marked = λ made o. o;
  ends = λ n. ends;
  broke = λ made o n. cc;
}

-- the first call that lacked memory
turned-lacking : {A L O R G : Type 0} (w : World A O G) (given : Option (R × L)) (step : Step A L O R) → Lacks w.told.state.stood step → Turned step w (lacking w) given
turned-lacking w given step lacks = by w.lacked refl
  where
    by : (there : Option (List Turn)) → w.lacked ≡ there → Turned step w (lacking w) given
    by None e = record {
      more = [];
      turns = sym (append-nil w.told.state.turns);
      stood = refl;
      frees = (w.held.counts, refl);
      marked = λ made o. cc;
      ends = λ n. let m = rw e at n in absurd (cc);
      broke = λ made o n. record {
        front = [];
        rest = [];
        mid = w.held;
        are = refl;
        before = let m = rw e at n in let s : made ≡ w.told.state.turns = cc in s ∙ sym (append-nil w.told.state.turns);
        walks = (lacks, (w.held.counts, refl));
        frees = (w.held.counts, refl);
      };
    }
    by (Some made) e = record {
      more = [];
      turns = sym (append-nil w.told.state.turns);
      stood = refl;
      frees = (w.held.counts, refl);
      marked = λ before o. rw e (rw e at o);
      ends = λ n. let m = rw e at n in absurd (cc);
      broke = λ made o n. absurd (cc);
    }

-- behind a call that lacked memory all is free
turned-behind : {A L M O R Q G : Type 0} (old mid new : World A O G) (given : Option (R × L)) (later : Option (Q × M)) (step : Step A L O R) (next : Step A M O Q) → mid ≡ lacking old → Lacks old.told.state.stood step → Turned next mid new later → Turned step old new given
turned-behind {A = A} {L = L} {O = O} {R = R} {G = G} old mid new given later step next is lacks two = by old.lacked refl
  where
    by : (there : Option (List Turn)) → old.lacked ≡ there → Turned step old new given
    by None e =
        let m : mid.lacked ≡ Some old.told.state.turns = rw (is, e) refl in
        let told : mid.told ≡ old.told = ap (λ (w : World A O G). w.told) is in
        let held : mid.held ≡ old.held = ap (λ (w : World A O G). w.held) is in
        let after : new.lacked ≡ Some old.told.state.turns = two.marked old.told.state.turns m in
        record {
          more = two.more;
          turns = rw (← told) two.turns;
          stood = rw (← told) two.stood;
          frees = rw (← held) two.frees;
          marked = λ made o. absurd (cc);
          ends = λ n. absurd (cc);
          broke = λ made o n. record {
            front = [];
            rest = two.more;
            mid = old.held;
            are = refl;
            before = let s : made ≡ old.told.state.turns = cc in s ∙ sym (append-nil old.told.state.turns);
            walks = (rw (two.stood, told) lacks, (old.held.counts, refl));
            frees = rw (← held) two.frees;
          };
        }
    by (Some before) e =
        let m : mid.lacked ≡ Some before = rw (is, e) refl in
        let told : mid.told ≡ old.told = ap (λ (w : World A O G). w.told) is in
        let held : mid.held ≡ old.held = ap (λ (w : World A O G). w.held) is in
        let after : new.lacked ≡ Some before = two.marked before m in
        record {
          more = two.more;
          turns = rw (← told) two.turns;
          stood = rw (← told) two.stood;
          frees = rw (← held) two.frees;
          marked = λ made o. let s : before ≡ made = cc in rw (← s) after;
          ends = λ n. absurd (cc);
          broke = λ made o n. absurd (cc);
        }

-- a token that is spent, and then what comes next
turned-token : {A L O R G : Type 0} (old mid new : World A O G) (given : Option (R × L)) (ask : Ask A O) (next : Step A L O R) → IsSpending ask → SpentBy old mid ask → Turned next mid new given → (place : Bool) → has_place old.told.state.stood (call_of ask) ≡ place → Turned (Spends ask next) old new given
turned-token old mid new given ask next plain spent two true e = turned-spent old mid new given ask plain (spent.there e) e next two
turned-token old mid new given ask next plain spent two false e = let same = spent.gone e in turned-gone old new given ask next e (rw same at two)

-- pollers
module _ {A L O R M Q G : Type 0} (old mid new : World A O G) (first : Step A L O R) (more : R → L → Step A M O Q) (r : R) (a : L) (q : Q) (b : M) where
  -- a poller, and then what follows from its answer
  pub walked-then : Walked first old mid r a → Walked (more r a) mid new q b → Walked (then first more) old new q b
  unfolding Walked
  walked-then one two = (turned-then old mid new first more r a (Some (q, b)) one two)

module _ {A O M Q G : Type 0} (old mid new : World A O G) (first : Last A O) (next : Step A M O Q) (q : Q) (b : M) where
  -- a poller that is given up, and then what comes next
  pub walked-followed : Spent first old mid → Walked next mid new q b → Walked (followed_by first next) old new q b
  unfolding followed_by Spent Walked
  walked-followed one two = walked-then old mid new first (λ answer left. next) tt tt q b one two

module _ {A L O R G : Type 0} (old mid new : World A O G) (q : R) (b : L) where
  -- a call, and then what follows from its reply
  pub walked-wake : (task : ℕ) (reply : CallReply) (on : Heard O → Step A L O R) → Made old mid (Plainly (Wake task)) reply → Walked (on (Plain reply)) mid new q b → Walked (Does (Plainly (Wake task)) on) old new q b
  unfolding Walked
  walked-wake task reply on made two = (turned-made old mid new (Some (q, b)) (Plainly (Wake task)) reply (Plain reply) on made (refl, tt) refl two)

  -- any call
  pub walked-made : (ask : Ask A O) (reply : CallReply) (heard : Heard O) (on : Heard O → Step A L O R) → Made old mid ask reply → Asks old.held ask (turn_in old.told.state old.out (call_of ask) reply) → heard ≡ heard_of old.held (turn_in old.told.state old.out (call_of ask) reply) → Walked (on heard) mid new q b → Walked (Does ask on) old new q b
  unfolding Walked
  walked-made ask reply heard on made asks is two = turned-made old mid new (Some (q, b)) ask reply heard on made asks is two

  -- a result that is polled
  pub walked-join : (task : ℕ) (reply : CallReply) (heard : Heard O) (on : Heard O → Step A L O R) → Made old mid (Plainly (Join task)) reply → heard ≡ heard_of old.held (turn_in old.told.state old.out (Join task) reply) → Walked (on heard) mid new q b → Walked (Does (Plainly (Join task)) on) old new q b
  unfolding Walked
  walked-join task reply heard on made is two = (turned-made old mid new (Some (q, b)) (Plainly (Join task)) reply heard on made (refl, tt) is two)

  -- what comes by a slot, polled
  pub walked-receive : (slot : ℕ) (reply : CallReply) (heard : Heard O) (on : Heard O → Step A L O R) → Made old mid (Plainly (Slots (SlotPoll slot))) reply → IsAnswerOf (find slot old.held.sent) reply → heard ≡ heard_of old.held (turn_in old.told.state old.out (Slots (SlotPoll slot)) reply) → Walked (on heard) mid new q b → Walked (Does (Plainly (Slots (SlotPoll slot))) on) old new q b
  unfolding Walked
  walked-receive slot reply heard on made fits is two = (turned-made old mid new (Some (q, b)) (Plainly (Slots (SlotPoll slot))) reply heard on made (refl, fits) is two)

  -- a sleep that is polled
  pub walked-sleep : (due : ℕ) (alarm told : Option ℕ) (on : Heard O → Step A L O R) → told ≡ slept_number old.told.state.clock.time old.told.state.stood.alarms due alarm → Made old mid (Sleeping due alarm) (sleep_reply told) → Walked (on (Plain (sleep_reply told))) mid new q b → Walked (Does (Sleeping due alarm) on) old new q b
  unfolding Walked
  walked-sleep due alarm told on is made two = (turned-sleep old mid new (Some (q, b)) due alarm told on is made two)

  -- a token that is spent
  pub walked-spend : (ask : Ask A O) (next : Step A L O R) → IsSpending ask → SpentBy old mid ask → Walked next mid new q b → Walked (Spends ask next) old new q b
  unfolding Walked
  walked-spend ask next plain spent two =
      (turned-token old mid new (Some (q, b)) ask next plain spent two (has_place old.told.state.stood (call_of ask)) refl)

module _ {A L O R G : Type 0} (w : World A O G) (q : R) (b : L) where
  -- an answer
  pub walked-gives : Walked (Gives q b) w w q b
  unfolding Walked
  walked-gives = (turned-none w (Some (q, b)) (Gives q b) (refl, refl, refl))

-- a call that lacked memory
pub walked-lacking : {A L O R G : Type 0} (old new : World A O G) (step : Step A L O R) (q : R) (b : L) → new ≡ lacking old → Lacks old.told.state.stood step → Walked step old new q b
unfolding Walked
walked-lacking old new step q b e l = rw e ((turned-lacking old (Some (q, b)) step l))

-- a poll of a slot, whatever came by it
pub walked-received : {A L O G : Type 0} (old new : World A O G) (state : L) (slot : ℕ) (result : Result (Option O) Error) → IfOk result (λ value. Received old new slot value) → IfErr result (λ e. IsUnreceived old new slot e) → Walked (Does (Plainly (Slots (SlotPoll slot))) (heard_result state)) old new (polled result) state
walked-received old new state slot (Ok None) made refused = walked-receive old new new _ _ slot Pending (Plain Pending) _ made.1 (rw made.0.held tt) refl (walked-gives new _ _)
walked-received old new state slot (Ok (Some value)) made refused = walked-receive old new new _ _ slot Ready (Handed value) _ made.1 (rw made.0 refl) (rw made.0 refl) (walked-gives new _ _)
walked-received old new state slot (Err error) made (inl lack) = walked-lacking old new _ _ _ lack.1 tt
walked-received old new state slot (Err error) made (inr shown) = walked-receive old new new _ _ slot (Refused error) (Plain (Refused error)) _ shown.1 (fits-refused old slot error shown.0) refl (walked-gives new _ _)

-- the same, step by step, of an end
module _ {A O G : Type 0} (old mid new : World A O G) where
  pub spent-followed : (first next : Last A O) → Spent first old mid → Spent next mid new → Spent (followed_by first next) old new
  unfolding Spent Walked
  spent-followed first next one two = (walked-followed old mid new first next tt tt one two)

  pub spent-spend : (ask : Ask A O) (next : Last A O) → IsSpending ask → SpentBy old mid ask → Spent next mid new → Spent (Spends ask next) old new
  unfolding Spent Walked
  spent-spend ask next plain spent two = (walked-spend old mid new tt tt ask next plain spent two)

module _ {A L O R G : Type 0} (old mid new : World A O G) (first : Step A L O R) (more : R → L → Last A O) (r : R) (a : L) where
  pub spent-then : Walked first old mid r a → Spent (more r a) mid new → Spent (then first more) old new
  unfolding Spent Walked
  spent-then one two = (walked-then old mid new first more r a tt tt one two)

pub spent-nothing : {A O G : Type 0} (w : World A O G) → Spent (Gives tt tt) w w
unfolding Spent Walked
spent-nothing w = (walked-gives w tt tt)

-- and of a poll of a task
module _ {A L O R G : Type 0} (old mid new : World A O G) (first : Step A L O R) (more : R → L → Step A A O (Answer O)) (r : R) (a : L) (answer : Answer O) (left : A) where
  pub polled-then : Walked first old mid r a → Polled (more r a) mid new answer left → Polled (then first more) old new answer left
  unfolding Walked Polled
  polled-then one two = (turned-then old mid new first more r a (answered_by answer left) one two)

module _ {A O G : Type 0} (old mid new : World A O G) (answer : Answer O) (left : A) where
  pub polled-followed : (first : Last A O) (next : Step A A O (Answer O)) → Spent first old mid → Polled next mid new answer left → Polled (followed_by first next) old new answer left
  unfolding followed_by Spent Walked
  polled-followed first next one two = polled-then old mid new first (λ answer left. next) tt tt answer left one two

  pub polled-wake : (task : ℕ) (reply : CallReply) (on : Heard O → Step A A O (Answer O)) → Made old mid (Plainly (Wake task)) reply → Polled (on (Plain reply)) mid new answer left → Polled (Does (Plainly (Wake task)) on) old new answer left
  unfolding Polled
  polled-wake task reply on made two = (turned-made old mid new (answered_by answer left) (Plainly (Wake task)) reply (Plain reply) on made (refl, tt) refl two)

  pub polled-spend : (ask : Ask A O) (next : Step A A O (Answer O)) → IsSpending ask → SpentBy old mid ask → Polled next mid new answer left → Polled (Spends ask next) old new answer left
  unfolding Polled
  polled-spend ask next plain spent two =
      (turned-token old mid new (answered_by answer left) ask next plain spent two (has_place old.told.state.stood (call_of ask)) refl)

  pub polled-sleep : (due : ℕ) (alarm told : Option ℕ) (on : Heard O → Step A A O (Answer O)) → told ≡ slept_number old.told.state.clock.time old.told.state.stood.alarms due alarm → Made old mid (Sleeping due alarm) (sleep_reply told) → Polled (on (Plain (sleep_reply told))) mid new answer left → Polled (Does (Sleeping due alarm) on) old new answer left
  unfolding Polled
  polled-sleep due alarm told on is made two = (turned-sleep old mid new (answered_by answer left) due alarm told on is made two)

answered-ends : {A O : Type 0} (held : Held A O) (stood : Stood) (answer : Answer O) (left : A) → EndsWith (Gives answer left) held [] stood (answered_by answer left) held
answered-ends held stood NoMemory left = (held.counts, refl)
answered-ends held stood answer left = (refl, refl, refl)

module _ {A O G : Type 0} (w : World A O G) (left : A) where
  pub polled-gives : (answer : Answer O) (given : A) → given ≡ left → Polled (Gives answer given) w w answer left
  unfolding Polled
  polled-gives answer given same = rw same (turned-none w (answered_by answer left) (Gives answer left) (answered-ends w.held w.told.state.stood answer left))

  -- it breaks off
  pub polled-lacks : (step : Step A A O (Answer O)) → Polled step w w NoMemory left
  unfolding Polled
  polled-lacks step = (turned-none w None step (w.held.counts, refl))

pub polled-lacking : {A O G : Type 0} (old new : World A O G) (step : Step A A O (Answer O)) (answer : Answer O) (left : A) → new ≡ lacking old → Lacks old.told.state.stood step → Polled step old new answer left
unfolding Polled
polled-lacking old new step answer left e l = rw e ((turned-lacking old (answered_by answer left) step l))

-- and of a maker
module _ {A L O R G : Type 0} (old mid new : World A O G) (first : Step A L O R) (more : R → L → Step A A O (Unit {0})) (r : R) (a : L) (result : Result A OutOfMemory) where
  pub rooted-then : Walked first old mid r a → Rooted (more r a) mid new result → Rooted (then first more) old new result
  unfolding Walked Rooted
  rooted-then one two = (turned-then old mid new first more r a (root_by result) one two)

module _ {A O G : Type 0} (old mid new : World A O G) (result : Result A OutOfMemory) where
  pub rooted-followed : (first : Last A O) (next : Step A A O (Unit {0})) → Spent first old mid → Rooted next mid new result → Rooted (followed_by first next) old new result
  unfolding followed_by Spent Walked
  rooted-followed first next one two = rooted-then old mid new first (λ answer left. next) tt tt result one two

  -- a token that is spent
  pub rooted-spend : (ask : Ask A O) (next : Step A A O (Unit {0})) → IsSpending ask → SpentBy old mid ask → Rooted next mid new result → Rooted (Spends ask next) old new result
  unfolding Rooted
  rooted-spend ask next plain spent two =
      (turned-token old mid new (root_by result) ask next plain spent two (has_place old.told.state.stood (call_of ask)) refl)

module _ {A O G : Type 0} (w : World A O G) where
  pub rooted-gives : (made root : A) → made ≡ root → Rooted (Gives tt made) w w (Ok root)
  unfolding Rooted
  rooted-gives made root same = rw same (turned-none w (Some (tt, root)) (Gives tt root) (refl, refl, refl))

  pub rooted-lacks : (step : Step A A O (Unit {0})) (lack : OutOfMemory) → Rooted step w w (Err lack)
  unfolding Rooted
  rooted-lacks step lack = (turned-none w None step (w.held.counts, refl))

pub rooted-lacking : {A O G : Type 0} (old new : World A O G) (step : Step A A O (Unit {0})) (result : Result A OutOfMemory) → new ≡ lacking old → Lacks old.told.state.stood step → Rooted step old new result
unfolding Rooted
rooted-lacking old new step result e l = rw e ((turned-lacking old (root_by result) step l))

-- what the calls of the world leave
module _ {A O G : Type 0} (old new : World A O G) where
  called-as : (ask : Ask A O) (heard : Heard O) → ((L R : Type 0) (end : World A O G) (given : Option (R × L)) (on : Heard O → Step A L O R) → Turned (on heard) new end given → Turned (Does ask on) old end given) → Called ask old new heard
  unfolding Polled Spent Rooted
  called-as ask heard turned = record {
    onward = λ on end given state two. turned A (Answer O) end (answered_by given state) on two;
    ends = λ on end two. turned (Unit {0}) (Unit {0}) end (Some (tt, tt)) on two;
    makes = λ on end root two. turned A (Unit {0}) end (root_by root) on two;
  }

  -- it was made
  pub called-made : (ask : Ask A O) (reply : CallReply) (heard : Heard O) → Made old new ask reply → Asks old.held ask (turn_in old.told.state old.out (call_of ask) reply) → heard ≡ heard_of old.held (turn_in old.told.state old.out (call_of ask) reply) → Called ask old new heard
  called-made ask reply heard made asks is = called-as ask heard (λ L R end given on two. turned-made old new end given ask reply heard on made asks is two)

  -- it lacked memory
  pub called-lacking : (ask : Ask A O) (heard : Heard O) → new ≡ lacking old → Called ask old new heard
  called-lacking ask heard is = called-as ask heard (λ L R end given on two. turned-behind old new end given given (Does ask on) (on heard) is tt two)

  -- it was refused
  pub called-refused : (ask : Ask A O) (error : Error) → ((reply : CallReply) → Asks old.held ask (turn_in old.told.state old.out (call_of ask) (Refused error))) → Plain (Refused error) ≡ heard_of old.held (turn_in old.told.state old.out (call_of ask) (Refused error)) → IsRefused old new ask error → Called ask old new (Plain (Refused error))
  called-refused ask error asks is (inl lack) = called-lacking ask (Plain (Refused error)) lack.1
  called-refused ask error asks is (inr made) = called-made ask (Refused error) (Plain (Refused error)) made (asks (Refused error)) is

  pub wake-called : (task : ℕ) (result : Result (Unit {0}) Error) → OnOk result (Made old new (Plainly (Wake task)) Done) → IfErr result (λ e. IsRefused old new (Plainly (Wake task)) e) → Called (Plainly (Wake task)) old new (wake_told result)
  wake-called task (Ok done) made refused = called-made (Plainly (Wake task)) Done (Plain Done) made (refl, tt) refl
  wake-called task (Err error) made refused = called-refused (Plainly (Wake task)) error (λ reply. (refl, tt)) refl refused

  pub abort-called : (task : ℕ) (result : Result (Unit {0}) Error) → OnOk result (Made old new (Plainly (AbortTask task)) Done) → IfErr result (λ e. IsRefused old new (Plainly (AbortTask task)) e) → Called (Plainly (AbortTask task)) old new (wake_told result)
  abort-called task (Ok done) made refused = called-made (Plainly (AbortTask task)) Done (Plain Done) made (refl, tt) refl
  abort-called task (Err error) made refused = called-refused (Plainly (AbortTask task)) error (λ reply. (refl, tt)) refl refused

  pub child-called : (node : ℕ) (label : List ℕ) (result : Result (ℕ × Bool) Error) → IfOk result (λ made. Made old new (Plainly (Child node label)) (NodeAt made.0 made.1)) → IfErr result (λ e. IsRefused old new (Plainly (Child node label)) e) → Called (Plainly (Child node label)) old new (child_told result)
  child-called node label (Ok at) made refused = called-made (Plainly (Child node label)) (NodeAt at.0 at.1) (Plain (NodeAt at.0 at.1)) made (refl, tt) refl
  child-called node label (Err error) made refused = called-refused (Plainly (Child node label)) error (λ reply. (refl, tt)) refl refused

  pub spawn-called : {M : Type 0} (node : ℕ) (execution : Execution) (made : ℕ → A) (result : Result (Spawned M) (Error × M)) → IfOk result (λ spawned. Made old new (Spawning node execution made) (spawned_reply spawned)) → IfErr result (λ back. IsRefused old new (Spawning node execution made) back.0) → Called (Spawning node execution made) old new (spawn_told result)
  spawn-called node execution made (Ok spawned) is refused = called-made (Spawning node execution made) (spawned_reply spawned) (Plain (spawned_reply spawned)) is (refl, tt) refl
  spawn-called node execution made (Err back) is refused = called-refused (Spawning node execution made) back.0 (λ reply. (refl, tt)) refl refused

  pub sleep-called : (due : ℕ) (alarm : Option ℕ) (result : Result (Option ℕ) OutOfMemory) → IfOk result (λ told. told ≡ slept_number old.told.state.clock.time old.told.state.stood.alarms due alarm) → IfOk result (λ told. Made old new (Sleeping due alarm) (sleep_reply told)) → OnErr result (new ≡ lacking old) → Called (Sleeping due alarm) old new (sleep_told result)
  sleep-called due alarm (Ok told) is made lacked =
      called-made (Sleeping due alarm) (sleep_reply told) (Plain (sleep_reply told)) made (refl, own-alarm old.told.state.clock.time old.told.state.stood.alarms due alarm told is) refl
  sleep-called due alarm (Err lack) is made lacked = called-lacking (Sleeping due alarm) (Plain (Refused OutOf)) lacked

  pub join-called : (task : ℕ) (result : Result (Option O) Error) → IfOk result (λ value. Joined old new task value) → IfErr result (λ e. IsRefused old new (Plainly (Join task)) e) → Called (Plainly (Join task)) old new (join_told result)
  join-called task (Ok None) made refused = called-made (Plainly (Join task)) Pending (Plain Pending) made (refl, tt) refl
  join-called task (Ok (Some value)) made refused = called-made (Plainly (Join task)) Ready (Handed value) made.1 (refl, tt) (rw made.0 refl)
  join-called task (Err error) made refused = called-refused (Plainly (Join task)) error (λ reply. (refl, tt)) refl refused

  pub slot-called : (result : Result ℕ OutOfMemory) → IfOk result (λ slot. Made old new (Plainly (Slots Slot)) (SlotAt slot)) → OnErr result (new ≡ lacking old) → Called (Plainly (Slots Slot)) old new (slot_told result)
  slot-called (Ok slot) made lacked = called-made (Plainly (Slots Slot)) (SlotAt slot) (Plain (SlotAt slot)) made (refl, tt) refl
  slot-called (Err lack) made lacked = called-lacking (Plainly (Slots Slot)) (Plain (Refused OutOf)) lacked

  pub receive-called : (slot : ℕ) (result : Result (Option O) Error) → IfOk result (λ value. Received old new slot value) → IfErr result (λ e. IsUnreceived old new slot e) → Called (Plainly (Slots (SlotPoll slot))) old new (join_told result)
  receive-called slot (Ok None) made refused = called-made (Plainly (Slots (SlotPoll slot))) Pending (Plain Pending) made.1 (refl, rw made.0.held tt) refl
  receive-called slot (Ok (Some value)) made refused = called-made (Plainly (Slots (SlotPoll slot))) Ready (Handed value) made.1 (refl, rw made.0 refl) (rw made.0 refl)
  receive-called slot (Err error) made (inl lack) = called-lacking (Plainly (Slots (SlotPoll slot))) (Plain (Refused error)) lack.1
  receive-called slot (Err error) made (inr shown) = called-made (Plainly (Slots (SlotPoll slot))) (Refused error) (Plain (Refused error)) shown.1 (refl, fits-refused old slot error shown.0) refl

pub ruleset call_laws = (wake-called, abort-called, child-called, spawn-called, sleep-called, join-called, slot-called, receive-called)

-- a part from its first call on
module _ {A L O R G : Type 0} (step : Step A L O R) (old new : World A O G) (given : Option (R × L)) (fresh : old.told.state.turns ≡ []) (two : Turned step old new given) where
  turned-all : two.more ≡ new.told.state.turns
  turned-all = rw (two.turns, fresh) refl

  -- it broke off before a call lacked memory
  turned-front : given ≡ None → new.lacked ≡ None → Fronts step old.held new.told.state.turns new.held
  turned-front e long = rw (← turned-all) (rw e at (two.ends long))

  turned-short : old.lacked ≡ None → (there : Option (List Turn)) → new.lacked ≡ there → is_some new.lacked ≡ true → Breaks step old.held new.told.state.turns new.told.state.stood new.held
  turned-short o None e is = let m = rw e at is in absurd (cc)
  turned-short o (Some made) e is =
      let k = two.broke made o e in
      record { front = k.front; rest = k.rest; mid = k.mid; are = rw (← turned-all) k.are; walks = k.walks; frees = k.frees }

module _ {A L O R G : Type 0} (old new : World A O G) (step : Step A L O R) (q : R) (b : L) (fresh : old.told.state.turns ≡ []) where
  walked-fresh : new.lacked ≡ None → Walked step old new q b → Walks step old.held new.told.state.turns new.told.state.stood q b new.held
  unfolding Walked
  walked-fresh long two = rw (← turned-all step old new (Some (q, b)) fresh two) (two.ends long)

  walked-short : old.lacked ≡ None → is_some new.lacked ≡ true → Walked step old new q b → Breaks step old.held new.told.state.turns new.told.state.stood new.held
  unfolding Walked
  walked-short o n two = turned-short step old new (Some (q, b)) fresh two o new.lacked refl n

module _ {A O G : Type 0} (old new : World A O G) (step : Last A O) (fresh : old.told.state.turns ≡ []) where
  pub spent-fresh : new.lacked ≡ None → Spent step old new → Walks step old.held new.told.state.turns new.told.state.stood tt tt new.held
  unfolding Spent Walked
  spent-fresh long w = walked-fresh old new step tt tt fresh long w

  pub spent-short : old.lacked ≡ None → is_some new.lacked ≡ true → Spent step old new → Breaks step old.held new.told.state.turns new.told.state.stood new.held
  unfolding Spent Walked
  spent-short o n w = walked-short old new step tt tt fresh o n w

module _ {A O G : Type 0} (old new : World A O G) (step : Step A A O (Answer O)) (answer : Answer O) (left : A) (fresh : old.told.state.turns ≡ []) where
  pub polled-fresh : new.lacked ≡ None → answered_by answer left ≡ Some (answer, left) → Polled step old new answer left → Walks step old.held new.told.state.turns new.told.state.stood answer left new.held
  unfolding Polled
  polled-fresh long e two = rw (← turned-all step old new (answered_by answer left) fresh two) (rw e at (two.ends long))

  pub polled-short : old.lacked ≡ None → is_some new.lacked ≡ true → Polled step old new answer left → Breaks step old.held new.told.state.turns new.told.state.stood new.held
  unfolding Polled
  polled-short o n two = turned-short step old new (answered_by answer left) fresh two o new.lacked refl n

  pub polled-broken : new.lacked ≡ None → answered_by answer left ≡ None → Polled step old new answer left → Fronts step old.held new.told.state.turns new.held
  unfolding Polled
  polled-broken long e two = turned-front step old new (answered_by answer left) fresh two e long

module _ {A O G : Type 0} (old new : World A O G) (step : Step A A O (Unit {0})) (fresh : old.told.state.turns ≡ []) where
  pub rooted-fresh : (root : A) → new.lacked ≡ None → Rooted step old new (Ok root) → Walks step old.held new.told.state.turns new.told.state.stood tt root new.held
  unfolding Rooted
  rooted-fresh root long two = rw (← turned-all step old new (Some (tt, root)) fresh two) (two.ends long)

  pub rooted-short : (result : Result A OutOfMemory) → old.lacked ≡ None → is_some new.lacked ≡ true → Rooted step old new result → Breaks step old.held new.told.state.turns new.told.state.stood new.held
  unfolding Rooted
  rooted-short result o n two = turned-short step old new (root_by result) fresh two o new.lacked refl n

  rooted-none : (lack : OutOfMemory) → old.lacked ≡ None → (there : Option (List Turn)) → new.lacked ≡ there → Rooted step old new (Err lack) → Breaks step old.held new.told.state.turns new.told.state.stood new.held ⊎ Fronts step old.held new.told.state.turns new.held
  unfolding Rooted
  rooted-none lack o None e two = inr (turned-front step old new None fresh two refl e)
  rooted-none lack o (Some made) e r = inl (rooted-short (Err lack) o (rw e refl) r)

  -- without a root
  pub rooted-broken : (lack : OutOfMemory) → old.lacked ≡ None → Rooted step old new (Err lack) → Breaks step old.held new.told.state.turns new.told.state.stood new.held ⊎ Fronts step old.held new.told.state.turns new.held
  rooted-broken lack o r = rooted-none lack o new.lacked refl r

-- no call lacked memory
pub long : {lacked : Option (List Turn)} → false ≡ is_some lacked → lacked ≡ None
long {lacked = None} e = refl
long {lacked = Some made} e = cc

pub stays-stays : (a b c : Option (List Turn)) → Stays a b → Stays b c → Stays a c
unfolding Stays
stays-stays a b c h k = (λ made o. k made (h made o))

pub stays-same : (old new : Option (List Turn)) → new ≡ old → Stays old new
unfolding Stays
stays-same old new e = (λ made o. e ∙ o)

pub stays-marked : (old new : Option (List Turn)) (turns : List Turn) → new ≡ marked old turns → Stays old new
unfolding Stays
stays-marked old new turns e = (λ made o. rw (e, o) refl)

pub grows-same : (phase : Phase) (old new : List ℕ) → new ≡ old → Grows phase old new
unfolding Grows
grows-same phase old new e = (λ closing. e, λ task runs. rw e runs)

pub grows-grows : (phase : Phase) (a b c : List ℕ) → Grows phase a b → Grows phase b c → Grows phase a c
unfolding Grows
grows-grows phase a b c h k = (λ closing. k.0 closing ∙ h.0 closing, λ task runs. k.1 task (h.1 task runs))

-- no call was made
pub kept-same : {A O G : Type 0} (stream : G → Stream) (w : World A O G) → Kept stream w w
kept-same stream w = record {
  begin = refl;
  given = refl;
  past = refl;
  phase = refl;
  clock = refl;
  root = refl;
  panic = refl;
  out = refl;
  lasts = lasts-of stream w w (grows-same _ _ _ refl) (stays-same _ _ refl) (drew-same stream w w refl refl);
}

-- what calls keep, one after another
module _ {A O G : Type 0} {stream : G → Stream} (a b c : World A O G) where
  pub kept-kept : Kept stream a b → Kept stream b c → Kept stream a c
  kept-kept h k = record {
    begin = k.begin ∙ h.begin;
    given = k.given ∙ h.given;
    past = k.past ∙ h.past;
    phase = k.phase ∙ h.phase;
    clock = k.clock ∙ h.clock;
    root = k.root ∙ h.root;
    panic = k.panic ∙ h.panic;
    out = k.out ∙ h.out;
    lasts = lasts-of stream a c (grows-grows _ _ _ _ (grows-of stream a b h.lasts) (rw h.phase at (grows-of stream b c k.lasts))) (stays-stays _ _ _ (stays-of stream a b h.lasts) (stays-of stream b c k.lasts)) (drew-drew stream a b c (drawn-of stream a b h.lasts) (drawn-of stream b c k.lasts));
  }

-- what is kept over two parts, for who runs and for the mark
module _ {A O G : Type 0} {stream : G → Stream} (a b c : World A O G) where
  pub lasts-kept : Kept stream a b → Kept stream b c → Lasts stream a c
  lasts-kept h k = (kept-kept a b c h k).lasts

-- whoever may call may go on calling
calls-kept : (phase : Phase) (root out : Option ℕ) (old new : List ℕ) → Grows phase old new → CallsAt phase root (ends_next old root) out → CallsAt phase root (ends_next new root) out
unfolding Grows
calls-kept (Closing cause) root out old new grows calls = rw (grows.0 refl) calls
calls-kept Making root out old new grows calls = calls
calls-kept (Polling task left) root out old new grows calls = calls
calls-kept (Ending task result left) root out old new grows calls = calls
calls-kept _ root out old new grows calls = absurd calls

pub calling-kept : {A O G : Type 0} {stream : G → Stream} (old new : World A O G) → Kept stream old new → MayCall old.told.state old.out → MayCall new.told.state new.out
calling-kept old new k calls = rw (k.phase, k.root, k.out) (calls-kept old.told.state.phase old.told.state.root old.out old.told.state.running new.told.state.running (grows-of _ old new k.lasts) calls)

-- from there on
module _ {A L O R G : Type 0} (old new : World A O G) (step : Step A L O R) (r : R) (a : L) where
  pub goes-on : Walked step old new r a → Goes step old new r a
  goes-on one = record {
    walked = one;
    onward = λ more end given state two. polled-then old new end step more r a given state one two;
    ends = λ more end two. spent-then old new end step more r a one two;
    makes = λ more end root two. rooted-then old new end step more r a root one two;
  }

module _ {A O G : Type 0} (old new : World A O G) (step : Last A O) where
  pub spends-on : Spent step old new → MaySpend step old new
  spends-on one = record {
    spent = one;
    ends = λ next end two. spent-followed old new end step next one two;
    onward = λ next end given state two. polled-followed old new end given state step next one two;
    makes = λ next end root two. rooted-followed old new end root step next one two;
  }

module _ {A O G : Type 0} (old new : World A O G) (ask : Ask A O) where
  pub closes-on : IsSpending ask → SpentBy old new ask → Closes ask old new
  closes-on plain one = record {
    spent = one;
    ends = λ next end two. spent-spend old new end ask next plain one two;
    onward = λ next end given state two. polled-spend old new end given state ask next plain one two;
    makes = λ next end root two. rooted-spend old new end root ask next plain one two;
  }

module _ {A O G : Type 0} (old new : World A O G) (change : Change) (is : new ≡ record old { held = counted change old.held }) where
  counted-spent : (next : Last A O) (end : World A O G) → Spent next new end → Spent (Counts change next) old end
  unfolding Spent Walked
  counted-spent next end two = turned-counts old end change next (Some (tt, tt)) (rw is at two)

  counted-polled : (next : Step A A O (Answer O)) (end : World A O G) (given : Answer O) (state : A) → Polled next new end given state → Polled (Counts change next) old end given state
  unfolding Polled
  counted-polled next end given state two = turned-counts old end change next (answered_by given state) (rw is at two)

  counted-rooted : (next : Step A A O (Unit {0})) (end : World A O G) (root : Result A OutOfMemory) → Rooted next new end root → Rooted (Counts change next) old end root
  unfolding Rooted
  counted-rooted next end root two = turned-counts old end change next (root_by root) (rw is at two)

  pub counts-on : Counted change old new
  counts-on = record { is = is; ends = counted-spent; onward = counted-polled; makes = counted-rooted }

-- and what is read of it
module _ {A O G V : Type 0} (old new : World A O G) (read : Heard O → V) (value : V) where
  -- it was made
  pub tells-made : (ask : Ask A O) (reply : CallReply) (heard : Heard O) → Made old new ask reply → Asks old.held ask (turn_in old.told.state old.out (call_of ask) reply) → heard ≡ heard_of old.held (turn_in old.told.state old.out (call_of ask) reply) → read heard ≡ value → Goes (tells ask read) old new value tt
  unfolding tells Walked
  tells-made ask reply heard made asks is e =
      goes-on old new (tells ask read) value tt (turned-made old new new (Some (value, tt)) ask reply heard (λ heard. Gives (read heard) tt) made asks is (turned-none new (Some (value, tt)) (Gives (read heard) tt) (e, refl, refl)))

  -- it lacked memory
  pub tells-lacking : (ask : Ask A O) → new ≡ lacking old → Goes (tells ask read) old new value tt
  unfolding tells
  tells-lacking ask is = goes-on old new (tells ask read) value tt (walked-lacking old new (tells ask read) value tt is tt)

  -- it was refused
  pub tells-refused : (ask : Ask A O) (error : Error) → Asks old.held ask (turn_in old.told.state old.out (call_of ask) (Refused error)) → Plain (Refused error) ≡ heard_of old.held (turn_in old.told.state old.out (call_of ask) (Refused error)) → IsRefused old new ask error → read (Plain (Refused error)) ≡ value → Goes (tells ask read) old new value tt
  tells-refused ask error asks is (inl lack) e = tells-lacking ask lack.1
  tells-refused ask error asks is (inr made) e = tells-made ask (Refused error) (Plain (Refused error)) made asks is e

  pub child-tells : (node : ℕ) (label : List ℕ) (result : Result (ℕ × Bool) Error) → IfOk result (λ made. Made old new (Plainly (Child node label)) (NodeAt made.0 made.1)) → IfErr result (λ e. IsRefused old new (Plainly (Child node label)) e) → read (child_told result) ≡ value → Goes (tells (Plainly (Child node label)) read) old new value tt
  child-tells node label (Ok at) made refused e = tells-made (Plainly (Child node label)) (NodeAt at.0 at.1) (Plain (NodeAt at.0 at.1)) made (refl, tt) refl e
  child-tells node label (Err error) made refused e = tells-refused (Plainly (Child node label)) error (refl, tt) refl refused e

  pub spawn-tells : {M : Type 0} (node : ℕ) (execution : Execution) (made : ℕ → A) (result : Result (Spawned M) (Error × M)) → IfOk result (λ spawned. Made old new (Spawning node execution made) (spawned_reply spawned)) → IfErr result (λ back. IsRefused old new (Spawning node execution made) back.0) → read (spawn_told result) ≡ value → Goes (tells (Spawning node execution made) read) old new value tt
  spawn-tells node execution made (Ok spawned) is refused e = tells-made (Spawning node execution made) (spawned_reply spawned) (Plain (spawned_reply spawned)) is (refl, tt) refl e
  spawn-tells node execution made (Err back) is refused e = tells-refused (Spawning node execution made) back.0 (refl, tt) refl refused e

-- nothing was walked yet
pub leads-same : {A O G : Type 0} (step : Step A A O (Answer O)) (w : World A O G) → Leads step step w w
leads-same step w = record { leads = λ end answer left walked. walked }

-- for pollers, for tasks, and for what closes a context
pub ruleset poller_laws = (walked-then, walked-followed, walked-wake, walked-join, walked-sleep, walked-spend, walked-gives, walked-lacking, spent-followed, spent-spend, spent-nothing, lasts-of, stays-same, stays-marked, grows-same, drew-same, lasts-kept, calling-kept)

pub ruleset close_laws = (closes-on, spent-nothing, lasts-of, stays-same, stays-marked, grows-same, drew-same, lasts-kept, calling-kept)

pub ruleset task_laws = (polled-wake, polled-sleep, polled-spend, polled-gives, polled-lacks, polled-lacking, spent-nothing, lasts-of, stays-same, stays-marked, grows-same, drew-same, lasts-kept, calling-kept)

pub ruleset maker_laws = (rooted-spend, rooted-gives, rooted-lacks, rooted-lacking, lasts-of, stays-same, stays-marked, grows-same, drew-same, lasts-kept, calling-kept)

pub ruleset tell_laws = (tells-lacking, child-tells, spawn-tells, lasts-of, stays-same, stays-marked, grows-same, drew-same, lasts-kept, calling-kept)

pub ruleset stay_laws = (lasts-of, stays-same, stays-marked, grows-same, drew-same)

pub ruleset loop_laws = (lasts-of, stays-same, stays-marked, grows-same, drew-same, lasts-kept, calling-kept, leads-same, polled-gives, polled-lacks)
