-- What is held for slots, as calls change them.
use Rattle.rt_world.proofs.Prelude.{◌≡◌, ◌≢◌, ◌+◌, ◌∙◌, sym, ap, ℕ, List, [], ◌∷◌, ◌++◌, refl, Bool, true, false, Option, Some, None, Result, Ok, Err, IfOk, IfErr, OnOk, OnErr, is_some, option_map, arith, eqb, inl, inr, ◌&&◌, Error, OutOfMemory, Call, Child, CloseNode, Abort, AbortTask, Wake, SleepPoll, Slots, Slot, SlotSend, SlotClose, SlotPoll, SlotGiveUp, AbortWait, CallReply, Done, NodeAt, SlotAt, Pending, PendingAt, Ready, Refused, after, slots_called, Aborted, Outcome, Open, There, Exited, IsClosed, TaskResult, new_result, ReceiveAnswers, SlotAnswers, Unless, find, replaced, without, Slotted, no_slots, with_slot, with_sent, with_polled, with_wait_aborted, without_slot, settled, aborted, is_open, is_sent, is_there, Stood, has_place, with_task, Noted, Spent, IsRefused, lacking, sleep_reply, Seen, open_places, cleanup_by, cleanup_entries, Told, pushed_all, is_ended, Roomed, AreSlotted, AreSent, AreWaited}
use Rattle.rt_world.proofs.Coming.{same-number, find-last, find-own, find-with, find-without}

module _ {V : Type 0} (sent : Roomed (ℕ × V)) where
  -- no slot yet
  pub slotted-none : sent.items ≡ [] → sent.first ≡ 0 → sent.next ≡ 0 → AreSlotted sent no_slots
  unfolding AreSent AreWaited
  slotted-none items first next = record { first = first; next = next; held = λ slot. rw items refl; waited = λ slot r found. absurd (cc) }

  module _ (by : Option ℕ) (old new : Seen) (i : AreSlotted sent old.told.state.stood.slots) where
    -- a call that is about no slot
    pub slotted-noted : (call : Call) (reply : CallReply) → Noted by old new call reply → slots_called old.told.state.stood.slots by call reply ≡ old.told.state.stood.slots → AreSlotted sent new.told.state.stood.slots
    slotted-noted call reply n same = let slots = ap (λ (s : Stood). s.slots) n.stood ∙ same in rw slots i

    slotted-lacking : new ≡ lacking old → AreSlotted sent new.told.state.stood.slots
    slotted-lacking e = rw e i

    slots-refused : (call : Call) (e : Error) → slots_called old.told.state.stood.slots by call (Refused e) ≡ old.told.state.stood.slots
    slots-refused (Slots call) e = refl
    slots-refused _ e = refl

    pub slotted-refused : (call : Call) (e : Error) → IsRefused by old new call e → AreSlotted sent new.told.state.stood.slots
    slotted-refused call e (inl lack) = slotted-lacking lack.1
    slotted-refused call e (inr n) = slotted-noted call (Refused e) n (slots-refused call e)

    pub child-slotted : (node : ℕ) (label : List ℕ) (result : Result (ℕ × Bool) Error) → IfOk result (λ made. Noted by old new (Child node label) (NodeAt made.0 made.1)) → IfErr result (λ e. IsRefused by old new (Child node label) e) → AreSlotted sent new.told.state.stood.slots
    child-slotted node label (Ok made) n r = slotted-noted (Child node label) (NodeAt made.0 made.1) n refl
    child-slotted node label (Err e) n r = slotted-refused (Child node label) e r

    pub wake-slotted : (task : ℕ) (result : Result (Unit {0}) Error) → OnOk result (Noted by old new (Wake task) Done) → IfErr result (λ e. IsRefused by old new (Wake task) e) → AreSlotted sent new.told.state.stood.slots
    wake-slotted task (Ok done) n r = slotted-noted (Wake task) Done n refl
    wake-slotted task (Err e) n r = slotted-refused (Wake task) e r

    pub abort-task-slotted : (task : ℕ) (result : Result (Unit {0}) Error) → OnOk result (Noted by old new (AbortTask task) Done) → IfErr result (λ e. IsRefused by old new (AbortTask task) e) → AreSlotted sent new.told.state.stood.slots
    abort-task-slotted task (Ok done) n r = slotted-noted (AbortTask task) Done n refl
    abort-task-slotted task (Err e) n r = slotted-refused (AbortTask task) e r

    slotted-slept : (due : ℕ) (told : Option ℕ) → Noted by old new (SleepPoll due) (sleep_reply told) → AreSlotted sent new.told.state.stood.slots
    slotted-slept due None n = slotted-noted (SleepPoll due) Ready n refl
    slotted-slept due (Some alarm) n = slotted-noted (SleepPoll due) (PendingAt alarm) n refl

    pub sleep-slotted : (due : ℕ) (result : Result (Option ℕ) OutOfMemory) → IfOk result (λ told. Noted by old new (SleepPoll due) (sleep_reply told)) → OnErr result (new ≡ lacking old) → AreSlotted sent new.told.state.stood.slots
    sleep-slotted due (Ok told) n e = slotted-slept due told n
    sleep-slotted due (Err lack) n e = slotted-lacking e

    slotted-spent : (call : Call) → slots_called old.told.state.stood.slots by call Done ≡ old.told.state.stood.slots → Spent by old new call → AreSlotted sent new.told.state.stood.slots
    slotted-spent call same spent = with (has_place old.told.state.stood call) refl
      where
        with : (b : Bool) → has_place old.told.state.stood call ≡ b → AreSlotted sent new.told.state.stood.slots
        with true e = slotted-noted call Done (spent.there e) same
        with false e = rw (spent.gone e) i

    pub abort-slotted : (task : ℕ) → Spent by old new (Abort task) → AreSlotted sent new.told.state.stood.slots
    abort-slotted task spent = slotted-spent (Abort task) refl spent

    pub close-slotted : (node : ℕ) → Spent by old new (CloseNode node) → AreSlotted sent new.told.state.stood.slots
    close-slotted node spent = slotted-spent (CloseNode node) refl spent

replaced-other : (change : TaskResult → TaskResult) (j k : ℕ) (rs : List (ℕ × TaskResult)) → eqb k j ≡ false → find j (replaced change k rs) ≡ find j rs
replaced-other change j k [] e = refl
replaced-other change j k (x ∷ rs) e = grind (arith, replaced-other change j k rs e)

replaced-here : (change : TaskResult → TaskResult) (k : ℕ) (rs : List (ℕ × TaskResult)) → find k (replaced change k rs) ≡ option_map change (find k rs)
replaced-here change k [] = refl
replaced-here change k (x ∷ rs) = grind (arith, replaced-here change k rs)

-- a call that changes how one slot stands, and what is held for it
module _ {V : Type 0} (sent after : Roomed (ℕ × V)) (old new : Slotted) (i : AreSlotted sent old) (first : after.first ≡ sent.first) (k : ℕ) where
  slotted-one : after.next ≡ new.count → ((j : ℕ) → eqb k j ≡ false → find j new.results ≡ find j old.results) → ((j : ℕ) → eqb k j ≡ false → find j after.items ≡ find j sent.items) → is_some (find k after.items) ≡ is_there (find k new.results) → ((r : TaskResult) → find k new.results ≡ Some r → is_open (Some r) ≡ true → r.aborted ≡ false) → AreSlotted after new
  unfolding AreSent AreWaited
  slotted-one next results items here waits = record { first = first ∙ i.first; next = next; held = held; waited = waited }
    where
      held : (j : ℕ) → is_some (find j after.items) ≡ is_there (find j new.results)
      held j = by (eqb k j) refl
        where
          by : (b : Bool) → eqb k j ≡ b → is_some (find j after.items) ≡ is_there (find j new.results)
          by true e = let same : k ≡ j = same-number k j e in rw (← same) here
          by false e = rw (items j e, results j e) (i.held j)

      waited : (j : ℕ) (r : TaskResult) → find j new.results ≡ Some r → is_open (Some r) ≡ true → r.aborted ≡ false
      waited j r found is = by (eqb k j) refl
        where
          by : (b : Bool) → eqb k j ≡ b → r.aborted ≡ false
          by true e = let same : k ≡ j = same-number k j e in waits r (rw same found) is
          by false e = i.waited j r (sym (results j e) ∙ found) is

  -- as a change of it does
  slotted-change : after.next ≡ sent.next → new.count ≡ old.count → (change : TaskResult → TaskResult) → new.results ≡ replaced change k old.results → ((j : ℕ) → eqb k j ≡ false → find j after.items ≡ find j sent.items) → is_some (find k after.items) ≡ is_there (option_map change (find k old.results)) → ((r : TaskResult) → find k old.results ≡ Some r → is_open (Some (change r)) ≡ true → (change r).aborted ≡ false) → AreSlotted after new
  slotted-change next count change results items here waits =
      slotted-one (next ∙ i.next ∙ sym count) (λ j e. rw results (replaced-other change j k old.results e)) items (rw (results, replaced-here change k old.results) here) (λ r found is. by r (find k old.results) refl (sym (rw results (replaced-here change k old.results)) ∙ found) is)
    where
      by : (r : TaskResult) (o : Option TaskResult) → find k old.results ≡ o → option_map change o ≡ Some r → is_open (Some r) ≡ true → r.aborted ≡ false
      by r None e m is = absurd (cc)
      by r (Some x) e m is = let same : change x ≡ r = cc in rw (← same) (waits x e (rw same is))

-- what was sent, as the sender or the receiver of a slot is spent
settled-there : (o : Outcome) → open_places o ≡ 0 → is_sent (record { outcome = o; aborted = false }) ≡ false → (found : Option TaskResult) → is_there (option_map (settled o) found) ≡ is_there found
settled-there o shut none None = refl
settled-there o shut none (Some r) = by r.aborted r.outcome
  where
    unsent : (aborted : Bool) (o : Outcome) → is_sent (record { outcome = o; aborted = false }) ≡ false → is_sent (record { outcome = o; aborted = aborted }) ≡ false
    unsent aborted (Open waits) h = refl
    unsent aborted There h = cc
    unsent aborted Exited h = refl
    unsent aborted IsClosed h = refl

    by : (aborted : Bool) (outcome : Outcome) → is_sent (settled o (record { outcome = outcome; aborted = aborted })) ≡ is_sent (record { outcome = outcome; aborted = aborted })
    by aborted (Open waits) = unsent aborted o none
    by aborted There = refl
    by aborted Exited = refl
    by aborted IsClosed = refl

-- once something is settled the slot isn't open
settled-shut : (o : Outcome) → open_places o ≡ 0 → (r : TaskResult) → is_open (Some (settled o r)) ≡ true → ⊥
settled-shut o shut r is = by r.outcome o shut is
  where
    shuts : (o : Outcome) (aborted : Bool) → open_places o ≡ 0 → is_open (Some (record { outcome = o; aborted = aborted })) ≡ true → ⊥
    shuts (Open waits) aborted shut is = cc
    shuts There aborted shut is = cc
    shuts Exited aborted shut is = cc
    shuts IsClosed aborted shut is = cc

    by : (outcome o : Outcome) → open_places o ≡ 0 → is_open (Some (settled o (record { outcome = outcome; aborted = r.aborted }))) ≡ true → ⊥
    by (Open waits) o shut is = shuts o r.aborted shut is
    by There o shut is = cc
    by Exited o shut is = cc
    by IsClosed o shut is = cc

-- what is sent into an open slot stands there
sent-there : (found : Option TaskResult) → is_open found ≡ true → ((r : TaskResult) → found ≡ Some r → r.aborted ≡ false) → is_there (option_map (settled There) found) ≡ true
sent-there None is waits = cc
sent-there (Some r) is waits = by r.outcome r.aborted is (waits r refl)
  where
    by : (outcome : Outcome) (aborted : Bool) → is_open (Some (record { outcome = outcome; aborted = aborted })) ≡ true → aborted ≡ false → is_sent (settled There (record { outcome = outcome; aborted = aborted })) ≡ true
    by (Open waits) aborted is a = rw a refl
    by There aborted is a = cc
    by Exited aborted is a = cc
    by IsClosed aborted is a = cc

-- and elsewhere nothing changes
unsent-there : (found : Option TaskResult) → is_open found ≡ false → is_there (option_map (settled There) found) ≡ is_there found
unsent-there None is = refl
unsent-there (Some r) is = by r.outcome is
  where
    by : (outcome : Outcome) → is_open (Some (record { outcome = outcome; aborted = r.aborted })) ≡ false → is_sent (settled There (record { outcome = outcome; aborted = r.aborted })) ≡ is_sent (record { outcome = outcome; aborted = r.aborted })
    by (Open waits) is = cc
    by There is = refl
    by Exited is = refl
    by IsClosed is = refl

-- an outcome that was put in place of another
polled-there : (o : Outcome) → o ≢ There → (found : Option TaskResult) → is_there (option_map (λ (r : TaskResult). record r { outcome = o }) found) ≡ false
polled-there o not None = refl
polled-there (Open waits) not (Some r) = refl
polled-there There not (Some r) = absurd (not refl)
polled-there Exited not (Some r) = refl
polled-there IsClosed not (Some r) = refl

aborted-there : (found : Option TaskResult) → is_there (option_map aborted found) ≡ false
aborted-there None = refl
aborted-there (Some r) = refl

-- a poll that is pending wasn't aborted
pending-waits : (found : Option TaskResult) → ReceiveAnswers found Pending → (r : TaskResult) → found ≡ Some r → r.aborted ≡ false
pending-waits None answers r e = cc
pending-waits (Some x) answers r e = let same : x ≡ r = cc in rw (← same) (by x.aborted answers)
  where
    by : (b : Bool) → Unless b Aborted (SlotAnswers x.outcome) Pending → b ≡ false
    by true answers = absurd answers
    by false answers = refl

find-end : {V : Type 0} (k : ℕ) (v : V) (xs : List (ℕ × V)) → find k xs ≡ None → find k (xs ++ (k, v) ∷ []) ≡ Some v
find-end k v [] h = grind arith
find-end k v (x ∷ xs) h = grind (arith, find-end k v xs)

none-held : {V : Type 0} (o : Option V) → o ≡ None → is_some o ≡ false
none-held o e = rw e refl

module _ {V : Type 0} (sent after : Roomed (ℕ × V)) (by : Option ℕ) (old new : Seen) (i : AreSlotted sent old.told.state.stood.slots) (k : ℕ) where
  abbrev slots : Slotted
  slots = old.told.state.stood.slots

  -- a slot more
  pub made-slotted : Noted by old new (Slots Slot) (SlotAt k) → after.items ≡ sent.items → after.first ≡ sent.first → after.next ≡ sent.next + 1 → find slots.count slots.results ≡ None → AreSlotted after new.told.state.stood.slots
  unfolding AreSent
  made-slotted n items first next none =
      let told : new.told.state.stood.slots ≡ with_slot k slots = ap (λ (s : Stood). s.slots) n.stood in
      let told_at : SlotAt k ≡ SlotAt slots.count = n.answers in
      let is : k ≡ slots.count = cc in
      let gone : find k slots.results ≡ None = rw is none in
      let end = find-end k new_result slots.results gone in
      rw told
      (slotted-one sent after slots (with_slot k slots) i first k (next ∙ ap (λ m. m + 1) (i.next ∙ sym is))
      (λ j e. find-last j k new_result slots.results e)
      (λ j e. rw items refl)
      (rw (items, end) (i.held k ∙ ap is_there gone))
      (λ r found open_. let same : new_result ≡ r = some-same (sym end ∙ found) in rw (← same) refl))
    where
      some-same : {x y : TaskResult} → Some x ≡ Some y → x ≡ y
      some-same e = cc

  -- its sender closed it
  pub closed-slot : Noted by old new (Slots (SlotClose k)) Done → AreSlotted sent new.told.state.stood.slots
  unfolding AreSent
  closed-slot n =
      let told : new.told.state.stood.slots ≡ with_sent IsClosed k slots = ap (λ (s : Stood). s.slots) n.stood in
      rw told
      (slotted-change sent sent slots (with_sent IsClosed k slots) i refl k refl refl (settled IsClosed) refl (λ j e. refl)
      (i.held k ∙ sym (settled-there IsClosed refl refl (find k slots.results)))
      (λ r found open_. absurd (settled-shut IsClosed refl r open_)))

  -- a result was sent where it is waited for
  pub sent-slotted : Noted by old new (Slots (SlotSend k)) Done → (v : V) → after.items ≡ with_task k v sent.items → after.first ≡ sent.first → after.next ≡ sent.next → is_open (find k slots.results) ≡ true → AreSlotted after new.told.state.stood.slots
  unfolding AreSent AreWaited
  sent-slotted n v items first next open_ =
      let told : new.told.state.stood.slots ≡ with_sent There k slots = ap (λ (s : Stood). s.slots) n.stood in
      rw told
      (slotted-change sent after slots (with_sent There k slots) i first k next refl (settled There) refl
      (λ j e. rw items (find-with j k v sent.items e))
      (rw items (find-own k v sent.items) ∙ sym (sent-there (find k slots.results) open_ (λ r found. i.waited k r found (rw found at open_))))
      (λ r found is. absurd (settled-shut There refl r is)))

  -- or where it isn't
  pub dropped-slotted : Noted by old new (Slots (SlotSend k)) Done → is_open (find k slots.results) ≡ false → AreSlotted sent new.told.state.stood.slots
  unfolding AreSent
  dropped-slotted n shut =
      let told : new.told.state.stood.slots ≡ with_sent There k slots = ap (λ (s : Stood). s.slots) n.stood in
      rw told
      (slotted-change sent sent slots (with_sent There k slots) i refl k refl refl (settled There) refl (λ j e. refl)
      (i.held k ∙ sym (unsent-there (find k slots.results) shut))
      (λ r found is. absurd (settled-shut There refl r is)))

  -- its receiver polled, and waits
  pub polled-slotted : Noted by old new (Slots (SlotPoll k)) Pending → find k sent.items ≡ None → AreSlotted sent new.told.state.stood.slots
  unfolding AreSent
  polled-slotted n none =
      let told : new.told.state.stood.slots ≡ with_polled (Open by) k slots = ap (λ (s : Stood). s.slots) n.stood in
      rw told
      (slotted-change sent sent slots (with_polled (Open by) k slots) i refl k refl refl (λ r. record r { outcome = Open by }) refl (λ j e. refl)
      (none-held (find k sent.items) none ∙ sym (polled-there (Open by) (λ e. absurd (cc)) (find k slots.results)))
      (λ r found is. pending-waits (find k slots.results) n.answers r found))

  module _ (items : after.items ≡ without k sent.items) (first : after.first ≡ sent.first) (next : after.next ≡ sent.next) (gone : find k (without k sent.items) ≡ None) where
    none-after : is_some (find k after.items) ≡ false
    none-after = none-held (find k after.items) (rw items gone)

    -- or takes what was sent
    pub taken-slotted : Noted by old new (Slots (SlotPoll k)) Ready → AreSlotted after new.told.state.stood.slots
    taken-slotted n =
        let told : new.told.state.stood.slots ≡ with_polled IsClosed k slots = ap (λ (s : Stood). s.slots) n.stood in
        rw told
        (slotted-change sent after slots (with_polled IsClosed k slots) i first k next refl (λ r. record r { outcome = IsClosed }) refl
        (λ j e. rw items (find-without j k sent.items e))
        (none-after ∙ sym (polled-there IsClosed (λ e. absurd (cc)) (find k slots.results)))
        (λ r found is. absurd (cc)))

    -- or gives it up
    pub unslotted : Noted by old new (Slots (SlotGiveUp k)) Done → find k new.told.state.stood.slots.results ≡ None → AreSlotted after new.told.state.stood.slots
    unslotted n none =
        let told : new.told.state.stood.slots ≡ without_slot k slots = ap (λ (s : Stood). s.slots) n.stood in
        let left : find k (without k slots.results) ≡ None = rw told at none in
        rw told
        (slotted-one sent after slots (without_slot k slots) i first k (next ∙ i.next)
        (λ j e. find-without j k slots.results e)
        (λ j e. rw items (find-without j k sent.items e))
        (none-after ∙ sym (ap is_there left))
        (λ r found is. let bad : None ≡ Some r = sym left ∙ found in absurd (cc)))

    -- or the wait is aborted
    pub aborted-slotted : Noted by old new (Slots (AbortWait k)) Done → AreSlotted after new.told.state.stood.slots
    aborted-slotted n =
        let told : new.told.state.stood.slots ≡ with_wait_aborted k slots = ap (λ (s : Stood). s.slots) n.stood in
        rw told
        (slotted-change sent after slots (with_wait_aborted k slots) i first k next refl aborted refl
        (λ j e. rw items (find-without j k sent.items e))
        (none-after ∙ sym (aborted-there (find k slots.results)))
        (λ r found is. absurd (cc)))

pub both-of : (a b : Bool) → (a && b) ≡ true → (a ≡ true) × (b ≡ true)
both-of true b h = (refl, h)
both-of false b h = cc

-- what is held for a slot was sent into it
pub held-there : {V : Type 0} (sent : Roomed (ℕ × V)) (slots : Slotted) → AreSlotted sent slots → (k : ℕ) (v : V) → find k sent.items ≡ Some v → is_there (find k slots.results) ≡ true
unfolding AreSent
held-there sent slots i k v found = sym (i.held k) ∙ some-of (find k sent.items) v found
  where
    some-of : {V : Type 0} (o : Option V) (v : V) → o ≡ Some v → is_some o ≡ true
    some-of None v h = cc
    some-of (Some w) v h = refl

pub held-none : {V : Type 0} (sent : Roomed (ℕ × V)) (slots : Slotted) → AreSlotted sent slots → (k : ℕ) → find k sent.items ≡ None → is_there (find k slots.results) ≡ false
unfolding AreSent
held-none sent slots i k none = sym (i.held k) ∙ none-held (find k sent.items) none

-- nothing is held for a slot that is open
pub open-unsent : {V : Type 0} (sent : Roomed (ℕ × V)) (slots : Slotted) → AreSlotted sent slots → (k : ℕ) → is_open (find k slots.results) ≡ true → find k sent.items ≡ None
unfolding AreSent
open-unsent sent slots i k open_ = none-of (find k sent.items) (i.held k ∙ open-there (find k slots.results) open_)
  where
    none-of : {V : Type 0} → (o : Option V) → is_some o ≡ false → o ≡ None
    none-of None h = refl
    none-of (Some v) h = cc

    open-there : (found : Option TaskResult) → is_open found ≡ true → is_there found ≡ false
    open-there None open_ = cc
    open-there (Some r) open_ = by r.outcome open_
      where
        by : (outcome : Outcome) → is_open (Some (record { outcome = outcome; aborted = r.aborted })) ≡ true → is_sent (record { outcome = outcome; aborted = r.aborted }) ≡ false
        by (Open waits) open_ = refl
        by There open_ = cc
        by Exited open_ = cc
        by IsClosed open_ = cc

-- a slot that is closed, or was before
pub slot-closed : {V : Type 0} (sent : Roomed (ℕ × V)) (by : Option ℕ) (old new : Seen) → AreSlotted sent old.told.state.stood.slots → (k : ℕ) → Spent by old new (Slots (SlotClose k)) → AreSlotted sent new.told.state.stood.slots
slot-closed sent by old new i k spent = with (has_place old.told.state.stood (Slots (SlotClose k))) refl
  where
    with : (b : Bool) → has_place old.told.state.stood (Slots (SlotClose k)) ≡ b → AreSlotted sent new.told.state.stood.slots
    with true e = closed-slot sent sent by old new i k (spent.there e)
    with false e = rw (spent.gone e) i

-- a result that is sent where it isn't taken
pub slot-dropped : {V : Type 0} (sent : Roomed (ℕ × V)) (by : Option ℕ) (old new : Seen) → AreSlotted sent old.told.state.stood.slots → (k : ℕ) → Spent by old new (Slots (SlotSend k)) → (is_some (find k old.told.state.stood.slots.senders) && is_open (find k old.told.state.stood.slots.results)) ≡ false → AreSlotted sent new.told.state.stood.slots
slot-dropped sent by old new i k spent takes = with (has_place old.told.state.stood (Slots (SlotSend k))) refl
  where
    shut : (a b : Bool) → a ≡ true → (a && b) ≡ false → b ≡ false
    shut true b a t = t
    shut false b a t = cc

    with : (b : Bool) → has_place old.told.state.stood (Slots (SlotSend k)) ≡ b → AreSlotted sent new.told.state.stood.slots
    with true e = dropped-slotted sent sent by old new i k (spent.there e) (shut (is_some (find k old.told.state.stood.slots.senders)) (is_open (find k old.told.state.stood.slots.results)) e takes)
    with false e = rw (spent.gone e) i

-- a cleanup begins
closed-slots : (t : Told) (ended : Bool) → (pushed_all t (cleanup_by ended)).state.stood.slots ≡ t.state.stood.slots
unfolding after
closed-slots t true = refl
closed-slots t false = refl

pub closed-slotted : {V : Type 0} (sent : Roomed (ℕ × V)) (old new : Seen) → new.told ≡ pushed_all old.told (cleanup_entries old.told.state.stood.nodes) → AreSlotted sent old.told.state.stood.slots → AreSlotted sent new.told.state.stood.slots
closed-slotted sent old new e i = let same = closed-slots old.told (is_ended old.told.state.stood.nodes 0) in rw (e, same) i

pub ruleset slotted_laws = (held-none, slotted-none, slotted-refused, child-slotted, wake-slotted, abort-task-slotted, sleep-slotted, abort-slotted, close-slotted)
