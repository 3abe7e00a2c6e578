-- Who is seated behind a call, by what the machine says of it.
use Rattle.rt_world.proofs.Prelude.{◌≡◌, inl, inr, ◌+◌, ◌-◌, ◌^◌, leb, not, ◌∙◌, sym, ap, ℕ, List, [], ◌∷◌, ◌++◌, refl, Bool, true, false, Option, Some, None, Result, Ok, Err, IfOk, IfErr, OnOk, OnErr, Error, UnknownToken, TooManyTasks, OutOfMemory, Execution, Call, Child, CloseNode, Spawn, Abort, AbortTask, Wake, Join, GiveUp, SleepPoll, Slots, Slot, SlotPoll, CallReply, Done, NodeAt, TaskAt, SlotAt, Pending, PendingAt, Ready, Refused, Outcome, Open, There, Exited, IsClosed, TaskResult, find, without, has_number, replaced, new_result, may_abort, with_outcome, State, Stood, Phase, Ending, numbers_called, running_called, results_called, Answers, CallsAt, JoinAnswers, OutcomeAnswers, SpawnAnswers, Unless, is_free, Ask, Heard, Plainly, Spawning, Plain, Handed, unsent, with_task, Held, call_of, moved_by, has_place, Noted, Shown, Spent, IsRefused, lacking, sleep_reply, Seen, Roomed, OutRuns, AreSeated, AreThere, AreOpen, IsComing, World, Made, IsUnsent, WorldRefused, Called, child_told}
use Rattle.rt_world.specs.Calls.{spawned_reply}
use Rattle.rt_world.specs.declared.spawning.Spawned.{Spawned}
use Rattle.rt_world.proofs.Walked.{called-lacking, child-called, join-called, spawn-called, slot-called, receive-called}
use Rattle.rt_world.proofs.Coming.{there-abort, there-open, there-given-up, there-taken, coming-changed, coming-given-up, coming-taken, there-spawned, coming-spawned, open-changed, open-given-up, open-spawned}
use Rattle.rt_world.proofs.Seats.{numbers-with, seated-more, rising-more, rising-has, runs-more}

module _ {A O : Type 0} (tasks : Roomed (ℕ × A)) (outputs : Roomed (ℕ × O)) (out : Option ℕ) where
  seated-as : (s t : State) → t.running ≡ s.running → t.numbers ≡ s.numbers → AreThere t.stood.results outputs.items → IsComing t.phase t.stood.results outputs.items → AreOpen s.running t.stood.results → AreSeated tasks outputs out s → AreSeated tasks outputs out t
  seated-as s t running numbers there coming unset i = record {
    numbers = rw running i.numbers;
    rising = rw running i.rising;
    runs = rw running i.runs;
    next = rw numbers i.next;
    first = i.first;
    last = i.last;
    there = there;
    coming = coming;
    unset = rw running unset;
  }

  module _ (by : Option ℕ) (old new : Seen) (i : AreSeated tasks outputs out old.told.state) where
    -- a call that moves no task and no result
    pub seated-quiet : (call : Call) (reply : CallReply) → Noted by old new call reply → running_called old.told.state.running call reply ≡ old.told.state.running → numbers_called old.told.state.numbers call reply ≡ old.told.state.numbers → results_called old.told.state.stood.results by call reply ≡ old.told.state.stood.results → AreSeated tasks outputs out new.told.state
    seated-quiet call reply n running numbers results =
        let same : new.told.state.stood.results ≡ old.told.state.stood.results = ap (λ (s : Stood). s.results) n.stood ∙ results in
        seated-as old.told.state new.told.state (n.running ∙ running) (n.numbers ∙ numbers) (rw same i.there) (rw (n.phase, same) i.coming) (rw same i.unset) i

    seated-lacking : new ≡ lacking old → AreSeated tasks outputs out new.told.state
    seated-lacking e = rw e i

    quiet-refused : (call : Call) (e : Error) → (running_called old.told.state.running call (Refused e) ≡ old.told.state.running) × (numbers_called old.told.state.numbers call (Refused e) ≡ old.told.state.numbers) × (results_called old.told.state.stood.results by call (Refused e) ≡ old.told.state.stood.results)
    quiet-refused (Child node label) e = (refl, refl, refl)
    quiet-refused _ e = (refl, refl, refl)

    seated-refused : (call : Call) (e : Error) → IsRefused by old new call e → AreSeated tasks outputs out new.told.state
    seated-refused call e (inl lack) = seated-lacking lack.1
    seated-refused call e (inr n) = let q = quiet-refused call e in seated-quiet call (Refused e) n q.0 q.1 q.2

    pub child-seated : (node : ℕ) (label : List ℕ) (result : Result (ℕ × Bool) Error) → IfOk result (λ made. Noted by old new (Child node label) (NodeAt made.0 made.1)) → IfErr result (λ e. IsRefused by old new (Child node label) e) → AreSeated tasks outputs out new.told.state
    child-seated node label (Ok made) n r = seated-quiet (Child node label) (NodeAt made.0 made.1) n refl refl refl
    child-seated node label (Err e) n r = seated-refused (Child node label) e r

    pub wake-seated : (task : ℕ) (result : Result (Unit {0}) Error) → OnOk result (Noted by old new (Wake task) Done) → IfErr result (λ e. IsRefused by old new (Wake task) e) → AreSeated tasks outputs out new.told.state
    wake-seated task (Ok done) n r = seated-quiet (Wake task) Done n refl refl refl
    wake-seated task (Err e) n r = seated-refused (Wake task) e r

    pub abort-task-seated : (task : ℕ) (result : Result (Unit {0}) Error) → OnOk result (Noted by old new (AbortTask task) Done) → IfErr result (λ e. IsRefused by old new (AbortTask task) e) → AreSeated tasks outputs out new.told.state
    abort-task-seated task (Ok done) n r = seated-quiet (AbortTask task) Done n refl refl refl
    abort-task-seated task (Err e) n r = seated-refused (AbortTask task) e r

    quiet-sleep : (due : ℕ) (told : Option ℕ) → Noted by old new (SleepPoll due) (sleep_reply told) → AreSeated tasks outputs out new.told.state
    quiet-sleep due None n = seated-quiet (SleepPoll due) Ready n refl refl refl
    quiet-sleep due (Some alarm) n = seated-quiet (SleepPoll due) (PendingAt alarm) n refl refl refl

    pub sleep-seated : (due : ℕ) (result : Result (Option ℕ) OutOfMemory) → IfOk result (λ told. Noted by old new (SleepPoll due) (sleep_reply told)) → OnErr result (new ≡ lacking old) → AreSeated tasks outputs out new.told.state
    sleep-seated due (Ok told) n e = quiet-sleep due told n
    sleep-seated due (Err lack) n e = seated-lacking e

  module _ (by : Option ℕ) (old new : Seen) (i : AreSeated tasks outputs out old.told.state) where
    -- a call that changes a result, and leaves none there that wasn't
    seated-changed : (call : Call) (reply : CallReply) (change : TaskResult → TaskResult) (k : ℕ) → Noted by old new call reply → running_called old.told.state.running call reply ≡ old.told.state.running → numbers_called old.told.state.numbers call reply ≡ old.told.state.numbers → results_called old.told.state.stood.results by call reply ≡ replaced change k old.told.state.stood.results → ((x : TaskResult) → (change x).outcome ≡ There → x.outcome ≡ There) → AreThere (replaced change k old.told.state.stood.results) outputs.items → AreSeated tasks outputs out new.told.state
    seated-changed call reply change k n running numbers results stays there =
        let same : new.told.state.stood.results ≡ replaced change k old.told.state.stood.results = ap (λ (s : Stood). s.results) n.stood ∙ results in
        seated-as old.told.state new.told.state (n.running ∙ running) (n.numbers ∙ numbers) (rw same there) (rw (n.phase, same) (coming-changed old.told.state.phase old.told.state.stood.results outputs.items i.coming change k)) (rw same (open-changed old.told.state.running old.told.state.stood.results i.unset change k stays)) i

    pub abort-seated : (task : ℕ) → Spent by old new (Abort task) → AreSeated tasks outputs out new.told.state
    abort-seated task spent = with (may_abort (find task old.told.state.stood.results)) refl
      where
        with : (b : Bool) → may_abort (find task old.told.state.stood.results) ≡ b → AreSeated tasks outputs out new.told.state
        with true e = seated-changed (Abort task) Done (λ r. record r { aborted = true }) task (spent.there e) refl refl refl (λ x t. t) (there-abort old.told.state.stood.results outputs.items i.there task)
        with false e = rw (spent.gone e) i

    -- a call that spends a token and moves no task and no result
    pub spent-seated : (call : Call) → running_called old.told.state.running call Done ≡ old.told.state.running → numbers_called old.told.state.numbers call Done ≡ old.told.state.numbers → results_called old.told.state.stood.results by call Done ≡ old.told.state.stood.results → Spent by old new call → AreSeated tasks outputs out new.told.state
    spent-seated call running numbers results spent = with (has_place old.told.state.stood call) refl
      where
        with : (b : Bool) → has_place old.told.state.stood call ≡ b → AreSeated tasks outputs out new.told.state
        with true e = seated-quiet by old new i call Done (spent.there e) running numbers results
        with false e = rw (spent.gone e) i

    pub close-seated : (node : ℕ) → Spent by old new (CloseNode node) → AreSeated tasks outputs out new.told.state
    close-seated node spent = spent-seated (CloseNode node) refl refl refl spent

    pub pending-seated : (task : ℕ) → Noted by old new (Join task) Pending → AreSeated tasks outputs out new.told.state
    pending-seated task n = seated-changed (Join task) Pending (λ r. record r { outcome = Open by }) task n refl refl refl (λ x t. cc) (there-open old.told.state.stood.results outputs.items i.there by task)

    pub refused-seated : (call : Call) (e : Error) → IsRefused by old new call e → AreSeated tasks outputs out new.told.state
    refused-seated call e r = seated-refused by old new i call e r

-- a result that is ready is there
pub ready-there : (o : Option TaskResult) → JoinAnswers o Ready → (r : TaskResult) × (o ≡ Some r) × (r.outcome ≡ There)
ready-there None a = absurd a
ready-there (Some r) a = (r, refl, by r.outcome a)
  where
    by : (o : Outcome) → OutcomeAnswers o Ready → o ≡ There
    by (Open waits) a = cc
    by There a = refl
    by Exited a = absurd a
    by IsClosed a = absurd a

-- a task that ends in its visit runs, where it is out
pub ending-runs : (phase : Phase) (root next out : Option ℕ) (running : List ℕ) → CallsAt phase root next out → OutRuns out running → (j : ℕ) (left : List ℕ) → phase ≡ Ending j (Some There) left → has_number j running ≡ true
ending-runs phase root next out running calls runs j left e =
    let by : out ≡ Some j = rw e at calls in
    rw by at runs

module _ {A O : Type 0} (tasks : Roomed (ℕ × A)) (outputs after : Roomed (ℕ × O)) (out by : Option ℕ) (old new : Seen) (i : AreSeated tasks outputs out old.told.state) (first : after.first ≡ outputs.first) (next : after.next ≡ outputs.next) where
  with-after : AreThere new.told.state.stood.results after.items → IsComing new.told.state.phase new.told.state.stood.results after.items → AreOpen old.told.state.running new.told.state.stood.results → new.told.state.running ≡ old.told.state.running → new.told.state.numbers ≡ old.told.state.numbers → AreSeated tasks after out new.told.state
  with-after there coming unset running numbers = record {
    numbers = rw running i.numbers;
    rising = rw running i.rising;
    runs = rw running i.runs;
    next = rw numbers i.next;
    first = first ∙ i.first;
    last = next ∙ i.last;
    there = there;
    coming = coming;
    unset = rw running unset;
  }

  -- a result that is taken
  pub ready-seated : (task : ℕ) (r : TaskResult) → after.items ≡ without task outputs.items → Noted by old new (Join task) Ready → find task old.told.state.stood.results ≡ Some r → r.outcome ≡ There → ((j : ℕ) (left : List ℕ) → old.told.state.phase ≡ Ending j (Some There) left → has_number j old.told.state.running ≡ true) → AreSeated tasks after out new.told.state
  ready-seated task r items n found there runs =
      let rs = old.told.state.stood.results in
      let same : new.told.state.stood.results ≡ with_outcome IsClosed task rs = ap (λ (s : Stood). s.results) n.stood in
      with-after (rw (same, items) (there-taken rs outputs.items i.there task))
      (rw (n.phase, same, items) (coming-taken old.told.state.phase rs outputs.items i.coming task r old.told.state.running i.unset found there runs))
      (rw same (open-changed old.told.state.running rs i.unset (λ x. record x { outcome = IsClosed }) task (λ x t. cc))) n.running n.numbers

  -- a result that is given up
  pub given-up-seated : (task : ℕ) → after.items ≡ without task outputs.items → Noted by old new (GiveUp task) Done → find task new.told.state.stood.results ≡ None → AreSeated tasks after out new.told.state
  given-up-seated task items n gone =
      let rs = old.told.state.stood.results in
      let same : new.told.state.stood.results ≡ without task rs = ap (λ (s : Stood). s.results) n.stood in
      let none : find task (without task rs) ≡ None = rw same at gone in
      with-after (rw (same, items) (there-given-up rs outputs.items i.there task none))
      (rw (n.phase, same, items) (coming-given-up old.told.state.phase rs outputs.items i.coming task none))
      (rw same (open-given-up old.told.state.running rs i.unset task none)) n.running n.numbers

unless-not : (b : Bool) (e : Error) (more : CallReply → Type 0) (task node : ℕ) → Unless b e more (TaskAt task node) → more (TaskAt task node)
unless-not true e more task node a = absurd a
unless-not false e more task node a = a

-- a task that is spawned gets the next number
pub spawns-next : (s : State) (node task number : ℕ) → Answers s (Spawn node) (TaskAt task number) → task ≡ s.numbers.next
spawns-next s node task number a =
    let full = leb (2 ^ 64 - 1) s.numbers.next in
    let free = unless-not (not (is_free s.stood.nodes node)) UnknownToken (λ reply. Unless full TooManyTasks (SpawnAnswers s node) reply) task number a in
    (unless-not full TooManyTasks (SpawnAnswers s node) task number free).0

-- a task that was spawned
pub spawned-seated : {A O : Type 0} (tasks more : Roomed (ℕ × A)) (outputs after : Roomed (ℕ × O)) (out : Option ℕ) (old new : Seen) (node number : ℕ) (state : A) → AreSeated tasks outputs out old.told.state → Noted out old new (Spawn node) (TaskAt tasks.next number) → more.items ≡ with_task tasks.next state tasks.items → more.first ≡ tasks.first → more.next ≡ tasks.next + 1 → after.items ≡ outputs.items → after.first ≡ outputs.first → after.next ≡ outputs.next + 1 → find tasks.next old.told.state.stood.results ≡ None → ((j : ℕ) (left : List ℕ) → old.told.state.phase ≡ Ending j (Some There) left → has_number j old.told.state.running ≡ true) → AreSeated more after out new.told.state
spawned-seated tasks more outputs after out old new node number state i n items first next same_items same_first same_next fresh runs =
    let s = old.told.state in
    let k = tasks.next in
    let results : new.told.state.stood.results ≡ s.stood.results ++ (k, new_result) ∷ [] = ap (λ (x : Stood). x.results) n.stood in
    record {
      numbers = rw (items, n.running, numbers-with k state tasks.items, i.numbers) (sym (seated-more tasks.first k out s.running i.rising i.runs));
      rising = rw (first, next, n.running) (rising-more tasks.first k s.running i.rising);
      runs = rw n.running (runs-more k out s.running i.runs);
      next = rw (next, n.numbers) refl;
      first = same_first ∙ i.first ∙ sym first;
      last = rw (same_next, next, i.last) refl;
      there = rw (results, same_items) (there-spawned s.stood.results outputs.items i.there k);
      coming = rw (n.phase, results, same_items) (coming-spawned s.phase s.stood.results outputs.items i.coming k (λ j left e. (rising-has j tasks.first k s.running i.rising (runs j left e)).1));
      unset = rw (n.running, results) (open-spawned s.running s.stood.results i.unset k fresh);
    }

-- what the machine says of a call, said of the world
module _ {A O G : Type 0} (old new : Seen) (held end : Held A O) (panic : Option (List ℕ)) (out : Option ℕ) (rng : G) where
  abbrev before : World A O G
  before = record { told = old.told; lacked = old.lacked; held = held; panic = panic; out = out; rng = rng }

  abbrev behind : World A O G
  behind = record { told = new.told; lacked = new.lacked; held = end; panic = panic; out = out; rng = rng }

  pub made-noted : (ask : Ask A O) (reply : CallReply) → Noted out old new (call_of ask) reply → end ≡ moved_by old.told.state.stood held ask (call_of ask) reply → Made before behind ask reply
  made-noted ask reply n e = record { answers = n.answers; turns = n.turns; held = e; lacked = n.lacked; stood = n.stood; drawn = n.drawn }

  pub child-calls : (node : ℕ) (label : List ℕ) (result : Result (ℕ × Bool) Error) → end ≡ held → IfOk result (λ made. Noted out old new (Child node label) (NodeAt made.0 made.1)) → IfErr result (λ e. IsRefused out old new (Child node label) e) → Called (Plainly (Child node label)) before behind (child_told result)
  child-calls node label (Ok made) e n r = child-called before behind node label (Ok made) (made-noted (Plainly (Child node label)) (NodeAt made.0 made.1) n e) tt
  child-calls node label (Err error) e n r = child-called before behind node label (Err error) tt (refused r)
    where
      refused : IsRefused out old new (Child node label) error → WorldRefused before behind (Plainly (Child node label)) error
      refused (inl lack) = inl (lack.0, rw (lack.1, e) refl)
      refused (inr n) = inr (made-noted (Plainly (Child node label)) (Refused error) n e)

  pub refused-spawn : (node : ℕ) (execution : Execution) (made : ℕ → A) (error : Error) → end ≡ held → IsRefused out old new (Spawn node) error → WorldRefused before behind (Spawning node execution made) error
  refused-spawn node execution made error e (inl lack) = inl (lack.0, rw (lack.1, e) refl)
  refused-spawn node execution made error e (inr n) = inr (made-noted (Spawning node execution made) (Refused error) n e)

  pub refused-calls : {M : Type 0} (node : ℕ) (execution : Execution) (made : ℕ → A) (back : Error × M) → end ≡ held → IsRefused out old new (Spawn node) back.0 → Called (Spawning node execution made) before behind (Plain (Refused back.0))
  refused-calls {M = M} node execution made back e r = let result : Result (Spawned M) (Error × M) = Err back in spawn-called before behind node execution made result tt (refused-spawn node execution made back.0 e r)

  pub spawned-calls : {M : Type 0} (node : ℕ) (execution : Execution) (made : ℕ → A) (spawned : Spawned M) → Made before behind (Spawning node execution made) (spawned_reply spawned) → Called (Spawning node execution made) before behind (Plain (spawned_reply spawned))
  spawned-calls {M = M} node execution made spawned n = let result : Result (Spawned M) (Error × M) = Ok spawned in spawn-called before behind node execution made result n tt

  pub pending-calls : (task : ℕ) → end ≡ held → Noted out old new (Join task) Pending → Called (Plainly (Join task)) before behind (Plain Pending)
  pending-calls task e n = join-called before behind task (Ok None) (made-noted (Plainly (Join task)) Pending n e) tt

  pub ready-calls : (task : ℕ) (value : O) → end ≡ record held { results = without task held.results } → find task held.results ≡ Some value → Noted out old new (Join task) Ready → Called (Plainly (Join task)) before behind (Handed value)
  ready-calls task value e found n = join-called before behind task (Ok (Some value)) (found, made-noted (Plainly (Join task)) Ready n e) tt

  pub lacking-calls : (ask : Ask A O) (heard : Heard O) → end ≡ held → new ≡ lacking old → Called ask before behind heard
  lacking-calls ask heard e lack = called-lacking before behind ask heard (rw (lack, e) refl)

  pub slot-calls : (slot : ℕ) → end ≡ held → Noted out old new (Slots Slot) (SlotAt slot) → Called (Plainly (Slots Slot)) before behind (Plain (SlotAt slot))
  slot-calls slot e n = slot-called before behind (Ok slot) (made-noted (Plainly (Slots Slot)) (SlotAt slot) n e) tt

  pub receive-pending : (slot : ℕ) → end ≡ held → IsUnsent before slot → Noted out old new (Slots (SlotPoll slot)) Pending → Called (Plainly (Slots (SlotPoll slot))) before behind (Plain Pending)
  receive-pending slot e none n = receive-called before behind slot (Ok None) (none, made-noted (Plainly (Slots (SlotPoll slot))) Pending n e) tt

  pub receive-refused : (slot : ℕ) (error : Error) → end ≡ held → IsUnsent before slot → IsRefused out old new (Slots (SlotPoll slot)) error → Called (Plainly (Slots (SlotPoll slot))) before behind (Plain (Refused error))
  receive-refused slot error e none (inl lack) = lacking-calls (Plainly (Slots (SlotPoll slot))) (Plain (Refused error)) e lack.1
  receive-refused slot error e none (inr n) = receive-called before behind slot (Err error) tt (inr (inl none, made-noted (Plainly (Slots (SlotPoll slot))) (Refused error) n e))

  pub receive-shown : (slot : ℕ) (sent answer : Error) → end ≡ held → find slot held.sent ≡ Some (Err sent) → Shown out old new slot sent answer → Called (Plainly (Slots (SlotPoll slot))) before behind (Plain (Refused answer))
  receive-shown slot sent answer e found (inl lack) = lacking-calls (Plainly (Slots (SlotPoll slot))) (Plain (Refused answer)) e lack.1
  receive-shown slot sent answer e found (inr n) = rw n.0 (receive-called before behind slot (Err sent) tt (inr (inr found, made-noted (Plainly (Slots (SlotPoll slot))) (Refused sent) n.1 e)))

  pub receive-value : (slot : ℕ) (value : O) → end ≡ unsent slot held → find slot held.sent ≡ Some (Ok value) → Noted out old new (Slots (SlotPoll slot)) Ready → Called (Plainly (Slots (SlotPoll slot))) before behind (Handed value)
  receive-value slot value e found n = receive-called before behind slot (Ok (Some value)) (found, made-noted (Plainly (Slots (SlotPoll slot))) Ready n e) tt

pub ruleset seated_laws = (abort-seated, close-seated, pending-seated, refused-seated, child-seated, wake-seated, abort-task-seated, sleep-seated)
