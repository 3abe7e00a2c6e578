-- A part that lacked memory leaves the states of the other tasks as they were, but for those that it spawned, and so does each end.
use Rattle.rt_laws.proofs.Prelude.{◌≡◌, ◌≢◌, inl, inr, ℕ, List, [], ◌∷◌, ◌++◌, refl, ap, ◌∙◌, arith, All, Result, Bool, true, false, if◌then◌else◌, AllByRecursion, recursion_from_All, cases_Bool, NoMemory, Ended, Call, Spawn, Join, GiveUp, Slots, SlotSend, SlotPoll, SlotGiveUp, AbortWait, CallReply, Done, TaskAt, Answer, find, without, State, Stood, Turn, Error, Slotted, is_open, counted, Ask, Spawning, Sending, with_sent, Held, call_of, heard_of, moved, moved_by, freed_by, FreesOne, Frees, has_place, Step, Does, Spends, Counts, Gives, Gave, Goes, Walks, Fronts, Stops, Breaks, stood_before, gave-end, Steps, Value, Moves, taken, Spawns}
use Rattle.rt_audit.specs.declared.reply.CallReply.TheVariants.{Ready}
use Rattle.rt_model.specs.Turns.{with_task}

find-without : {A : Type 0} → (task other : ℕ) (xs : List (ℕ × A)) → other ≢ task → find other (without task xs) ≡ find other xs
find-without task other [] n = refl
find-without task other (x ∷ xs) n = grind (arith, find-without task other xs n)

find-with : {A : Type 0} → (task other : ℕ) (a : A) (xs : List (ℕ × A)) → other ≢ task → find other (with_task task a xs) ≡ find other xs
find-with task other a [] n = grind arith
find-with task other a (x ∷ xs) n = grind (arith, find-with task other a xs n)

abbrev SpawnsOthers : ℕ → Turn → Type 0
SpawnsOthers other t = Spawns other t → ⊥

-- what a call moves, but the state of a task that it spawned
module _ {A O : Type 0} (other : ℕ) where
  abbrev Same : Held A O → Held A O → Type 0
  Same held end = find other end.tasks ≡ find other held.tasks

  freed-same : (held : Held A O) (call : Call) (reply : CallReply) → Same held (freed_by held call reply)
  freed-same held (Join task) Ready = refl
  freed-same held (GiveUp task) Done = refl
  freed-same held (Slots (SlotPoll slot)) Ready = refl
  freed-same held (Slots (SlotGiveUp slot)) Done = refl
  freed-same held (Slots (AbortWait slot)) Done = refl
  freed-same held _ _ = refl

  put-same : (held : Held A O) (task number : ℕ) (a : A) → (((told : ℕ) × (TaskAt task number ≡ TaskAt other told)) → ⊥) → find other (with_task task a held.tasks) ≡ find other held.tasks
  put-same held task number a n = find-with task other a held.tasks (λ e. n (number, rw e refl))

  sent-same : (slots : Slotted) (slot : ℕ) (sent : Result O Error) (held : Held A O) → Same held (with_sent slots slot sent held)
  sent-same slots slot sent held = by (is_open (find slot slots.results))
    where
      by : (b : Bool) → find other (if b then record held { sent = with_task slot sent held.sent } else held).tasks ≡ find other held.tasks
      by true = refl
      by false = refl

  moved-same : (stood : Stood) (held : Held A O) (ask : Ask A O) (call : Call) (reply : CallReply) → (((told : ℕ) × (reply ≡ TaskAt other told)) → ⊥) → Same held (moved_by stood held ask call reply)
  moved-same stood held (Spawning node execution made) call (TaskAt task number) n = put-same held task number (made number) n
  moved-same stood held (Sending slot sent) call Done n = sent-same stood.slots slot sent held
  moved-same stood held ask call reply n = freed-same held call reply

  frees-one : (stood : Stood) (held : Held A O) (call : Call) (reply : CallReply) (end : Held A O) → (((told : ℕ) × (reply ≡ TaskAt other told)) → ⊥) → FreesOne stood held call reply end → Same held end
  frees-one stood held (Spawn node) (TaskAt task number) end n f = ap (λ (x : Held A O). find other x.tasks) f.2 ∙ put-same held task number f.1 n
  frees-one stood held (Slots (SlotSend slot)) Done end n f = ap (λ (x : Held A O). find other x.tasks) f.1 ∙ sent-same stood.slots slot f.0 held
  frees-one stood held call reply end n f = ap (λ (x : Held A O). find other x.tasks) f ∙ freed-same held call reply

  frees-same : (held : Held A O) (turns : List Turn) (end : Held A O) → AllByRecursion (SpawnsOthers other) turns → Frees held turns end → Same held end
  frees-same held [] end n f = ap (λ (x : Held A O). find other x.tasks) f.1
  frees-same held (t ∷ turns) end n f = frees-same f.1 turns end n.1 f.3 ∙ frees-one t.stood (record held { counts = f.0 }) t.call t.reply f.1 n.0 f.2

-- and so of a walk, and of a front of one
module _ {A L O R : Type 0} (other : ℕ) (end : Held A O) where
  gave-keeps : (stood : Stood) (answer : R) (left : L) (held : Held A O) (step : Step A L O R) → Gave stood held step answer left end → Same other held end
  gave-keeps stood answer left held step g = ap (λ (x : Held A O). find other x.tasks) (gave-end stood answer left end held step g).1

  goes-keeps : (more : Held A O → Step A L O R → Type 0) → ((held : Held A O) (step : Step A L O R) → more held step → Same other held end) → (held : Held A O) (step : Step A L O R) (t : Turn) → SpawnsOthers other t → Goes more held step t → Same other held end
  goes-keeps more on held (Does ask step) t n h = on (moved held ask t) (step (heard_of held t)) h.1 ∙ moved-same other t.stood held ask t.call t.reply n
  goes-keeps more on held (Spends ask next) t n h = elim (cases_Bool (has_place t.stood (call_of ask))) [
    | inl there ↦ on (moved held ask t) next (h.0 there).2 ∙ moved-same other t.stood held ask t.call t.reply n
    | inr gone ↦ goes-keeps more on held next t n (h.1 gone)
  ]
  goes-keeps more on held (Counts change next) t n h = goes-keeps more on (counted change held) next t n h
  goes-keeps more on held (Gives given state) t n h = absurd h

  walks-keep : (stood : Stood) (answer : R) (left : L) (turns : List Turn) (held : Held A O) (step : Step A L O R) → AllByRecursion (SpawnsOthers other) turns → Walks step held turns stood answer left end → Same other held end
  walks-keep stood answer left [] held step n h = gave-keeps stood answer left held step h
  walks-keep stood answer left (t ∷ turns) held step n h = goes-keeps (λ held step. Walks step held turns stood answer left end) (λ held step h. walks-keep stood answer left turns held step n.1 h) held step t n.0 h

  fronts-keep : (turns : List Turn) (held : Held A O) (step : Step A L O R) → AllByRecursion (SpawnsOthers other) turns → Fronts step held turns end → Same other held end
  fronts-keep [] held step n h = ap (λ (x : Held A O). find other x.tasks) h.1
  fronts-keep (t ∷ turns) held step n h = goes-keeps (λ held step. Fronts step held turns end) (λ held step h. fronts-keep turns held step n.1 h) held step t n.0 h

  stops-keep : (stood : Stood) (turns : List Turn) (held : Held A O) (step : Step A L O R) → AllByRecursion (SpawnsOthers other) turns → Stops step held turns stood end → Same other held end
  stops-keep stood [] held step n h = ap (λ (x : Held A O). find other x.tasks) h.1.1
  stops-keep stood (t ∷ turns) held step n h = goes-keeps (λ held step. Stops step held turns stood end) (λ held step h. stops-keep stood turns held step n.1 h) held step t n.0 h

all-append : {X : Type 0} (P : X → Type 0) (xs ys : List X) → AllByRecursion P (xs ++ ys) → AllByRecursion P xs × AllByRecursion P ys
all-append P [] ys h = (tt, h)
all-append P (x ∷ xs) ys h = let k = all-append P xs ys h.1 in ((h.0, k.0), k.1)

-- and of a part that lacked memory
breaks-keep : {A L O R : Type 0} (other : ℕ) (step : Step A L O R) (held : Held A O) (turns : List Turn) (stood : Stood) (end : Held A O) → AllByRecursion (SpawnsOthers other) turns → Breaks step held turns stood end → Same other held end
breaks-keep other step held turns stood end n k =
    let all = all-append (SpawnsOthers other) k.front k.rest (rw k.are at n) in
    frees-same other k.mid k.rest end all.1 k.frees ∙ stops-keep other k.mid (stood_before k.rest stood) k.front held step all.0 k.walks

module _ (A O : Type 0) (p : Steps A O) (s : State) (v w : Value A O) (task : ℕ) where
  abbrev SpawnsNone : ℕ → Type 0
  SpawnsNone other = All (λ (t : Turn). Spawns other t → ⊥) s.turns

  pub poll_keeps : (other : ℕ) → Moves p s v (Answer task NoMemory) w → other ≢ task → SpawnsNone other → find other w.held.tasks ≡ find other v.held.tasks
  poll_keeps other h n spawns =
      let all = recursion_from_All (λ (t : Turn). Spawns other t → ⊥) s.turns spawns in
      let step = p.task.next h.before s.clock.time task in
      let kept : find other h.moved.tasks ≡ find other (taken task v.held).tasks = elim h.breaks [
        | inl k ↦ breaks-keep other step (taken task v.held) s.turns s.stood h.moved all k
        | inr k ↦ fronts-keep other h.moved s.turns (taken task v.held) step all k
      ] in
      ap (λ (x : Value A O). find other x.held.tasks) h.is ∙ find-with task other h.left h.moved.tasks n ∙ kept ∙ find-without task other v.held.tasks n

  pub end_keeps : (other : ℕ) → Moves p s v (Answer task Ended) w → other ≢ task → SpawnsNone other → find other w.held.tasks ≡ find other v.held.tasks
  end_keeps other h n spawns =
      let all = recursion_from_All (λ (t : Turn). Spawns other t → ⊥) s.turns spawns in
      let step = p.task.last h.0 s.clock.time task in
      let kept : find other w.held.tasks ≡ find other (taken task v.held).tasks = elim h.2 [
        | inl k ↦ walks-keep other w.held s.stood tt tt s.turns (taken task v.held) step all k.0
        | inr k ↦ breaks-keep other step (taken task v.held) s.turns s.stood w.held all k.0
      ] in
      kept ∙ find-without task other v.held.tasks n
