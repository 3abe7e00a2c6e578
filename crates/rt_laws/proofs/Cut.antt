-- What is no run that was cut off.
use Rattle.rt_laws.proofs.Prelude.{◌≡◌, ℕ, inl, inr, true, false, List, [], ◌∷◌, ◌++◌, Some, None, refl, rules, arith, take, drop, Ok, IsPermutation-refl, Dedicated, AnswersReady, LacksMemory, Ended, Start, Answered, NodeEnd, Cleanup, CallOf, CloseNode, Spawn, SleepPoll, WakeCall, Slots, SlotSend, CallReply, Done, TaskAt, PendingAt, find, Turn, Stood, begun, after, after_all, Held, put, with_spawned, with_sent, freed_by, FreesOne, has_place, IsLawful, Gives, Stops, stood_before, Value, nothing, taken, IsCutOff, small_begin, ready_root, busy_root, closes_node, opening, visiting_root, root_ends, finishing, silent_end, lacking_journal, invented_in_poll, invented_in_end, called_by_maker, asking_maker, maker_lacks}
use Rattle.rt_audit.specs.declared.finish.FinishCause.TheVariants.{NoMemory}
use Rattle.rt_audit.specs.declared.entry.Entry.TheVariants.{Call}
use Rattle.rt_model.specs.Turns.{with_task}
use Rattle.rt_laws.proofs.Misses.{tied-tail}

-- an end that only spends lacks no memory before it has made its call
no-lack : {A : Type 0} (held : Held A ℕ) (front rest : List Turn) (stood : Stood) (end : Held A ℕ) → [] ≡ front ++ rest → Stops (closes_node {A = A}) held front (stood_before rest stood) end → ⊥
no-lack held [] rest stood end e w = w.0.1
no-lack held (t ∷ front) rest stood end e w = cc

-- what makes no call lacks no memory
no-gives : {A L O R : Type 0} (answer : R) (left : L) (held : Held A O) (front : List Turn) (stood : Stood) (end : Held A O) → Stops (Gives answer left) held front stood end → ⊥
no-gives answer left held [] stood end w = w.0
no-gives answer left held (t ∷ front) stood end w = w

pub not_silent : (number : ℕ) → IsCutOff (ready_root number) small_begin silent_end → ⊥
unfolding begun after
not_silent number r =
    let p = ready_root number in
    let front = opening ++ visiting_root ++ (Answered 0 AnswersReady ∷ Cleanup ∷ NodeEnd 0 ∷ []) in
    let t = tied-tail p (begun small_begin) nothing r.value front (Answered 0 Ended ∷ finishing NoMemory) r.tied in
    elim t.1.1.2 [
      | inl k ↦ (let closed = k.0.0 in absurd (cc))
      | inr k ↦ no-lack _ k.0.front k.0.rest _ k.0.mid k.0.are k.0.walks
    ]

-- and lacks none where another call was made
no-other-lack : {A : Type 0} (held : Held A ℕ) (t : Turn) (front rest : List Turn) (stood : Stood) (end : Held A ℕ) → t ∷ [] ≡ front ++ rest → t.call ≡ WakeCall 0 → has_place t.stood (CloseNode 0) ≡ true → Stops (closes_node {A = A}) held front (stood_before rest stood) end → ⊥
no-other-lack held t [] rest stood end e other there w = w.0.1
no-other-lack held t (u ∷ front) rest stood end e other there w =
    let same : t ≡ u = cc in
    let called = (w.0 (rw (← same) there)).0 in
    absurd (cc)

pub none_in_a_poll : (number : ℕ) (call : CallOf) (reply : CallReply) → IsCutOff (ready_root number) small_begin (invented_in_poll call reply) → ⊥
unfolding begun after
none_in_a_poll number call reply r =
    let p = ready_root number in
    let front = opening ++ visiting_root ++ (Call (Some 0) call reply ∷ []) in
    let rest = Answered 0 LacksMemory ∷ root_ends ++ finishing NoMemory in
    let t = tied-tail p (begun small_begin) nothing r.value front rest r.tied in
    elim t.1.1.breaks [
      | inl k ↦ no-gives _ _ _ k.front _ k.mid k.walks
      | inr k ↦ k
    ]

pub none_in_an_end : (number : ℕ) → IsCutOff (ready_root number) small_begin invented_in_end → ⊥
unfolding begun after
none_in_an_end number r =
    let p = ready_root number in
    let front = opening ++ visiting_root ++ (Answered 0 AnswersReady ∷ Cleanup ∷ NodeEnd 0 ∷ Call (Some 0) (WakeCall 0) Done ∷ []) in
    let t = tied-tail p (begun small_begin) nothing r.value front (Answered 0 Ended ∷ finishing NoMemory) r.tied in
    elim t.1.1.2 [
      | inl k ↦ (let called = (k.0.0 refl).0 in absurd (cc))
      | inr k ↦ no-other-lack _ _ k.0.front k.0.rest _ k.0.mid k.0.are refl refl k.0.walks
    ]

-- what a call moves whose ask isn't known
moves-some : (stood : Stood) (held : Held (Unit {0}) ℕ) (call : CallOf) (reply : CallReply) → (end : Held (Unit {0}) ℕ) × FreesOne stood held call reply end
moves-some stood held (Spawn node) (TaskAt task number) = (with_spawned task Dedicated tt held, (Dedicated, tt, refl))
moves-some stood held (Slots (SlotSend slot)) Done = (with_sent stood.slots slot (Ok 0) held, (Ok 0, refl))
moves-some stood held call reply = (freed_by held call reply, refl)

puts : (k : ℕ) (xs : List (ℕ × Unit {0})) → find k (with_task k tt xs) ≡ Some tt
puts k [] = grind arith
puts k (x ∷ xs) = grind (arith, puts k xs)

-- the busy root lacks memory behind its first sleep, and in its end
pub lacks_within : (call : CallOf) (reply : CallReply) → IsLawful (begun small_begin) (lacking_journal call reply) → IsCutOff busy_root small_begin (lacking_journal call reply)
unfolding begun after
lacks_within call reply lawful =
    let v : Value (Unit {0}) ℕ = record nothing { held = put 0 tt nothing.held } in
    let before = after_all (begun small_begin) (opening ++ visiting_root ++ (Call (Some 0) (SleepPoll 5) (PendingAt 0) ∷ [])) in
    let m = moves-some before.stood nothing.held call reply in
    let w : Value (Unit {0}) ℕ = record v { held = put 0 tt m.0; whole = false } in
    let end : Value (Unit {0}) ℕ = record w { held = taken 0 w.held } in
    let asked = after_all (begun small_begin) (opening ++ visiting_root ++ (Call (Some 0) (SleepPoll 5) (PendingAt 0) ∷ Call (Some 0) call reply ∷ [])) in
    record {
      value = end;
      lawful = lawful;
      ends = refl;
      tied = (
        nothing,
        refl,
        (
          v,
          (tt, nothing.held, (refl, refl, refl), refl),
          (
            v,
            (refl, refl),
            (
              v,
              (refl, refl),
              (
                v,
                refl,
                (
                  v,
                  refl,
                  (
                    v,
                    refl,
                    (
                      w,
                      record { before = tt; left = tt; there = refl; moved = m.0; breaks = inl (record { front = take 1 asked.turns; rest = drop 1 asked.turns; mid = nothing.held; are = refl; walks = ((refl, refl), (tt, ([], refl))); frees = ([], m.0, m.1, (m.0.counts, refl)) }); is = refl },
                      (w, refl, (w, refl, (end, (tt, puts 0 m.0.tasks, inr (record { front = []; rest = []; mid = end.held; are = refl; walks = (tt, (end.held.counts, refl)); frees = (end.held.counts, refl) }, refl)), (end, (refl, refl), (end, refl, refl))))),
                    ),
                  ),
                ),
              ),
            ),
          ),
        ),
      );
    }

pub lacks_lawfully : IsLawful (begun small_begin) (lacking_journal (CloseNode 0) Done)
unfolding begun after
lacks_lawfully = search (rules, IsPermutation-refl)

-- a maker that makes no call
pub none_by_the_maker : (number : ℕ) (call : CallOf) (reply : CallReply) → IsCutOff (ready_root number) small_begin (called_by_maker call reply) → ⊥
unfolding begun after
none_by_the_maker number call reply r =
    let p = ready_root number in
    let front = Start 0 0 None 1000000 ∷ Call None call reply ∷ [] in
    let rest = Cleanup ∷ NodeEnd 0 ∷ finishing NoMemory in
    let t = tied-tail p (begun small_begin) nothing r.value front rest r.tied in
    elim t.1.1 [
      | inl k ↦ k.1
      | inr k ↦ elim k [
        | inl j ↦ no-gives _ _ _ j.0.front _ j.0.mid j.0.walks
        | inr j ↦ j.0
      ]
    ]

-- and one that lacks memory at its first
pub lacks_in_maker : (call : CallOf) (reply : CallReply) → IsLawful (begun small_begin) (called_by_maker call reply) → IsCutOff asking_maker small_begin (called_by_maker call reply)
unfolding begun after
lacks_in_maker call reply lawful =
    let before = after_all (begun small_begin) (Start 0 0 None 1000000 ∷ []) in
    let m = moves-some before.stood nothing.held call reply in
    let w : Value (Unit {0}) ℕ = record nothing { held = m.0; whole = false } in
    let asked = after_all (begun small_begin) (Start 0 0 None 1000000 ∷ Call None call reply ∷ []) in
    record {
      value = w;
      lawful = lawful;
      ends = refl;
      tied = (
        nothing,
        refl,
        (
          nothing,
          refl,
          (
            w,
            inr (inl (record { front = []; rest = asked.turns; mid = nothing.held; are = refl; walks = (tt, ([], refl)); frees = ([], m.0, m.1, (m.0.counts, refl)) }, refl)),
            (w, refl, (w, (refl, refl), (w, refl, refl))),
          ),
        ),
      );
    }

pub called_lawfully : IsLawful (begun small_begin) (called_by_maker (CloseNode 0) Done)
unfolding begun after
called_lawfully = search rules

-- and one that makes none
pub lacks_without_call : IsCutOff asking_maker small_begin maker_lacks
unfolding begun after
lacks_without_call =
    let w : Value (Unit {0}) ℕ = record nothing { whole = false } in
    record {
      value = w;
      lawful = search rules;
      ends = refl;
      tied = (
        nothing,
        refl,
        (
          w,
          inr (inl (record { front = []; rest = []; mid = nothing.held; are = refl; walks = (tt, ([], refl)); frees = ([], refl) }, refl)),
          (w, refl, (w, (refl, refl), (w, refl, refl))),
        ),
      );
    }
