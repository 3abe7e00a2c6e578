-- What a part made before it lacked memory.
use Rattle.rt_laws.proofs.Prelude.{◌≡◌, ◌⊎◌, inl, inr, ℕ, List, [], ◌∷◌, ◌++◌, Some, None, Result, false, true, refl, sym, ap, ◌∙◌, Error, Shared, LacksMemory, Ended, CloseNode, Slots, SlotSend, SlotGiveUp, Done, Entry, Answered, NodeEnd, Cleanup, State, Finished, Stood, Turn, begun, after, after_all, IsLawful, IsCounted, Held, Sending, Frees, put, moved, with_spawned, has_place, Step, Spends, Fronts, Stops, Breaks, stood_before, Value, nothing, IsTied, taken, IsCutOff, IsTied-append, small_begin, opening, visiting_root, finishing, Aborting, Parent, Joining, Aborter, aborting_root, aborting_next, aborter_spawned, joiner_ends, lacking_join, beside_journal, sending_root, slot_ready, send_lacks, sending_journal}
use Rattle.rt_audit.specs.declared.finish.FinishCause.TheVariants.{NoMemory}
use Rattle.rt_audit.specs.declared.entry.Entry.TheVariants.{Call}
use Rattle.rt_model.specs.declared.answer.Answer.{Answer}
use Rattle.rt_model.specs.declared.answer.Answer.TheVariants.{Pending}
use Rattle.rt_laws.proofs.Decided.{lawful}
use Rattle.rt_laws.proofs.Followed.{tied}
use Rattle.rt_laws.proofs.Misses.{tied-front, tied-tail}
use Rattle.rt_laws.proofs.Values.{tied-same}

-- a spawned task

abbrev up_to_join : List Entry
up_to_join = opening ++ visiting_root ++ aborter_spawned

abbrev spawned : State
spawned = after_all (begun small_begin) up_to_join

abbrev begins : Step Aborting Aborting ℕ (Answer ℕ)
begins = aborting_next Pending Parent 0 0

abbrev before : Held Aborting ℕ
before = nothing.held

-- in the state that its spawn made, and in no other
pub spawned_so : (mid : Held Aborting ℕ) → Stops begins before spawned.turns spawned.stood mid → IsCounted (with_spawned 1 (Shared false) (Aborter 2) before) mid
unfolding begun after
spawned_so mid stops = stops.1.1.1

-- the rest of the journal, where its end closes this node
module _ (node : ℕ) where
  abbrev made : Held Aborting ℕ
  made = with_spawned 1 (Shared false) (Aborter node) before

  abbrev broken : Value Aborting ℕ
  broken = record nothing { held = put 0 (Joining 1) made; whole = false }

  abbrev cleaned : Value Aborting ℕ
  cleaned = record nothing { held = record before { executions = (1, Shared false) ∷ [] }; whole = false }

  abbrev behind : List Entry
  behind = (Cleanup ∷ NodeEnd 0 ∷ Call (Some 1) (CloseNode node) Done ∷ Answered 1 Ended ∷ []) ++ joiner_ends ++ finishing NoMemory

  cut : Breaks begins before spawned.turns spawned.stood made → IsLawful (begun small_begin) (lacking_join node) → IsTied (aborting_root Pending) (after spawned (Answered 0 LacksMemory)) broken behind cleaned → (after_all (begun small_begin) (lacking_join node)).phase ≡ Finished NoMemory → IsCutOff (aborting_root Pending) small_begin (lacking_join node)
  unfolding begun after
  cut breaks l rest ends =
      let p = aborting_root Pending in
      let root : Value Aborting ℕ = record nothing { held = put 0 Parent before } in
      record {
        value = cleaned;
        lawful = l;
        ends = ends;
        tied = IsTied-append p (begun small_begin) nothing root cleaned up_to_join (Answered 0 LacksMemory ∷ behind) (tied p (begun small_begin) nothing root up_to_join refl) (broken, record { before = Parent; left = Joining 1; moved = made; there = refl; breaks = inl breaks; is = refl }, rest);
      }

-- its join lacked memory
pub lacks_in_join : IsCutOff (aborting_root Pending) small_begin (lacking_join 2)
unfolding begun after
lacks_in_join =
    cut 2 (record { front = spawned.turns; rest = []; mid = made 2; are = refl; walks = ((refl, tt), ((refl, tt), (tt, ([], refl)))); frees = ([], refl) }) (lawful small_begin (lacking_join 2) refl)
    (tied (aborting_root Pending) (after spawned (Answered 0 LacksMemory)) (broken 2) (cleaned 2) (behind 2) refl) refl

-- its first call lacked it
pub lacks_at_first : IsCutOff (aborting_root Pending) small_begin (lacking_join 1)
unfolding begun after
lacks_at_first =
    cut 1 (record { front = []; rest = spawned.turns; mid = before; are = refl; walks = (tt, ([], refl)); frees = ([], before, refl, ([], made 1, (Shared false, Aborter 1, refl), ([], refl))) }) (lawful small_begin (lacking_join 1) refl)
    (tied (aborting_root Pending) (after spawned (Answered 0 LacksMemory)) (broken 1) (cleaned 1) (behind 1) refl) refl

-- what is sent first is held, wherever memory lacks behind it
module _ {A L O R : Type 0} (t : Turn) (stood : Stood) (slot : ℕ) (sent : Result O Error) (next : Step A L O R) (held end : Held A O) (there : has_place t.stood (Slots (SlotSend slot)) ≡ true) where
  stopped : (front rest : List Turn) (mid : Held A O) → t ∷ [] ≡ front ++ rest → Stops (Spends (Sending slot sent) next) held front (stood_before rest stood) mid → Frees mid rest end → IsCounted (moved held (Sending slot sent) t) end
  stopped [] rest mid e w f =
      let place : has_place (stood_before rest stood) (Slots (SlotSend slot)) ≡ true = rw (← e) there in
      let gone = w.0.0 in
      absurd (cc)
  stopped (u ∷ []) [] mid e w f =
      let same : t ≡ u = cc in
      let moves = (w.0 (rw (← same) there)).2.1 in
      (f.0, f.1 ∙ ap (λ (x : Held A O). record x { counts = f.0 }) (moves.1 ∙ ap (λ (u : Turn). record (moved held (Sending slot sent) u) { counts = moves.0 }) (sym same)))
  stopped (u ∷ []) (v ∷ rest) mid e w f = absurd (cc)
  stopped (u ∷ v ∷ front) rest mid e w f = absurd (cc)

  sent_first : Breaks (Spends (Sending slot sent) next) held (t ∷ []) stood end ⊎ Fronts (Spends (Sending slot sent) next) held (t ∷ []) end → IsCounted (moved held (Sending slot sent) t) end
  sent_first (inl k) = stopped k.front k.rest k.mid k.are k.walks k.frees
  sent_first (inr k) = (k.0 there).2

module _ (sent : Result ℕ Error) where
  abbrev waiting : Value (Unit {0}) ℕ
  waiting = record nothing { held = put 0 tt nothing.held }

  up-to-the-round : IsTied (sending_root sent) (begun small_begin) nothing slot_ready waiting
  unfolding begun after
  up-to-the-round = tied (sending_root sent) (begun small_begin) nothing waiting slot_ready refl

  pub sent_so : (w : Value (Unit {0}) ℕ) → IsTied (sending_root sent) (begun small_begin) nothing send_lacks w → w.held.sent ≡ (0, sent) ∷ []
  unfolding begun after
  sent_so w r =
      let p = sending_root sent in
      let rest : List Entry = visiting_root ++ (Call (Some 0) (Slots (SlotSend 0)) Done ∷ Answered 0 LacksMemory ∷ []) in
      let t = tied-tail p (begun small_begin) nothing w slot_ready rest r in
      let same : t.0 ≡ waiting = tied-same p (begun small_begin) nothing t.0 waiting slot_ready (tied-front p (begun small_begin) nothing w slot_ready rest r) up-to-the-round t.1.1.1 refl in
      let visited = t.1.2.2.2 in
      let kept : t.1.2.2.0 ≡ waiting = t.1.2.2.1 ∙ t.1.2.1 ∙ t.1.1.0 ∙ same in
      let poll = visited.1 in
      let breaks = rw kept at poll.breaks in
      let asked = after_all (begun small_begin) (slot_ready ++ visiting_root ++ (Call (Some 0) (Slots (SlotSend 0)) Done ∷ [])) in
      let held : poll.moved.sent ≡ (0, sent) ∷ [] = ap (λ (h : Held (Unit {0}) ℕ). h.sent) (sent_first _ asked.stood 0 sent _ (taken 0 waiting.held) poll.moved refl breaks).1 in
      ap (λ (v : Value (Unit {0}) ℕ). v.held.sent) (visited.2 ∙ poll.is) ∙ held

  -- its poll lacked memory behind the send, and its end gives the slot up
  pub lacks_behind_send : IsCutOff (sending_root sent) small_begin sending_journal
  unfolding begun after
  lacks_behind_send =
      let p = sending_root sent in
      let made : Held (Unit {0}) ℕ = record nothing.held { sent = (0, sent) ∷ [] } in
      let broken : Value (Unit {0}) ℕ = record nothing { held = put 0 tt made; whole = false } in
      let end : Value (Unit {0}) ℕ = record nothing { whole = false } in
      let front : List Entry = slot_ready ++ visiting_root ++ (Call (Some 0) (Slots (SlotSend 0)) Done ∷ []) in
      let rest : List Entry = (Cleanup ∷ NodeEnd 0 ∷ Call (Some 0) (Slots (SlotGiveUp 0)) Done ∷ Call (Some 0) (CloseNode 0) Done ∷ Answered 0 Ended ∷ []) ++ finishing NoMemory in
      let s = after_all (begun small_begin) front in
      record {
        value = end;
        lawful = lawful small_begin sending_journal refl;
        ends = refl;
        tied = IsTied-append p (begun small_begin) nothing waiting end front (Answered 0 LacksMemory ∷ rest) (tied p (begun small_begin) nothing waiting front refl) (
          broken,
          record {
            before = tt;
            left = tt;
            moved = made;
            there = refl;
            breaks = inl (record { front = s.turns; rest = []; mid = made; are = refl; walks = (λ there. (refl, refl, (tt, ([], refl))), λ gone. absurd (cc)); frees = ([], refl) });
            is = refl;
          },
          tied p (after s (Answered 0 LacksMemory)) broken end rest refl,
        );
      }

-- while the root waits for its task, whose poll lacks memory

beside-lawful : IsLawful (begun small_begin) beside_journal
unfolding begun after
beside-lawful = lawful small_begin beside_journal refl

pub lacks_beside : IsCutOff (aborting_root Pending) small_begin beside_journal
unfolding begun after
lacks_beside =
    let value : Value Aborting ℕ = record { held = record { tasks = []; results = []; sent = []; executions = (1, Shared false) ∷ []; counts = [] }; output = None; panic = None; unmade = None; whole = false } in
    record {
      value = value;
      lawful = beside-lawful;
      ends = refl;
      tied = tied (aborting_root Pending) (begun small_begin) nothing value beside_journal refl;
    }
