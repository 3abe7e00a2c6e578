-- The input of a run whose maker spawns a task is valid, whatever numbers its nodes get.
use Rattle.rt_laws.proofs.Prelude.{◌≡◌, inl, inr, ℕ, true, false, List, [], ◌∷◌, Some, None, refl, IsPermutation, Error, Shared, Child, CloseNode, Spawn, GiveUp, Done, NodeAt, TaskAt, Refused, AnswersReady, Ended, Start, Event, Root, Round, Visit, Answered, NodeEnd, There, process_task, task_fields, State, Visiting, Leaving, begun, after, after_all, label_refusal, Ask, Held, Plain, Plainly, Spawning, put, with_spawned, Spends, Gives, Steps, Value, nothing, taken, IsValidInput, first_record, is_known, is_live, small_begin, prompt_root, side, with_side}
use Rattle.rt_audit.specs.declared.entry.Entry.TheVariants.{Call}
use Rattle.rt_model.specs.declared.answer.Answer.TheVariants.{Ready}
use Rattle.rt_laws.proofs.Completing.{Course, any, Completes, begins, making_gives, rounds, visiting, entered, polling_answers, polling_gives}
use Rattle.rt_laws.proofs.OneTask.{one_child, grown, free, not_ended, spawned, closed, left, still, live, known, flags}
use Rattle.rt_laws.proofs.Supervising.{either, making_does, making_spends, ending_spends, ending_gives, leaving, in_form, never, Calls, Replied, behind, placed, told, child_told, spawn_told}
use Rattle.rt_laws.proofs.Valid.{only, with_state}

-- A maker that spawns a task on a child with this label, unless that is refused, gives its handle up and makes this root. Both are
-- ready at their first polls, and the end of the task closes its node
pub record MakesBeside {A O : Type 0} (p : Steps A O) : Type 0 where
  pub label : List ℕ
  pub root : A
  pub task : ℕ → A
  pub output : O
  pub value : O
  pub asks : Calls (p.first 0) (Plainly (Child 0 label))
  pub refused : (error : Error) → Some error ≡ label_refusal [] label → behind (p.first 0) (Plain (Refused error)) ≡ Gives tt root
  pub spawns : (child : ℕ) → Calls (placed (p.first 0) child) (Spawning child (Shared false) task)
  pub gives_up : (child own : ℕ) → told (p.first 0) child 0 own ≡ Spends (Plainly (GiveUp 0)) (Gives tt root)
  pub root_ready : (number : ℕ) → p.task.next root 0 number ≡ Gives (Ready output) root
  pub task_ready : (own : ℕ) → p.task.next (task own) 0 0 ≡ Gives (Ready value) (task own)
  pub task_ends : (own : ℕ) → p.task.last (task own) 0 0 ≡ Spends (Plainly (CloseNode own)) (Gives tt tt)

module _ {A O : Type 0} (q : Steps A O) (is : MakesBeside q) where
  abbrev p : Course A O
  p = any q

  module _ (child : ℕ) (fresh : is_known first_record child ≡ false) (own : ℕ) (other : is_known (one_child child) own ≡ false) where
    abbrev v : Value A O
    v = record nothing { held = put 1 is.root (with_spawned 0 (Shared false) (is.task own) nothing.held) }

    -- the maker has spawned its task
    abbrev beside : State
    beside =
        let spawned = after_all (begun small_begin) (Start 0 0 None 1000000 ∷ Call None (Child 0 is.label) (NodeAt child false) ∷ Call None (Spawn child) (TaskAt 0 own) ∷ []) in
        record spawned { stood = record spawned.stood { nodes = grown child own 0 true true } }

    -- and is over
    abbrev in_round : List ℕ → State
    in_round order = after_all beside (Call None (GiveUp 0) Done ∷ Root 1 ∷ Round order ∷ [])

    root_first : Completes p (in_round (1 ∷ 0 ∷ [])) v
    unfolding begun after
    root_first =
        let s1 = in_round (1 ∷ 0 ∷ []) in
        let s2 = after s1 (Visit 1) in
        let s3 = after s2 (Event process_task (task_fields 1 [])) in
        let polls : Completes p s3 v = polling_gives p s3 v refl 1 (0 ∷ []) is.root refl refl (taken 1 v.held) (Ready is.output) is.root refl (λ text e. cc) (is.root_ready 1, refl) (λ e. absurd (cc)) in
        visiting p s1 v refl 1 (1 ∷ 0 ∷ []) (0 ∷ []) refl refl tt (entered p s2 v refl 1 (0 ∷ []) refl polls)

    -- the task has ended
    abbrev ended : State
    ended = record (in_round (1 ∷ [])) {
      phase = Leaving 0 (Some There) (1 ∷ []);
      running = 1 ∷ [];
      stood = record (in_round (1 ∷ [])).stood { nodes = grown child own 0 false false };
    }

    -- and its node
    abbrev node_ended : State
    node_ended = record ended {
      phase = Visiting (1 ∷ []);
      stood = record ended.stood { nodes = record (grown child own 0 false false) { ends = child ∷ [] } };
      marks = [];
    }

    root_second : Completes p node_ended (record v { held = taken 0 v.held })
    unfolding begun after
    root_second =
        let s1 = after node_ended (Visit 1) in
        let s2 = after s1 (Event process_task (task_fields 1 [])) in
        let w : Value A O = record v { held = taken 0 v.held } in
        let polls : Completes p s2 w = polling_gives p s2 w refl 1 [] is.root refl refl (taken 1 w.held) (Ready is.output) is.root refl (λ text e. cc) (is.root_ready 1, refl) (λ e. absurd (cc)) in
        visiting p node_ended w refl 1 (1 ∷ []) [] refl refl tt (entered p s1 w refl 1 [] refl polls)

    task_first : Completes p (in_round (0 ∷ 1 ∷ [])) v
    unfolding begun after
    task_first =
        let s1 = in_round (0 ∷ 1 ∷ []) in
        let s2 = after s1 (Visit 0) in
        let s3 = after s2 (Event process_task (task_fields 0 is.label)) in
        let s4 = after s3 (Answered 0 AnswersReady) in
        let closed_node = after s4 (Call (Some 0) (CloseNode own) Done) in
        let s5 = record closed_node { stood = record closed_node.stood { nodes = grown child own 0 true false } } in
        let rest = taken 0 v.held in
        let w : Value A O = record v { held = rest } in
        let close = closed child fresh own other 0 in
        let end : after s5 (Answered 0 Ended) ≡ ended = rw (still child fresh own other 0, left child fresh own other 0) (refl {a = ended}) in
        let leave : after ended (NodeEnd child) ≡ node_ended = rw (known child fresh own other 0, flags child fresh own other 0) refl in
        let leaves : Completes p ended w = leaving p ended w refl 0 (Some There) (1 ∷ []) child refl refl (in_form p (after ended (NodeEnd child)) node_ended w leave root_second) in
        let ends : Completes p s5 v = ending_gives p s5 v refl 0 (Some There) (1 ∷ []) (is.task own) refl refl rest (rw (is.task_ends own) (λ there. (refl, refl, (refl, refl)), λ gone. never (is_live (grown child own 0 true true) own) (live child fresh own other 0) gone)) (in_form p (after s5 (Answered 0 Ended)) ended w end leaves) in
        let closes : Completes p s4 v = ending_spends p s4 v refl 0 (Some There) (1 ∷ []) (is.task own) refl refl rest (Plainly (CloseNode own)) (Gives tt tt) (is.task_ends own, refl) (λ stood reply. refl) (live child fresh own other 0) (in_form p (after s4 (Call (Some 0) (CloseNode own) Done)) s5 v (rw close refl) ends) in
        let polls : Completes p s3 v = polling_answers p s3 v refl 0 (1 ∷ []) (is.task own) refl refl rest (Ready is.value) (is.task own) (λ text e. cc) (is.task_ready own, refl) (λ e. absurd (cc)) (λ o e. closes) in
        visiting p s1 v refl 0 (0 ∷ 1 ∷ []) (1 ∷ []) refl refl tt (entered p s2 v refl 0 (1 ∷ []) refl polls)

    in_order : (order : List ℕ) → IsPermutation (0 ∷ 1 ∷ []) order → Completes p (in_round order) v
    in_order order perm = elim (either 0 1 (λ e. cc) order perm) [ inl same ↦ rw same task_first | inr same ↦ rw same root_first ]

    spawned_beside : Completes p beside nothing
    unfolding begun after
    spawned_beside =
        let s1 = after beside (Call None (GiveUp 0) Done) in
        let s2 = after s1 (Root 1) in
        let now : Held A O = with_spawned 0 (Shared false) (is.task own) nothing.held in
        let round : Completes p s2 v = rounds p s2 v (inl refl) tt in_order refl refl in
        let makes : Completes p s1 nothing = making_gives p s1 nothing refl is.root now refl (rw is.asks ((refl, tt), rw (is.spawns child) ((refl, tt), rw (is.gives_up child own) (λ there. (refl, refl, (refl, refl)), λ gone. absurd (cc))))) tt round in
        making_spends p beside nothing refl refl tt now (Plainly (GiveUp 0)) (Gives tt is.root) (rw is.asks ((refl, tt), rw (is.spawns child) ((refl, tt), (is.gives_up child own, refl)))) (λ stood reply. refl) refl makes

  -- the maker spawns its task

  abbrev starting : State
  starting = after (begun small_begin) (Start 0 0 None 1000000)

  abbrev with_node : ℕ → State
  with_node child = after starting (Call None (Child 0 is.label) (NodeAt child false))

  child_made : (child : ℕ) → is_known first_record child ≡ false → Completes p (with_node child) nothing
  unfolding begun after
  child_made child fresh =
      let s = with_node child in
      let spawns : (own : ℕ) → is_known (one_child child) own ≡ false → Completes p (after s (Call None (Spawn child) (TaskAt 0 own))) nothing = λ own other. in_form p (after s (Call None (Spawn child) (TaskAt 0 own))) (beside child fresh own other) nothing (rw (spawned child fresh own other 0) refl) (spawned_beside child fresh own other) in
      let asks : Ask A O = Spawning child (Shared false) is.task in
      let told : Replied p s nothing None asks = spawn_told p s nothing None child (Shared false) is.task (free child fresh) (not_ended child fresh) refl spawns in
      making_does p s nothing refl refl tt nothing.held asks (behind (placed (q.first 0) child)) (rw is.asks ((refl, tt), (is.spawns child, refl))) (λ stood reply. refl) told

  -- the root is alone

  alone : (error : Error) → Some error ≡ label_refusal [] is.label → Completes p (after starting (Call None (Child 0 is.label) (Refused error))) nothing
  unfolding begun after
  alone error e =
      let s = after starting (Call None (Child 0 is.label) (Refused error)) in
      let s1 = after s (Root 0) in
      let s2 = after s1 (Round (0 ∷ [])) in
      let s3 = after s2 (Visit 0) in
      let now : Held A O = nothing.held in
      let v : Value A O = with_state is.root in
      let polls : Completes p (after s3 (Event process_task (task_fields 0 []))) v = polling_gives p (after s3 (Event process_task (task_fields 0 []))) v refl 0 [] is.root refl refl now (Ready is.output) is.root refl (λ text e. cc) (is.root_ready 0, refl) (λ e. absurd (cc)) in
      let visits : Completes p s2 v = visiting p s2 v refl 0 (0 ∷ []) [] refl refl tt (entered p s3 v refl 0 [] refl polls) in
      making_gives p s nothing refl is.root now refl (rw is.asks ((refl, tt), (is.refused error e, refl))) tt (rounds p s1 v (inl refl) tt (λ order perm. rw (only 0 order perm) visits) refl refl)

  pub beside_valid : IsValidInput q small_begin
  unfolding begun after
  beside_valid =
      let told : Replied p starting nothing None (Plainly (Child 0 is.label)) = child_told p starting nothing None 0 is.label refl child_made alone in
      begins q small_begin (making_does p starting nothing refl refl tt nothing.held (Plainly (Child 0 is.label)) (behind (q.first 0)) (is.asks, refl) (λ stood reply. refl) told)

pub side_valid : IsValidInput with_side small_begin
side_valid =
    beside_valid with_side
    (record { label = side; root = prompt_root; task = λ number. record { node = number; value = 5 }; output = 1; value = 5; asks = refl; refused = λ error e. refl; spawns = λ child. refl; gives_up = λ child own. refl; root_ready = λ number. refl; task_ready = λ own. refl; task_ends = λ own. refl })
