-- The input of a run whose root joins a task that aborts itself is valid, whatever numbers its nodes get.
use Rattle.rt_laws.proofs.Prelude.{◌≡◌, inl, inr, ℕ, true, false, List, [], ◌∷◌, Some, None, refl, IsPermutation, Error, ErrClosed, Shared, Child, CloseNode, Spawn, AbortTask, Join, GiveUp, CallReply, Done, NodeAt, TaskAt, StillPending, IsReady, Refused, AnswersPending, AnswersReady, Ended, Event, Wake, Round, Visit, Answered, NodeEnd, Advance, There, IsClosed, process_task, task_fields, new_result, State, Visiting, Entered, Leaving, begun, from_running, after, after_all, OutcomeAnswers, label_refusal, Ask, Held, Heard, Plain, Handed, Plainly, Spawning, put, with_spawned, freed, Spends, Gives, Steps, Value, taken, with_result, IsValidInput, first_record, is_known, is_live, small_begin, Parent, Joining, Aborter, handle, join_heard, aborting_root, without_value}
use Rattle.rt_audit.specs.declared.entry.Entry.TheVariants.{Call}
use Rattle.rt_model.specs.declared.answer.Answer.{Answer}
use Rattle.rt_model.specs.declared.answer.Answer.TheVariants.{Pending, Ready}
use Rattle.rt_laws.proofs.Completing.{Course, any, Completes, rounds, visiting, visited, entered, polling_does, polling_answers, polling_gives, woken}
use Rattle.rt_laws.proofs.OneTask.{one_child, grown, free, not_ended, spawned, closed, left, still, live, known, flags}
use Rattle.rt_laws.proofs.Supervising.{either, polling_spends, ending_spends, ending_gives, leaving, in_form, never, Calls, behind, placed, told, child_told, spawn_told, abort_told, join_told}
use Rattle.rt_laws.proofs.Valid.{only, with_state, first_polled, first_poll}

-- what a join hears behind this answer of a task that aborted itself: its value, or that there is none
abbrev pub heard_behind : {O : Type 0} → Answer O → Heard O
heard_behind (Ready value) = Handed value
heard_behind answer = Plain (Refused ErrClosed)

-- A root that spawns a task on a child with this label, waits in a join of it, and then gives its handle up and is ready. It is ready at
-- once where the label is refused. The task aborts itself in its first poll and answers so, and its end closes its node
pub record JoinsAborted {A O : Type 0} (p : Steps A O) (answer : Answer O) : Type 0 where
  pub label : List ℕ
  pub root : A
  pub joins : A
  pub over : A
  pub task : ℕ → A
  pub left : ℕ → A
  pub output : O
  pub makes : p.first 0 ≡ Gives tt root
  pub asks : Calls (p.task.next root 0 0) (Plainly (Child 0 label))
  pub refused : (error : Error) → Some error ≡ label_refusal [] label → (value : O) × (end : A) × (behind (p.task.next root 0 0) (Plain (Refused error)) ≡ Gives (Ready value) end)
  pub spawns : (child : ℕ) → Calls (placed (p.task.next root 0 0) child) (Spawning child (Shared false) task)
  pub awaits : (child own : ℕ) → Calls (told (p.task.next root 0 0) child 1 own) (Plainly (Join 1))
  pub pends : (child own : ℕ) → behind (told (p.task.next root 0 0) child 1 own) (Plain StillPending) ≡ Gives Pending joins
  pub aborts : (own : ℕ) → Calls (p.task.next (task own) 1000000 1) (Plainly (AbortTask 1))
  pub answers : (own : ℕ) → behind (p.task.next (task own) 1000000 1) (Plain Done) ≡ Gives answer (left own)
  pub ends : (own : ℕ) → p.task.last (left own) 1000000 1 ≡ Spends (Plainly (CloseNode own)) (Gives tt tt)
  pub joins_again : Calls (p.task.next joins 2000000 0) (Plainly (Join 1))
  pub gives_up : behind (p.task.next joins 2000000 0) (heard_behind answer) ≡ Spends (Plainly (GiveUp 1)) (Gives (Ready output) over)

module _ {A O : Type 0} (q : Steps A O) (answer : Answer O) (is : JoinsAborted q answer) where
  abbrev p : Course A O
  p = any q

  abbrev v : Value A O
  v = with_state is.root

  abbrev with_node : ℕ → State
  with_node child = after first_polled (Call (Some 0) (Child 0 is.label) (NodeAt child false))

  module _ (child own : ℕ) where
    -- the task is spawned
    abbrev spawned_in : State
    spawned_in =
        let spawned = after (with_node child) (Call (Some 0) (Spawn child) (TaskAt 1 own)) in
        record spawned { stood = record spawned.stood { nodes = grown child own 1 true true } }

    -- while the root is polled, its own state is out
    abbrev task_alone : Held A O
    task_alone = with_spawned 1 (Shared false) (is.task own) (taken 0 v.held)

    -- the root waits
    abbrev waiting : Value A O
    waiting = record v { held = put 0 is.joins task_alone }

    abbrev waits : State
    waits = after_all spawned_in (Call (Some 0) (Join 1) StillPending ∷ Answered 0 AnswersPending ∷ Advance 1000000 ∷ [])

    -- the task has aborted itself, in its poll
    abbrev aborted : State
    aborted = after_all waits (Round (1 ∷ []) ∷ Visit 1 ∷ Event process_task (task_fields 1 is.label) ∷ Call (Some 1) (AbortTask 1) Done ∷ [])

    -- what is held while the task's state is out, in its poll and in its end
    abbrev root_alone : Held A O
    root_alone = taken 1 waiting.held

    abbrev task_left : Value A O
    task_left = record waiting { held = put 1 (is.left own) root_alone }

  -- where it completes from the abort on
  module _ (follows : (child : ℕ) (fresh : is_known first_record child ≡ false) (own : ℕ) (other : is_known (one_child child) own ≡ false) → Completes p (aborted child own) (waiting child own)) where
    task_aborts : (child : ℕ) (fresh : is_known first_record child ≡ false) (own : ℕ) (other : is_known (one_child child) own ≡ false) → Completes p (waits child own) (waiting child own)
    unfolding begun after
    task_aborts child fresh own other =
        let w = waiting child own in
        let s1 = after (waits child own) (Round (1 ∷ [])) in
        let s2 = after s1 (Visit 1) in
        let s3 = after s2 (Event process_task (task_fields 1 is.label)) in
        let at = is.task own in
        let polls : Completes p s3 w = polling_does p s3 w refl 1 [] at refl refl (taken 1 w.held) (Plainly (AbortTask 1)) (behind (q.task.next (is.task own) 1000000 1)) (is.aborts own, refl) (λ stood reply. refl) (abort_told p s3 w (Some 1) 1 refl (follows child fresh own other)) in
        let visits : Completes p s1 w = visiting p s1 w refl 1 (1 ∷ []) [] refl refl tt (entered p s2 w refl 1 [] refl polls) in
        rounds p (waits child own) w (inr (refl, refl, refl)) tt (λ order perm. rw (only 1 order perm) visits) refl refl

    root_waits : (child : ℕ) (fresh : is_known first_record child ≡ false) (own : ℕ) (other : is_known (one_child child) own ≡ false) → Completes p (spawned_in child own) v
    unfolding begun after
    root_waits child fresh own other =
        let s = spawned_in child own in
        let w = waiting child own in
        let s1 = after s (Call (Some 0) (Join 1) StillPending) in
        let s2 = after s1 (Answered 0 AnswersPending) in
        let left : Completes p s2 w = visited p s2 w refl [] refl refl tt (task_aborts child fresh own other) in
        let answers : Completes p s1 v = polling_gives p s1 v refl 0 [] is.root refl refl (task_alone child own) Pending is.joins refl (λ text e. cc) (rw is.asks ((refl, tt), rw (is.spawns child) ((refl, tt), rw (is.awaits child own) ((refl, tt), (is.pends child own, refl))))) (λ e. left) in
        polling_does p s v refl 0 [] is.root refl refl (task_alone child own) (Plainly (Join 1)) (behind (told (q.task.next is.root 0 0) child 1 own)) (rw is.asks ((refl, tt), rw (is.spawns child) ((refl, tt), (is.awaits child own, refl)))) (λ stood reply. refl) (join_told p s v (Some 0) 1 new_result refl (λ reply e. rw e answers))

    child_made : (child : ℕ) → is_known first_record child ≡ false → Completes p (with_node child) v
    unfolding begun after
    child_made child fresh =
        let s = with_node child in
        let asks : Ask A O = Spawning child (Shared false) is.task in
        let spawns : (own : ℕ) → is_known (one_child child) own ≡ false → Completes p (after s (Call (Some 0) (Spawn child) (TaskAt 1 own))) v = λ own other. in_form p (after s (Call (Some 0) (Spawn child) (TaskAt 1 own))) (spawned_in child own) v (rw (spawned child fresh own other 1) refl) (root_waits child fresh own other) in
        polling_does p s v refl 0 [] is.root refl refl (taken 0 v.held) asks (behind (placed (q.task.next is.root 0 0) child)) (rw is.asks ((refl, tt), (is.spawns child, refl))) (λ stood reply. refl) (spawn_told p s v (Some 0) child (Shared false) is.task (free child fresh) (not_ended child fresh) refl spawns)

    child_refused : (error : Error) → Some error ≡ label_refusal [] is.label → Completes p (after first_polled (Call (Some 0) (Child 0 is.label) (Refused error))) v
    unfolding begun after
    child_refused error e =
        let s = after first_polled (Call (Some 0) (Child 0 is.label) (Refused error)) in
        let r = is.refused error e in
        polling_gives p s v refl 0 [] is.root refl refl (taken 0 v.held) (Ready r.0) r.1 refl (λ text e. cc) (rw is.asks ((refl, tt), (r.2, refl))) (λ e. absurd (cc))

    valid-from : IsValidInput q small_begin
    unfolding begun after
    valid-from =
        first_poll q is.root is.makes
        (polling_does p first_polled v refl 0 [] is.root refl refl (taken 0 v.held) (Plainly (Child 0 is.label)) (behind (q.task.next is.root 0 0)) (is.asks, refl) (λ stood reply. refl) (child_told p first_polled v (Some 0) 0 is.label refl child_made child_refused))

  -- it is ready, and its result is handed out
  module _ (number : O) (gives : answer ≡ Ready number) where
    module _ (child : ℕ) (fresh : is_known first_record child ≡ false) (own : ℕ) (other : is_known (one_child child) own ≡ false) where
      -- the task has ended
      abbrev ready : Value A O
      ready = record (task_left child own) { held = with_result true 1 number (task_left child own).held }

      abbrev left_alone : Value A O
      left_alone = record ready { held = taken 1 ready.held }

      abbrev task_ended : State
      task_ended = record (waits child own) {
        phase = Leaving 1 (Some There) [];
        running = 0 ∷ [];
        ready = [];
        stood = record (waits child own).stood { nodes = grown child own 1 false false; results = (1, record { outcome = There; aborted = false }) ∷ [] };
        marks = (1, record { node = child; left = false; flagged = true }) ∷ [];
        owed = 0 ∷ [];
      }

      -- and its node, and the root is woken
      abbrev node_ended : State
      node_ended = record task_ended {
        phase = Visiting [];
        ready = 0 ∷ [];
        stood = record task_ended.stood { nodes = record (grown child own 1 false false) { ends = child ∷ [] } };
        marks = [];
        owed = [];
      }

      root_joins : Completes p node_ended left_alone
      unfolding begun after
      root_joins =
          let w = left_alone in
          let s1 = after node_ended (Advance 2000000) in
          let s2 = after s1 (Round (0 ∷ [])) in
          let s3 = after s2 (Visit 0) in
          let s4 = after s3 (Event process_task (task_fields 0 [])) in
          let s5 = after s4 (Call (Some 0) (Join 1) IsReady) in
          let s6 = after s5 (Call (Some 0) (GiveUp 1) Done) in
          let at = is.joins in
          let rest = taken 0 w.held in
          let hands : behind (q.task.next is.joins 2000000 0) (Handed number) ≡ Spends (Plainly (GiveUp 1)) (Gives (Ready is.output) is.over) = rw gives at is.gives_up in
          let ends : Completes p s6 w = polling_gives p s6 w refl 0 [] at refl refl (freed 1 (freed 1 rest)) (Ready is.output) is.over refl (λ text e. cc) (rw is.joins_again ((refl, tt), rw hands (λ there. (refl, refl, (refl, refl)), λ gone. absurd (cc)))) (λ e. absurd (cc)) in
          let frees : Completes p s5 w = polling_spends p s5 w refl 0 [] at refl refl (freed 1 rest) (Plainly (GiveUp 1)) (Gives (Ready is.output) is.over) (rw is.joins_again ((refl, tt), (hands, refl))) (λ stood reply. refl) refl ends in
          let polls : Completes p s4 w = polling_does p s4 w refl 0 [] at refl refl rest (Plainly (Join 1)) (behind (q.task.next is.joins 2000000 0)) (is.joins_again, refl) (λ stood reply. refl) (join_told p s4 w (Some 0) 1 (record { outcome = There; aborted = false }) refl (λ reply e. rw e frees)) in
          let visits : Completes p s2 w = visiting p s2 w refl 0 (0 ∷ []) [] refl refl tt (entered p s3 w refl 0 [] refl polls) in
          let round : Completes p s1 w = rounds p s1 w (inr (refl, refl, refl)) tt (λ order perm. rw (only 0 order perm) visits) refl refl in
          visited p node_ended w refl [] refl refl tt round

      task_gives : Completes p (aborted child own) (waiting child own)
      unfolding begun after
      task_gives =
          let w = left_alone in
          let s4 = aborted child own in
          let s5 = after s4 (Answered 1 AnswersReady) in
          let closed_node = after s5 (Call (Some 1) (CloseNode own) Done) in
          let s6 = record closed_node { stood = record closed_node.stood { nodes = grown child own 1 true false } } in
          let s7 = after task_ended (Wake 0) in
          let at = is.left own in
          let close = closed child fresh own other 1 in
          let end : after s6 (Answered 1 Ended) ≡ task_ended = rw (still child fresh own other 1, left child fresh own other 1) (refl {a = task_ended}) in
          let leave : after s7 (NodeEnd child) ≡ node_ended = rw (known child fresh own other 1, flags child fresh own other 1) refl in
          let leaves : Completes p s7 w = leaving p s7 w refl 1 (Some There) [] child refl refl (in_form p (after s7 (NodeEnd child)) node_ended w leave root_joins) in
          let wakes : Completes p task_ended w = woken p task_ended w 0 [] refl (λ cause e. cc) leaves in
          let ends : Completes p s6 ready = ending_gives p s6 ready refl 1 (Some There) [] at refl refl (taken 1 ready.held) (rw (is.ends own) (λ there. (refl, refl, (refl, refl)), λ gone. never (is_live (grown child own 1 true true) own) (live child fresh own other 1) gone)) (in_form p (after s6 (Answered 1 Ended)) task_ended w end wakes) in
          let closes : Completes p s5 ready = ending_spends p s5 ready refl 1 (Some There) [] at refl refl (taken 1 ready.held) (Plainly (CloseNode own)) (Gives tt tt) (is.ends own, refl) (λ stood reply. refl) (live child fresh own other 1) (in_form p (after s5 (Call (Some 1) (CloseNode own) Done)) s6 ready (rw close refl) ends) in
          polling_answers p s4 (waiting child own) refl 1 [] (is.task own) refl refl (root_alone child own) answer at (λ text e. cc) (rw (is.aborts own) ((refl, tt), (is.answers own, refl))) (λ e. absurd (cc)) (λ o e. let same : o ≡ number = cc in rw same closes)

    pub handed_valid : IsValidInput q small_begin
    handed_valid = valid-from task_gives

  -- it is left pending and ends without a result, and the join is refused
  module _ (stays : answer ≡ Pending) where
    module _ (child : ℕ) (fresh : is_known first_record child ≡ false) (own : ℕ) (other : is_known (one_child child) own ≡ false) where
      -- the task has ended
      abbrev task_stopped : State
      task_stopped = record (waits child own) {
        phase = Leaving 1 None [];
        running = 0 ∷ [];
        ready = [];
        stood = record (waits child own).stood { nodes = grown child own 1 false false };
        marks = (1, record { node = child; left = true; flagged = true }) ∷ [];
      }

      abbrev without_task : Value A O
      without_task = record (waiting child own) { held = root_alone child own }

      -- and its node
      abbrev node_stopped : State
      node_stopped = record task_stopped {
        phase = Visiting [];
        stood = record task_stopped.stood { nodes = record (grown child own 1 false false) { ends = child ∷ [] }; results = (1, record { outcome = IsClosed; aborted = false }) ∷ [] };
        marks = [];
        owed = 1 ∷ 0 ∷ [];
      }

      -- the task and the root are woken
      abbrev both_ready : State
      both_ready = after_all node_stopped (Wake 1 ∷ Wake 0 ∷ Advance 2000000 ∷ [])

      -- the next round has this order
      abbrev in_round : List ℕ → State
      in_round order = after both_ready (Round order)

      -- the task doesn't run any more, and the root is visited, before or behind its number
      root_refused : (order rest : List ℕ) → from_running (0 ∷ []) order ≡ 0 ∷ rest → Completes p (in_round order) without_task
      unfolding begun after
      root_refused order rest next =
          let w = without_task in
          let s2 = in_round order in
          let s3 = record (after s2 (Visit 0)) { phase = Entered 0 rest } in
          let s4 = after s3 (Event process_task (task_fields 0 [])) in
          let s5 = after s4 (Call (Some 0) (Join 1) (Refused ErrClosed)) in
          let s6 = after s5 (Call (Some 0) (GiveUp 1) Done) in
          let at = is.joins in
          let held = taken 0 w.held in
          let refuses : behind (q.task.next is.joins 2000000 0) (Plain (Refused ErrClosed)) ≡ Spends (Plainly (GiveUp 1)) (Gives (Ready is.output) is.over) = rw stays at is.gives_up in
          let gives : Completes p s6 w = polling_gives p s6 w refl 0 rest at refl refl (freed 1 held) (Ready is.output) is.over refl (λ text e. cc) (rw is.joins_again ((refl, tt), rw refuses (λ there. (refl, refl, (refl, refl)), λ gone. absurd (cc)))) (λ e. absurd (cc)) in
          let frees : Completes p s5 w = polling_spends p s5 w refl 0 rest at refl refl held (Plainly (GiveUp 1)) (Gives (Ready is.output) is.over) (rw is.joins_again ((refl, tt), (refuses, refl))) (λ stood reply. refl) refl gives in
          let polls : Completes p s4 w = polling_does p s4 w refl 0 rest at refl refl held (Plainly (Join 1)) (behind (q.task.next is.joins 2000000 0)) (is.joins_again, refl) (λ stood reply. refl) (join_told p s4 w (Some 0) 1 (record { outcome = IsClosed; aborted = false }) refl (refused_told s4 w frees)) in
          let enters : Completes p (after s2 (Visit 0)) w = in_form p (after s2 (Visit 0)) s3 w (rw next refl) (entered p s3 w refl 0 rest refl polls) in
          visiting p s2 w refl 0 order rest refl next (rw next tt) enters
        where
          refused_told : (s : State) (w : Value A O) → Completes p (after s (Call (Some 0) (Join 1) (Refused ErrClosed))) w → (reply : CallReply) → OutcomeAnswers IsClosed reply → Completes p (after s (Call (Some 0) (Join 1) reply)) w
          refused_told s w more (Refused error) e = rw e more
          refused_told s w more _ e = absurd e

      in_order : (order : List ℕ) → IsPermutation (1 ∷ 0 ∷ []) order → Completes p (in_round order) without_task
      in_order order perm = elim (either 1 0 (λ e. cc) order perm) [ inl same ↦ rw same (root_refused (1 ∷ 0 ∷ []) [] refl) | inr same ↦ rw same (root_refused (0 ∷ 1 ∷ []) (1 ∷ []) refl) ]

      task_stops : Completes p (aborted child own) (waiting child own)
      unfolding begun after
      task_stops =
          let w = without_task in
          let u = task_left child own in
          let s4 = aborted child own in
          let s5 = after s4 (Answered 1 AnswersPending) in
          let closed_node = after s5 (Call (Some 1) (CloseNode own) Done) in
          let s6 = record closed_node { stood = record closed_node.stood { nodes = grown child own 1 true false } } in
          let s7 = after node_stopped (Wake 1) in
          let s8 = after s7 (Wake 0) in
          let at = is.left own in
          let rest = root_alone child own in
          let close = closed child fresh own other 1 in
          let end : after s6 (Answered 1 Ended) ≡ task_stopped = rw (still child fresh own other 1, left child fresh own other 1) (refl {a = task_stopped}) in
          let leave : after task_stopped (NodeEnd child) ≡ node_stopped = rw (known child fresh own other 1, flags child fresh own other 1) refl in
          let round : Completes p both_ready w = rounds p both_ready w (inr (refl, refl, refl)) tt in_order refl refl in
          let visits : Completes p s8 w = visited p s8 w refl [] refl refl tt round in
          let wakes : Completes p node_stopped w = woken p node_stopped w 1 (0 ∷ []) refl (λ cause e. cc) (woken p s7 w 0 [] refl (λ cause e. cc) visits) in
          let leaves : Completes p task_stopped w = leaving p task_stopped w refl 1 None [] child refl refl (in_form p (after task_stopped (NodeEnd child)) node_stopped w leave wakes) in
          let ends : Completes p s6 u = ending_gives p s6 u refl 1 None [] at refl refl rest (rw (is.ends own) (λ there. (refl, refl, (refl, refl)), λ gone. never (is_live (grown child own 1 true true) own) (live child fresh own other 1) gone)) (in_form p (after s6 (Answered 1 Ended)) task_stopped w end leaves) in
          let closes : Completes p s5 u = ending_spends p s5 u refl 1 None [] at refl refl rest (Plainly (CloseNode own)) (Gives tt tt) (is.ends own, refl) (λ stood reply. refl) (live child fresh own other 1) (in_form p (after s5 (Call (Some 1) (CloseNode own) Done)) s6 u (rw close refl) ends) in
          polling_answers p s4 (waiting child own) refl 1 [] (is.task own) refl refl rest answer at (λ text e. cc) (rw (is.aborts own) ((refl, tt), (is.answers own, refl))) (λ e. closes) (λ o e. absurd (cc))

    pub closed_valid : IsValidInput q small_begin
    closed_valid = valid-from task_stops

-- the examples' root is one
joins_aborted : (answer : Answer ℕ) (output : ℕ) → join_heard 1 (heard_behind answer) ≡ Spends (Plainly (GiveUp 1)) (Gives (Ready output) Parent) → JoinsAborted (aborting_root answer) answer
joins_aborted answer output gives = record { label = handle; root = Parent; joins = Joining 1; over = Parent; task = λ number. Aborter number; left = λ number. Aborter number; output = output; makes = refl; asks = refl; refused = λ error e. let none : Some error ≡ None = e in absurd (cc); spawns = λ child. refl; awaits = λ child own. refl; pends = λ child own. refl; aborts = λ own. refl; answers = λ own. refl; ends = λ own. refl; joins_again = refl; gives_up = gives }

pub aborting_valid : (number : ℕ) → IsValidInput (aborting_root (Ready number)) small_begin
aborting_valid number = handed_valid (aborting_root (Ready number)) (Ready number) (joins_aborted (Ready number) number refl) number refl

pub pending_valid : IsValidInput (aborting_root Pending) small_begin
pending_valid = closed_valid (aborting_root Pending) Pending (joins_aborted Pending without_value refl) refl
