-- The inputs of worked examples are valid whose scripts spawn others or stop their run.
use Rattle.rt_scripts.proofs.Prelude.{◌≡◌, ℕ, ℤ, List, [], ◌∷◌, None, true, false, Bool, eqb, eq-eqb, not, if◌then◌else◌, refl, ◌≤◌, ◌+◌, codes, Option, Some, ltb, Ok, arith, negsuc, cast_unsigned, to_be_bytes, is_label, is_reserved, prefixed, Error, Metric, MetricError, BadLabel, Reserved, Shared, MAX_TIME, IsMet, AbortTask, Child, CloseNode, GiveUp, Join, Stop, CompletionPoll, CompletionClose, Done, StillPending, NodeAt, CompletionAt, Refused, CallEntry, Event, Answer, Pending, Ready, label_refusal, Plain, Plainly, Spawning, Gives, followed_by, then, Value, taken, IsValidInput, State, from_begin, after, first_record, is_known, is_live, completion_answer, tells, Context, child_name, childs, context_on, root_context, spawns_on, handle_polls, handle_spends, task_handle, sleep_for, until, completion_polls, completion_spends, Sleeper, begins, limit_for, stage_spends, still, stop_polls, stop_spends, timeout_polls, timeout_spends, small_begin, Calls, behind, told, Replied, child_told, polling_spends, never, JoinsAborted, heard_behind, handed_valid, closed_valid, beside_valid, polling_announces, polling_does, polling_gives, one_child, alive, with_state, first_polled, first_poll, Line, AbortSelf, End, EndLast, JoinLine, Pend, Spawn, StopLine, StopWithin, ScriptText, text_at, Handle, Maker, begun, beside, besides, making, name_at, root_steps, Script, aborted_in, aborts_chosen, aborts_itself, bound, ended, freed_of, goes_on, joins, loosed, passed, polled, releases_all, releases_chosen, roomed, spawns, started, Next, stop_goes, stops, unheld}
use Rattle.std.specs.Prelude.{pos}
use Rattle.std.specs.Int.{w32}
use Rattle.rt_model.specs.Turns.{Held}
use Rattle.rt_model.specs.Walk.{Spends}
use Rattle.rt_laws.proofs.Supervising.{placed}
use Rattle.rt_laws.proofs.Completing.{Course, any, Completes}
use Rattle.rt_scripts.proofs.Worked.{made}

-- a script as it is spawned on a child of the root that has this name
abbrev spawned_as : Maker → List ℕ → ℕ → ℕ → Script
spawned_as m name script own = started m.program script (context_on own (child_name root_context.name name))

-- its end closes its node where it holds nothing
closes-alone : (program : List ScriptText) (script place : ℕ) (own : Context) → ended (record (started program script own) { place = place }) ≡ Spends (Plainly (CloseNode own.node)) (Gives tt tt)
unfolding aborts_chosen releases_chosen aborted_in freed_of releases_all followed_by then
closes-alone program script place own = refl

-- the error for which a label is refused
refusal-kind : (label : List ℕ) (error : Error) → Some error ≡ label_refusal [] label → (kind : MetricError) × (error ≡ Metric kind)
refusal-kind label error e = kind (is_label label) (is_reserved (prefixed [] label)) e
  where
    kind : (good reserved : Bool) → Some error ≡ (if not good then Some (Metric BadLabel) else if reserved then Some (Metric Reserved) else None) → (kind : MetricError) × (error ≡ Metric kind)
    kind false reserved e = (BadLabel, cc)
    kind true true e = (Reserved, cc)
    kind true false e = absurd (cc)

-- a maker that spawns a script beside the root, where both end at their first lines
module _ (m : Maker) (at : ℕ) (one : m.with ≡ at ∷ []) (output value : ℤ) (lines : (text_at m.program m.root).lines ≡ End output ∷ []) (task_lines : (text_at m.program at).lines ≡ End value ∷ []) where
  abbrev side : ℕ → Script
  side = spawned_as m (text_at m.program at).name at

  asks-beside : Calls (making m) (Plainly (Child 0 (text_at m.program at).name))
  unfolding besides beside childs tells then
  asks-beside = rw one refl

  refused-beside : (error : Error) → Some error ≡ label_refusal [] (text_at m.program at).name → behind (making m) (Plain (Refused error)) ≡ Gives tt (begun m)
  unfolding besides beside childs tells then
  refused-beside error e = let k = refusal-kind (text_at m.program at).name error e in rw (k.1, one) refl

  spawns-beside : (child : ℕ) → Calls (placed ((root_steps m).first 0) child) (Spawning child (Shared false) side)
  unfolding besides beside childs spawns_on tells then
  spawns-beside child = rw one refl

  frees-beside : (child own : ℕ) → told ((root_steps m).first 0) child 0 own ≡ Spends (Plainly (GiveUp 0)) (Gives tt (begun m))
  unfolding besides beside childs spawns_on handle_spends tells followed_by then
  frees-beside child own = rw one refl

  root-ends : (task : ℕ) → polled (begun m) 0 task ≡ Gives (Ready output) (begun m)
  unfolding goes_on
  root-ends task = rw lines refl

  task-ends : (own : ℕ) → polled (side own) 0 0 ≡ Gives (Ready value) (side own)
  unfolding goes_on
  task-ends own = rw task_lines refl

  pub spawned-valid : IsValidInput (root_steps m) small_begin
  spawned-valid =
      beside_valid (root_steps m)
      (record { label = (text_at m.program at).name; root = begun m; task = side; output = output; value = value; asks = asks-beside; refused = refused-beside; spawns = spawns-beside; gives_up = frees-beside; root_ready = root-ends; task_ready = task-ends; task_ends = λ own. closes-alone m.program at 0 (side own).context })

-- a root that spawns a script under a name and joins it, where that script aborts itself and then answers so
module _ (m : Maker) (alone : m.with ≡ []) (at script : ℕ) (lines : (text_at m.program m.root).lines ≡ Spawn at script ∷ JoinLine at ∷ EndLast ∷ []) (rest : List Line) (answer : Answer ℤ) (task_lines : (text_at m.program script).lines ≡ AbortSelf ∷ rest) (answers : (s : Script) → goes_on rest s 1000000 1 ≡ Gives answer s) where
  abbrev name : List ℕ
  name = name_at (text_at m.program m.root) at

  abbrev task : ℕ → Script
  task = spawned_as m name script

  abbrev joining : Script
  joining = passed (bound (roomed (loosed (begun m) at) at) at (Handle (task_handle 1))) (pos 0)

  same : eqb at at ≡ true
  same = eq-eqb at at refl

  asks-child : Calls (polled (begun m) 0 0) (Plainly (Child 0 name))
  unfolding goes_on spawns childs tells followed_by then
  asks-child = rw lines refl

  refused-child : (error : Error) → Some error ≡ label_refusal [] name → (value : ℤ) × (end : Script) × (behind (polled (begun m) 0 0) (Plain (Refused error)) ≡ Gives (Ready value) end)
  unfolding goes_on spawns joins childs tells followed_by then
  refused-child error e = let k = refusal-kind name error e in (unheld, passed (passed (roomed (loosed (begun m) at) at) unheld) unheld, rw (k.1, lines) refl)

  spawns-task : (child : ℕ) → Calls (placed (polled (begun m) 0 0) child) (Spawning child (Shared false) task)
  unfolding goes_on spawns childs spawns_on tells followed_by then
  spawns-task child = rw lines refl

  joins-it : (child own : ℕ) → Calls (told (polled (begun m) 0 0) child 1 own) (Plainly (Join 1))
  unfolding goes_on spawns joins childs spawns_on handle_polls tells followed_by then
  joins-it child own = rw (lines, same) refl

  pends : (child own : ℕ) → behind (told (polled (begun m) 0 0) child 1 own) (Plain StillPending) ≡ Gives Pending joining
  unfolding goes_on spawns joins childs spawns_on handle_polls tells followed_by then
  pends child own = rw (lines, same, same) refl

  aborts-first : (own : ℕ) → Calls (polled (task own) 1000000 1) (Plainly (AbortTask 1))
  unfolding goes_on aborts_itself
  aborts-first own = rw task_lines refl

  answers-then : (own : ℕ) → behind (polled (task own) 1000000 1) (Plain Done) ≡ Gives answer (passed (task own) (pos 0))
  unfolding goes_on aborts_itself
  answers-then own = rw task_lines (answers (passed (task own) (pos 0)))

  joins-again : Calls (polled joining 2000000 0) (Plainly (Join 1))
  unfolding goes_on joins handle_polls then
  joins-again = rw (lines, same) refl

  joins-aborted : (value : ℤ) → behind (polled joining 2000000 0) (heard_behind answer) ≡ Spends (Plainly (GiveUp 1)) (Gives (Ready value) (passed (loosed joining at) value)) → JoinsAborted (root_steps m) answer
  joins-aborted value frees = record { label = name; root = begun m; joins = joining; over = passed (loosed joining at) value; task = task; left = λ own. passed (task own) (pos 0); output = value; makes = made m alone; asks = asks-child; refused = refused-child; spawns = spawns-task; awaits = joins-it; pends = pends; aborts = aborts-first; answers = answers-then; ends = λ own. closes-alone m.program script 1 (task own).context; joins_again = joins-again; gives_up = frees }

  -- it is ready with a number, or left pending

  given-valid : (value : ℤ) → answer ≡ Ready value → IsValidInput (root_steps m) small_begin
  unfolding goes_on joins handle_polls handle_spends followed_by then
  given-valid value is = handed_valid (root_steps m) answer (joins-aborted value (rw (is, lines, same, same) refl)) value is

  left-valid : answer ≡ Pending → IsValidInput (root_steps m) small_begin
  unfolding goes_on joins handle_polls handle_spends followed_by then
  left-valid is = closed_valid (root_steps m) answer (joins-aborted (negsuc 1) (rw (is, lines, same, same) refl)) is

module _ (m : Maker) (alone : m.with ≡ []) (at script : ℕ) (lines : (text_at m.program m.root).lines ≡ Spawn at script ∷ JoinLine at ∷ EndLast ∷ []) where
  pub aborting-valid : (number : ℤ) → (text_at m.program script).lines ≡ AbortSelf ∷ End number ∷ [] → IsValidInput (root_steps m) small_begin
  unfolding goes_on
  aborting-valid number task_lines = given-valid m alone at script lines (End number ∷ []) (Ready number) task_lines (λ s. refl) number refl

  pub pending-valid : (text_at m.program script).lines ≡ AbortSelf ∷ Pend ∷ [] → IsValidInput (root_steps m) small_begin
  unfolding goes_on
  pending-valid task_lines = left-valid m alone at script lines (Pend ∷ []) Pending task_lines (λ s. refl) refl

-- what is replied to a stop, and to a poll of a completion that is met
module _ {A O : Type 0} (q : Course A O) (s : State) (v : Value A O) (by : Option ℕ) where
  stop_told : (value : ℤ) → Completes q (after s (CallEntry by (Stop value) (CompletionAt s.stood.signals.count))) v → Replied q s v by (Plainly (Stop value))
  stop_told value more (CompletionAt completion) m held f = rw m more
  stop_told value more _ m held f = absurd m

  met_told : (completion : ℕ) → completion_answer s.stood.signals completion ≡ Ok (IsMet tt) → Completes q (after s (CallEntry by (CompletionPoll completion) Done)) v → Replied q s v by (Plainly (CompletionPoll completion))
  met_told completion met more reply m held f = let is : reply ≡ Done = rw met at m in rw is more

-- a script that stops the run at its first line, maybe within a limit, and ends at the second
module _ (m : Maker) (alone : m.with ≡ []) (value number : ℤ) (limit : Option ℕ) (goes : polled (begun m) 0 0 ≡ stops (begun m) (λ next. goes_on (End number ∷ []) next 0 0) value limit 0 0) where
  abbrev q : Course Script ℤ
  q = any (root_steps m)

  -- what it does behind its child, and behind the stop
  abbrev placed_stop : ℕ → Next
  placed_stop child = behind (polled (begun m) 0 0) (Plain (NodeAt child false))

  abbrev stopped : ℕ → Next
  stopped child = behind (placed_stop child) (Plain (CompletionAt 1))

  abbrev ready_then : Next
  ready_then = Gives (Ready number) (passed (begun m) (pos 0))

  asks-stopper : Calls (polled (begun m) 0 0) (Plainly (Child 0 (codes "stop")))
  unfolding stops childs tells then
  asks-stopper = rw goes refl

  stops-run : (sleep : Option (ℕ × Sleeper)) → limit_for limit 0 ≡ Ok sleep → (child : ℕ) → Calls (placed_stop child) (Plainly (Stop value))
  unfolding stops stop_goes stop_polls begins childs tells then
  stops-run sleep e child = rw (goes, e) refl

  polls-completion : (sleep : Option (ℕ × Sleeper)) → limit_for limit 0 ≡ Ok sleep → (child : ℕ) → Calls (stopped child) (Plainly (CompletionPoll 1))
  unfolding stops stop_goes stop_polls begins still completion_polls timeout_polls childs tells then
  polls-completion None e child = rw (goes, e) refl
  polls-completion (Some sleep) e child = rw (goes, e) refl

  closes-both : (sleep : Option (ℕ × Sleeper)) → limit_for limit 0 ≡ Ok sleep → (child : ℕ) → behind (stopped child) (Plain Done) ≡ Spends (Plainly (CompletionClose 1)) (Spends (Plainly (CloseNode child)) ready_then)
  unfolding stops stop_goes stop_polls begins still completion_polls timeout_polls stop_spends stage_spends completion_spends timeout_spends childs tells followed_by then goes_on
  closes-both None e child = rw (goes, e) refl
  closes-both (Some sleep) e child = rw (goes, e) refl

  abbrev v : Value Script ℤ
  v = with_state (begun m)

  module _ (sleep : Option (ℕ × Sleeper)) (e : limit_for limit 0 ≡ Ok sleep) where
    stops-at-once : (child : ℕ) → is_known first_record child ≡ false → Completes q (after first_polled (CallEntry (Some 0) (Child 0 (codes "stop")) (NodeAt child false))) v
    unfolding from_begin after
    stops-at-once child fresh =
        let fields : List (List ℕ) = to_be_bytes w32 (cast_unsigned w32 value) ∷ [] in
        let s = after first_polled (CallEntry (Some 0) (Child 0 (codes "stop")) (NodeAt child false)) in
        let s1 = after s (Event (codes "stop") fields) in
        let s2 = after s1 (CallEntry (Some 0) (Stop value) (CompletionAt 1)) in
        let s3 = after s2 (CallEntry (Some 0) (CompletionPoll 1) Done) in
        let s4 = after s3 (CallEntry (Some 0) (CompletionClose 1) Done) in
        let s5 = after s4 (CallEntry (Some 0) (CloseNode child) Done) in
        let now : Held Script ℤ = taken 0 v.held in
        let asks = asks-stopper in
        let stop = stops-run sleep e child in
        let poll = polls-completion sleep e child in
        let close = closes-both sleep e child in
        let end : Next = Spends (Plainly (CloseNode child)) ready_then in
        let lives : is_live (one_child child) child ≡ true = alive child fresh in
        let gives : Completes q s5 v = polling_gives q s5 v refl 0 [] (begun m) refl refl now (Ready number) (passed (begun m) (pos 0)) refl (λ text e. cc) (rw asks ((refl, tt), rw stop ((refl, tt), rw poll ((refl, tt), rw close (λ there. (refl, refl, (λ there. (refl, refl, (refl, refl)), λ gone. never (is_live (one_child child) child) lives gone)), λ gone. absurd (cc)))))) (λ e. absurd (cc)) in
        let closes : Completes q s4 v = polling_spends q s4 v refl 0 [] (begun m) refl refl now (Plainly (CloseNode child)) ready_then (rw asks ((refl, tt), rw stop ((refl, tt), rw poll ((refl, tt), rw close (λ there. (refl, refl, (refl, refl)), λ gone. absurd (cc)))))) (λ stood reply. refl) lives gives in
        let frees : Completes q s3 v = polling_spends q s3 v refl 0 [] (begun m) refl refl now (Plainly (CompletionClose 1)) end (rw asks ((refl, tt), rw stop ((refl, tt), rw poll ((refl, tt), (close, refl))))) (λ stood reply. refl) refl closes in
        let polls : Completes q s2 v = polling_does q s2 v refl 0 [] (begun m) refl refl now (Plainly (CompletionPoll 1)) (behind (stopped child)) (rw asks ((refl, tt), rw stop ((refl, tt), (poll, refl)))) (λ stood reply. refl) (met_told q s2 v (Some 0) 1 refl frees) in
        polling_announces q s v refl refl 0 [] (begun m) refl refl now (Plainly (Stop value)) (behind (placed_stop child)) (codes "stop") fields (rw asks ((refl, tt), (stop, refl))) (λ stood reply. refl) (stop_told q s1 v (Some 0) value polls)

    stops-valid : IsValidInput (root_steps m) small_begin
    unfolding from_begin after
    stops-valid =
        first_poll (root_steps m) (begun m) (made m alone)
        (polling_does q first_polled v refl 0 [] (begun m) refl refl (taken 0 v.held) (Plainly (Child 0 (codes "stop"))) (behind (polled (begun m) 0 0)) (asks-stopper, refl) (λ stood reply. refl) (child_told q first_polled v (Some 0) 0 (codes "stop") refl stops-at-once (λ error e. let none : Some error ≡ None = e in absurd (cc))))

module _ (m : Maker) (alone : m.with ≡ []) (value number : ℤ) where
  pub stopping-valid : (text_at m.program m.root).lines ≡ StopLine value ∷ End number ∷ [] → IsValidInput (root_steps m) small_begin
  unfolding goes_on
  stopping-valid lines = stops-valid m alone value number None (rw lines refl) None refl

  pub stopping-within-valid : (limit : ℕ) → (text_at m.program m.root).lines ≡ StopWithin value limit ∷ End number ∷ [] → limit ≤ MAX_TIME → IsValidInput (root_steps m) small_begin
  unfolding goes_on sleep_for
  stopping-within-valid limit lines within =
      let early : ltb MAX_TIME (0 + limit) ≡ false = grind arith in
      stops-valid m alone value number (Some limit) (rw lines refl) (Some (limit, until (0 + limit))) (rw early refl)
