-- Who is seated behind what isn't a call.
use Rattle.rt_world.proofs.Prelude.{◌≡◌, ◌∙◌, sym, ℕ, List, Bool, true, false, Option, Some, None, is_some, unwrap_or, Result, Ok, Err, Answer, FinishCause, Completed, Outcome, Open, There, Exited, Closed, reached, after, left_of, find, is_some_number, without, with_outcome, State, Ending, is_ended, Visited, cleanup_by, cleanup_entries, open_in, Seen, StandsFor, StepStands, Turns, Told, pushed_all, MayClose, Roomed, AreSeated, AreThere, IsComing, with_task}
use Rattle.rt_audit.specs.declared.answer.AnswerKind.TheVariants.{Ready}
use Rattle.rt_audit.specs.declared.finish.FinishCause.TheVariants.{NoMemory}
use Rattle.rt_world.proofs.Seats.{numbers-with, put-back, rising-without, rising-gone}
use Rattle.rt_world.proofs.Coming.{coming-cleans, coming-cleaned, results-cleaned, coming-cut, coming-over, coming-turning, coming-put, coming-gone, coming-visiting, there-put, there-ended, there-exited, there-closed, open-ended}

module _ {A O : Type 0} (tasks : Roomed (ℕ × A)) (outputs : Roomed (ℕ × O)) (out : Option ℕ) where
  -- a cleanup begins
  closed-by : (t : Told) (ended : Bool) → AreSeated tasks outputs out t.state → AreSeated tasks outputs out (pushed_all t (cleanup_by ended)).state
  unfolding after
  closed-by t true i = record {
    numbers = i.numbers;
    rising = i.rising;
    runs = i.runs;
    next = i.next;
    first = i.first;
    last = i.last;
    there = i.there;
    coming = coming-cleans t.state.stood.results outputs.items (is_ended t.state.stood.nodes 0) (reached t.state);
    unset = i.unset;
  }
  closed-by t false i =
      let same = results-cleaned (is_ended t.state.stood.nodes 0) (reached t.state) t.state.stood.results in
      record {
        numbers = i.numbers;
        rising = i.rising;
        runs = i.runs;
        next = i.next;
        first = i.first;
        last = i.last;
        there = rw same i.there;
        coming = coming-cleaned _ outputs.items (is_ended t.state.stood.nodes 0) (reached t.state);
        unset = rw same i.unset;
      }

  pub closed-seated : (old new : Seen) → new.told ≡ pushed_all old.told (cleanup_entries old.told.state.stood.nodes) → AreSeated tasks outputs out old.told.state → AreSeated tasks outputs out new.told.state
  closed-seated old new e i = rw e (closed-by old.told (is_ended old.told.state.stood.nodes 0) i)

-- a task has ended in its visit
module _ {A O : Type 0} (tasks : Roomed (ℕ × A)) (outputs : Roomed (ℕ × O)) (task : ℕ) (old new : Seen) (i : AreSeated tasks outputs (Some task) old.told.state) where
  coming-of : old.told.state.phase ≡ Ending task (Some There) (left_of old.told.state.phase) → is_some (find task old.told.state.stood.results) ≡ true → is_some (find task outputs.items) ≡ true
  unfolding IsComing
  coming-of phase h = i.coming task (left_of old.told.state.phase) phase h

  there-visited : (own : Option Outcome) → old.told.state.phase ≡ Ending task own (left_of old.told.state.phase) → open_in own ≡ 0 → AreThere (with_outcome (unwrap_or own Closed) task old.told.state.stood.results) outputs.items
  there-visited None phase open_ = there-closed old.told.state.stood.results outputs.items i.there task
  there-visited (Some There) phase open_ = there-ended old.told.state.stood.results outputs.items i.there task (coming-of phase)
  there-visited (Some Exited) phase open_ = there-exited old.told.state.stood.results outputs.items i.there task
  there-visited (Some Closed) phase open_ = there-closed old.told.state.stood.results outputs.items i.there task
  there-visited (Some (Open waits)) phase open_ = cc

  pub visited-seated : (own : Option Outcome) → old.told.state.phase ≡ Ending task own (left_of old.told.state.phase) → open_in own ≡ 0 → Visited task own old new → AreSeated tasks outputs None new.told.state
  visited-seated own phase open_ v =
      let s = old.told.state in
      record {
        numbers = rw v.running i.numbers;
        rising = rw v.running (rising-without task tasks.first tasks.next s.running i.rising);
        runs = tt;
        next = rw v.numbers i.next;
        first = i.first;
        last = i.last;
        there = rw v.results (there-visited own phase open_);
        coming = rw v.phase (coming-visiting _ _ _);
        unset = rw (v.running, v.results) (open-ended s.running s.stood.results i.unset task _ (rising-gone task tasks.first tasks.next s.running i.rising));
      }

-- the root has finished
pub root-seated : {A O : Type 0} (tasks after_put : Roomed (ℕ × A)) (outputs : Roomed (ℕ × O)) (task : ℕ) (s : State) (a : A) → AreSeated tasks outputs (Some task) s → is_some_number task s.root ≡ true → after_put.items ≡ with_task task a tasks.items → after_put.first ≡ tasks.first → after_put.next ≡ tasks.next → AreSeated after_put outputs None (after s (Answer task Ready))
unfolding after
root-seated tasks after_put outputs task s a i root items first next = record {
  numbers = rw (items, numbers-with task a tasks.items, i.numbers) (put-back task tasks.first tasks.next s.running i.rising i.runs);
  rising = rw (first, next) i.rising;
  runs = tt;
  next = next ∙ i.next;
  first = i.first ∙ sym first;
  last = i.last ∙ sym next;
  there = i.there;
  coming = rw root (coming-over s.stood.results outputs.items Completed);
  unset = i.unset;
}

-- another task has finished, and its output is kept where its result wasn't given up
module _ {A O : Type 0} (tasks after_put : Roomed (ℕ × A)) (outputs outputs_put : Roomed (ℕ × O)) (task : ℕ) (s : State) (a : A) (o : O) (i : AreSeated tasks outputs (Some task) s) (spawned : is_some_number task s.root ≡ false) (items : after_put.items ≡ with_task task a tasks.items) (first : after_put.first ≡ tasks.first) (next : after_put.next ≡ tasks.next) (same_first : outputs_put.first ≡ outputs.first) (same_next : outputs_put.next ≡ outputs.next) where
  finished-seated : AreThere s.stood.results outputs_put.items → IsComing (Ending task (Some There) (left_of s.phase)) s.stood.results outputs_put.items → AreSeated after_put outputs_put None (after s (Answer task Ready))
  unfolding after
  finished-seated there coming = record {
    numbers = rw (items, numbers-with task a tasks.items, i.numbers) (put-back task tasks.first tasks.next s.running i.rising i.runs);
    rising = rw (first, next) i.rising;
    runs = tt;
    next = next ∙ i.next;
    first = same_first ∙ i.first ∙ sym first;
    last = same_next ∙ i.last ∙ sym next;
    there = there;
    coming = rw spawned coming;
    unset = i.unset;
  }

  pub kept-seated : outputs_put.items ≡ with_task task o (without task outputs.items) → AreSeated after_put outputs_put None (after s (Answer task Ready))
  kept-seated put = finished-seated (rw put (there-put s.stood.results outputs.items i.there task o)) (rw put (coming-put s.stood.results task o outputs.items (left_of s.phase)))

  pub dropped-seated : outputs_put.items ≡ outputs.items → is_some (find task s.stood.results) ≡ false → AreSeated after_put outputs_put None (after s (Answer task Ready))
  dropped-seated put gone = finished-seated (rw put i.there) (rw put (coming-gone s.stood.results task outputs.items (left_of s.phase) gone))

-- a clock step has ended: a round may begin, or the cleanup
cut-by : (s : State) (cause : FinishCause) → StandsFor s cause → MayClose s.phase
cut-by s NoMemory cut = cut.closes
cut-by s Completed cut = absurd cut
cut-by s _ cut = cut.0.closes

coming-stepped : {O : Type 0} (s : State) (os : List (ℕ × O)) (result : Result (Unit {0}) FinishCause) → StepStands s result → IsComing s.phase s.stood.results os
coming-stepped s os (Ok step) stands = rw stands.0 (coming-turning s.stood.results os)
coming-stepped s os (Err cause) stands = coming-cut s.stood.results os s.phase (cut-by s cause stands)

pub stepped-seated : {A O : Type 0} (tasks : Roomed (ℕ × A)) (outputs : Roomed (ℕ × O)) (out : Option ℕ) (t u : Told) (result : Result (Unit {0}) FinishCause) → Turns t u → StepStands u.state result → AreSeated tasks outputs out t.state → AreSeated tasks outputs out u.state
stepped-seated tasks outputs out t u result turns stands i = record {
  numbers = rw turns.running i.numbers;
  rising = rw turns.running i.rising;
  runs = rw turns.running i.runs;
  next = rw turns.numbers i.next;
  first = i.first;
  last = i.last;
  there = rw turns.results i.there;
  coming = coming-stepped u.state outputs.items result stands;
  unset = rw (turns.running, turns.results) i.unset;
}
