-- The end of a visit in its two parts.
use Rattle.rt_machine.proofs.Prelude.{◌≡◌, ◌∙◌, ℕ, List, refl, ap, true, false, Option, Some, None, is_some, is_none, unwrap_or, Mark, Outcome, Closed, TaskResult, find, Leaving, is_ended_at, with_outcome, left_of, TreeRecord, Seen, Left, Gone, Visited, ended_results}
use Rattle.rt_machine.proofs.Calm.{calmly-calmly}

-- a task whose node hasn't ended has a mark
marked : (nodes : TreeRecord) (m : Option Mark) → is_ended_at nodes m ≡ false → is_some m ≡ true
marked nodes None h = cc
marked nodes (Some m) h = refl

results-once : (own : Option Outcome) (task : ℕ) (rs : List (ℕ × TaskResult)) → ended_results own true task rs ≡ with_outcome (unwrap_or own Closed) task rs
results-once None task rs = refl
results-once (Some o) task rs = refl

results-twice : (own : Option Outcome) (task : ℕ) (rs : List (ℕ × TaskResult)) → ended_results None (is_none own) task (ended_results own false task rs) ≡ with_outcome (unwrap_or own Closed) task rs
results-twice None task rs = refl
results-twice (Some o) task rs = refl

pub visited-once : (task : ℕ) (own : Option Outcome) (old new : Seen) → Left task own true old new → Visited task own old new
visited-once task own old new l = record {
  phase = l.phase;
  begin = l.begin;
  given = l.given;
  clock = l.clock;
  root = l.root;
  numbers = l.numbers;
  running = l.running;
  results = l.results ∙ results-once own task old.told.state.stood.results;
  slots = l.slots;
  lacked = l.lacked;
}

-- behind the first part the node is to end
pub left-leaving : (task : ℕ) (own : Option Outcome) (old new : Seen) → Left task own false old new → new.told.state.phase ≡ Leaving task own (left_of new.told.state.phase)
left-leaving task own old new l = rw l.phase refl

pub left-marked : (task : ℕ) (own : Option Outcome) (old new : Seen) → Left task own false old new → is_ended_at old.told.state.stood.nodes (find task old.told.state.marks) ≡ false → is_some (find task new.told.state.marks) ≡ true
left-marked task own old new l h = rw l.marks (marked old.told.state.stood.nodes (find task old.told.state.marks) h)

pub visited-twice : (task : ℕ) (own : Option Outcome) (old mid new : Seen) → Left task own false old mid → Gone task own mid new → Visited task own old new
visited-twice task own old mid new l g = record {
  phase = g.phase ∙ rw l.phase refl;
  begin = g.begin ∙ l.begin;
  given = g.given ∙ l.given;
  clock = g.clock ∙ l.clock;
  root = g.root ∙ l.root;
  numbers = g.numbers ∙ l.numbers;
  running = g.running ∙ l.running;
  results = g.results ∙ ap (λ rs. ended_results None (is_none own) task rs) l.results ∙ results-twice own task old.told.state.stood.results;
  slots = g.slots ∙ l.slots;
  lacked = g.lacked ∙ l.lacked;
}

pub ruleset visit_laws = (visited-once, left-leaving, left-marked, visited-twice, calmly-calmly)
