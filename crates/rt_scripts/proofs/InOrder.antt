-- The runs of a scenario are runs one after another, of which none begins before the end of the one ahead of it.
use Rattle.rt_scripts.proofs.Prelude.{◌≡◌, ◌≤◌, ◌++◌, ◌∙◌, inl, inr, List, [], ◌∷◌, ℕ, ℤ, Bool, true, false, Option, Some, None, sym, ap, arith, append-nil, append_cancel_left, ChaCha, last_time, Entry, FinishCause, Completed, OutOfMemory, Begin, Finished, after_all, IsLawful, FailedBy, next_begin, AreLawful, rises-before, join_runs, run_alone, RunError, TaskPanicked, finish_of, Completes, Fails, FailedFor, Starting, Kept, resumed, chacha_stream, RunLine, Whole, BrokenAt, ScriptText, RunReport, RunResult, Failed, Outcome, Asked, NoCommand, TooLong, Reads, Answers, Lacks, Ends, Maker, Chain, Comes, root_steps, starting}
use Rattle.rt_model.specs.State.{begun}
use Rattle.rt_core.specs.declared.run_error.RunError.TheVariants.{NoMemory}
use Rattle.rt_scripts.specs.declared.outcome.RunResult.TheVariants.{Ok}

module _ (maker : Maker) (from : Starting ChaCha) (own : List Entry) where
  by-lawful : (x : List Entry) (cause : FinishCause) → FailedBy (root_steps maker) from.begin x cause → IsLawful (begun from.begin) x
  by-lawful x OutOfMemory (inl none) = rw none tt
  by-lawful x OutOfMemory (inr cut) = cut.lawful
  by-lawful x _ failed = failed.2.lawful

  for-lawful : (x : List Entry) (error : RunError) → FailedFor (root_steps maker) from.begin x error → IsLawful (begun from.begin) x
  for-lawful x (TaskPanicked text) (end, value, run, panic) = run.lawful
  for-lawful x error failed = by-lawful x (finish_of error) failed

  failed-lawful : (error : RunError) → Fails chacha_stream (root_steps maker) from (from.given ++ own) error → IsLawful (begun from.begin) own
  failed-lawful error f =
      let same : own ≡ f.entries = append_cancel_left from.given own f.entries f.extends in
      rw same (for-lawful f.entries error f.failed)

  -- what a run has that gave its output
  record Gave (kept : Kept ChaCha) : Type 0 where
    pub lawful : IsLawful (begun from.begin) own
    pub ends : (after_all (begun from.begin) own).phase ≡ Finished Completed
    pub next : (resumed kept).begin ≡ next_begin (after_all (begun from.begin) own)

  completed : (output : ℤ) (kept : Kept ChaCha) → kept.journal ≡ from.given ++ own → Completes chacha_stream (root_steps maker) from output kept → Gave kept
  completed output kept journal c =
      let same : own ≡ c.entries = append_cancel_left from.given own c.entries (sym journal ∙ ap (λ (k : Kept ChaCha). k.journal) c.keeps) in
      record {
        lawful = rw same c.run.lawful;
        ends = rw (same, c.run.reaches) c.run.ends;
        next = rw (same, c.run.reaches) (ap (λ (k : Kept ChaCha). (resumed k).begin) c.keeps);
      }

-- a run that gave an output, and those behind it
goes-on : (maker : Maker) (from : Starting ChaCha) (own rest : List Entry) (kept : Kept ChaCha) → Gave maker from own kept → AreLawful (begun (resumed kept).begin) rest → AreLawful (begun from.begin) (own ++ rest)
goes-on maker from own rest kept gave behind = join_runs from.begin own rest gave.lawful gave.ends (rw (← gave.next) behind)

-- by what a run came to
came-failed : (maker : Maker) (from : Starting ChaCha) (own : List Entry) (time : ℕ) (result : RunResult) → Comes maker from own time result None → AreLawful (begun from.begin) own
came-failed maker from own time (Ok output) comes = absurd comes
came-failed maker from own time (Failed error) comes = run_alone from.begin own (failed-lawful maker from own error comes.2)

came-kept : (maker : Maker) (from : Starting ChaCha) (own : List Entry) (time : ℕ) (result : RunResult) (kept : Kept ChaCha) → Comes maker from own time result (Some kept) → Gave maker from own kept
came-kept maker from own time (Ok output) kept comes = completed maker from own output kept comes.0 comes.2
came-kept maker from own time (Failed error) kept comes = absurd comes

pub chain-in-order : (whole : Bool) (scripts : List ScriptText) (from : Starting ChaCha) (lines : List RunLine) (runs : List RunReport) (entries : List Entry) → Chain whole scripts from lines runs entries → AreLawful (begun from.begin) entries
chain-in-order true scripts from lines [] entries h = rw (h.1) tt
chain-in-order false scripts from [] [] entries h = absurd h
chain-in-order false scripts from (line ∷ lines) [] entries h = run_alone from.begin entries (failed-lawful h.maker from entries NoMemory h.lacks)
chain-in-order whole scripts from [] (run ∷ runs) entries h = absurd h
chain-in-order whole scripts from (line ∷ lines) (run ∷ runs) entries (own, rest, None, is, reported, behind) =
    rw (is, behind.2, append-nil own) (came-failed reported.maker from own run.time run.result reported.comes)
chain-in-order whole scripts from (line ∷ lines) (run ∷ runs) entries (own, rest, Some kept, is, reported, behind) =
    rw is (goes-on reported.maker from own rest kept (came-kept reported.maker from own run.time run.result kept reported.comes) (chain-in-order whole scripts (resumed kept) lines runs rest behind))

-- so time never goes back in the journal of an outcome, however the call ended

abbrev Rises : List Entry → Type 0
Rises entries = (x y z : List Entry) → entries ≡ (x ++ y) ++ z → last_time x ≤ last_time (x ++ y)

rises-none : (entries : List Entry) → entries ≡ [] → Rises entries
rises-none entries none [] y z is = omega arith
rises-none entries none (e ∷ x) y z is = let k = sym none ∙ is in absurd (cc)

rises-chain : (whole : Bool) (scripts : List ScriptText) (from : Starting ChaCha) (lines : List RunLine) (runs : List RunReport) (entries : List Entry) → Chain whole scripts from lines runs entries → Rises entries
rises-chain whole scripts from lines runs entries h x y z is =
    let o : AreLawful (begun from.begin) ((x ++ y) ++ z) = rw is at (chain-in-order whole scripts from lines runs entries h) in
    rises-before from.begin x y z o

answered-rises : (asked : Asked) (o : Outcome) → Answers asked o → Rises o.journal.entries
answered-rises NoCommand o a = rises-none o.journal.entries a.2
answered-rises TooLong o a = rises-none o.journal.entries a.2
answered-rises (Reads (BrokenAt line kind)) o a = rises-none o.journal.entries a.2
answered-rises (Reads (Whole s)) o a = rises-chain true s.scripts (starting s.settings) s.runs o.runs o.journal.entries a.chain

halted-rises : (asked : Asked) (runs : List RunReport) (entries : List Entry) → Lacks asked runs entries → Rises entries
halted-rises (Reads (Whole s)) runs entries h = rises-chain false s.scripts (starting s.settings) s.runs runs entries h
halted-rises asked runs entries h = absurd h

pub journal-rises : (asked : Asked) (o : Outcome) (before after : Option (List ℕ)) → Ends asked o before after → (x y z : List Entry) → o.journal.entries ≡ (x ++ y) ++ z → last_time x ≤ last_time (x ++ y)
journal-rises asked o before after (inl (inl done)) = answered-rises asked o done.0
journal-rises asked o before after (inl (inr (inl cut))) = answered-rises asked (record o { status = cut.1.0 }) cut.1.1
journal-rises asked o before after (inl (inr (inr bare))) = rises-none o.journal.entries bare.2
journal-rises asked o before after (inr halted) = halted-rises asked o.runs o.journal.entries halted.1
