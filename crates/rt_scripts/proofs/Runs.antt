-- Runs as a simulation reports them.
use Rattle.rt_scripts.proofs.Prelude.{subst, inl, ◌≡◌, ◌∙◌, ◌++◌, ◌∷◌, ◌≢◌, ℕ, ◌+◌, ◌≤◌, List, [], refl, sym, ap, ℤ, Bool, true, false, Some, None, ◌<◌, length, take, drop, All, arith, append_assoc, length-append, append-nil, take-append-drop, length-take-le, All-nil, All-cons, slice_get-get_or, take-append_seam, drop-append_seam, ChaCha, digest_of, last_time, rounds_in, rounds-append, Journal, Entry, Completes, Fails, RunError, Starting, Kept, resumed, chacha_stream, RunLine, ScriptText, RunReport, RunResult, Gave, Failed, Maker, no_text, text_at, HasFailed, Lacked, CameOf, root_steps, Comes, Makes, IsReported, Halts, Chain, report_of, maker_of, status_of, last_status, StandsIn}
use Rattle.rt_model.specs.State.{begun}
use Rattle.rt_core.specs.declared.run_error.RunError.TheVariants.{NoMemory}
use Rattle.rt_scripts.specs.declared.simulate.Came.TheVariants.{Completed}

-- runs so far, and how the rest goes on
module _ (scripts : List ScriptText) (first : Starting ChaCha) (lines : List RunLine) where
  -- whatever follows from here follows these
  abbrev pub GoesFrom : Starting ChaCha → List RunLine → List RunReport → List Entry → Type 0
  GoesFrom from rest runs done = (whole : Bool) (more : List RunReport) (entries : List Entry) → Chain whole scripts from rest more entries → Chain whole scripts first lines (runs ++ more) (done ++ entries)

  -- a run more, from which others go on
  pub goes-more : (from : Starting ChaCha) (line : RunLine) (rest : List RunLine) (runs : List RunReport) (done own : List Entry) (run : RunReport) (kept : Kept ChaCha) → IsReported scripts line from own run (Some kept) → GoesFrom from (line ∷ rest) runs done → GoesFrom (resumed kept) rest (runs ++ run ∷ []) (done ++ own)
  goes-more from line rest runs done own run kept reported goes whole more entries chain =
      rw (append_assoc runs (run ∷ []) more, append_assoc done own entries)
      (goes whole (run ∷ more) (own ++ entries) (own, entries, Some kept, refl, reported, chain))

  -- and the next runner begins with what was kept of it
  pub goes-on : (next from : Starting ChaCha) (line : RunLine) (rest : List RunLine) (runs more : List RunReport) (own : List Entry) (run : RunReport) (kept : Kept ChaCha) → next ≡ resumed kept → more ≡ runs ++ run ∷ [] → kept.journal ≡ from.given ++ own → IsReported scripts line from own run (Some kept) → GoesFrom from (line ∷ rest) runs from.given → GoesFrom next rest more next.given
  goes-on next from line rest runs more own run kept is pushed journal reported goes =
      rw (is, pushed) (subst (λ done. GoesFrom (resumed kept) rest (runs ++ run ∷ []) done) (sym journal) (goes-more from line rest runs from.given own run kept reported goes))

  -- no line is left
  pub goes-whole : (from : Starting ChaCha) (runs : List RunReport) (done : List Entry) → GoesFrom from [] runs done → Chain true scripts first lines runs done
  goes-whole from runs done goes = let all = goes true [] [] (refl, refl) in rw (append-nil runs, append-nil done) at all

  -- the last run failed
  pub goes-failed : (from : Starting ChaCha) (line : RunLine) (rest : List RunLine) (runs : List RunReport) (done own : List Entry) (run : RunReport) → IsReported scripts line from own run None → GoesFrom from (line ∷ rest) runs done → Chain true scripts first lines (runs ++ run ∷ []) (done ++ own)
  goes-failed from line rest runs done own run reported goes =
      goes true (run ∷ []) own (own, [], None, sym (append-nil own), reported, (refl, refl, refl))

  -- a run lacked memory
  pub goes-halted : (from : Starting ChaCha) (line : RunLine) (rest : List RunLine) (runs : List RunReport) (done own : List Entry) → Halts scripts line from own → GoesFrom from (line ∷ rest) runs done → Chain false scripts first lines runs (done ++ own)
  goes-halted from line rest runs done own halts goes = let all = goes false [] own halts in rw (append-nil runs) at all

-- the journal that is kept of a run
pub kept-journal : (from : Starting ChaCha) (maker : Maker) (own : List Entry) (time : ℕ) (result : RunResult) (kept : Kept ChaCha) → Comes maker from own time result (Some kept) → kept.journal ≡ from.given ++ own
kept-journal from maker own time (Gave output) kept comes = comes.0
kept-journal from maker own time (Failed error) kept comes = absurd comes

stands : (given own rest : List Entry) (root : List ℕ) (result : RunResult) (time : ℕ) (run : RunReport) → run ≡ report_of root result time given own → StandsIn (length (given ++ (own ++ rest))) run
stands given own rest root result time run is = rw is (omega arith, omega (arith, length-append given (own ++ rest), length-append own rest))

-- the entries of each run that is reported are among all
pub chain-within : (whole : Bool) (scripts : List ScriptText) (from : Starting ChaCha) (lines : List RunLine) (runs : List RunReport) (entries : List Entry) → Chain whole scripts from lines runs entries → All (StandsIn (length (from.given ++ entries))) runs
chain-within whole scripts from lines [] entries h = All-nil (StandsIn (length (from.given ++ entries)))
chain-within whole scripts from [] (run ∷ runs) entries h = absurd h
chain-within whole scripts from (line ∷ lines) (run ∷ runs) entries (own, rest, None, is, reported, behind) =
    let n = length (from.given ++ entries) in
    rw (behind.1)
    (All-cons (StandsIn n) run [] (rw is (stands from.given own rest _ run.result run.time run reported.is)) (All-nil (StandsIn n)))
chain-within whole scripts from (line ∷ lines) (run ∷ runs) entries (own, rest, Some kept, is, reported, behind) =
    let n = length (from.given ++ entries) in
    let journal = kept-journal from reported.maker own run.time run.result kept reported.comes in
    let same : kept.journal ++ rest ≡ from.given ++ entries = rw (journal, is) (append_assoc from.given own rest) in
    All-cons (StandsIn n) run runs (rw is (stands from.given own rest _ run.result run.time run reported.is))
    (rw same at (chain-within whole scripts (resumed kept) lines runs rest behind))

-- where the entries of a run end the next one's begin
pub next-place : (scripts : List ScriptText) (next from : Starting ChaCha) (line : RunLine) (own : List Entry) (run : RunReport) (kept : Kept ChaCha) → next ≡ resumed kept → kept.journal ≡ from.given ++ own → IsReported scripts line from own run (Some kept) → run.to ≡ length next.given
next-place scripts next from line own run kept is journal reported =
    rw is (ap (λ (r : RunReport). r.to) reported.is ∙ sym (length-append from.given own) ∙ ap length (sym journal))

-- the same runs, of what is known to be the same
pub chain-is : (flag whole : Bool) (program scripts : List ScriptText) (first from : Starting ChaCha) (lines all : List RunLine) (runs : List RunReport) (entries : List Entry) → flag ≡ whole → program ≡ scripts → first ≡ from → lines ≡ all → Chain flag program first lines runs entries → Chain whole scripts from all runs entries
chain-is flag whole program scripts first from lines all runs entries f p s l chain = rw (f, p, s, l) at chain

-- a line that can be run names a script
pub makes-at : (scripts : List ScriptText) (line : RunLine) → line.root < length scripts → Makes scripts line (text_at scripts line.root) (maker_of scripts line)
makes-at scripts line h = record { there = slice_get-get_or scripts line.root no_text h; program = refl; at = refl; with = refl }

-- the report of entries from a place on
pub reported-at : (root : List ℕ) (result : RunResult) (time place : ℕ) (given own all : List Entry) → all ≡ given ++ own → place ≡ length given → report_of root result time (take place all) (drop place all) ≡ report_of root result time given own
reported-at root result time place given own all is at =
    rw (is, at, take-append_seam given own, drop-append_seam given own) refl

-- the rounds behind a place are those that aren't ahead of it
pub rounds_behind : (place : ℕ) (entries : List Entry) → rounds_in entries ≡ rounds_in (take place entries) + rounds_in (drop place entries)
rounds_behind place entries =
    ap rounds_in (sym (take-append-drop place entries)) ∙ rounds-append (take place entries) (drop place entries)

-- what is told of the entries behind a place is their report
pub reported-from : (root : List ℕ) (result : RunResult) (time place : ℕ) (all : List Entry) → place ≤ length all → report_of root result time (take place all) (drop place all) ≡ record { root = root; result = result; from = place; to = length all; digest = digest_of all; time = time; rounds = rounds_in (drop place all) }
reported-from root result time place all within =
    let cut = take-append-drop place all in
    let to : length (take place all) + length (drop place all) ≡ length all =
    sym (length-append (take place all) (drop place all)) ∙ ap length cut in
    rw (to, length-take-le place all within, cut) refl

-- what the run of a line came to
module _ (scripts : List ScriptText) (line : RunLine) (from : Starting ChaCha) (there : line.root < length scripts) where
  -- it lacked memory before its first entry
  pub nothing-run : Halts scripts line from []
  unfolding begun
  nothing-run = record {
    script = text_at scripts line.root;
    maker = maker_of scripts line;
    makes = makes-at scripts line there;
    lacks = record { entries = []; left = chacha_stream from.rng; extends = refl; failed = inl refl; facts = record { drawn = tt; draws = refl; digested = tt } };
  }

  made-at : (m : Maker) → m ≡ maker_of scripts line → Makes scripts line (text_at scripts line.root) m
  made-at m is = rw is (makes-at scripts line there)

  -- it gave an output
  pub comes-whole : (m : Maker) (run : RunReport) (output : ℤ) (kept : Kept ChaCha) (place : ℕ) → m ≡ maker_of scripts line → Completes chacha_stream (root_steps m) from output kept → place ≡ length from.given → run ≡ report_of (text_at scripts line.root).name (Gave output) kept.time (take place kept.journal) (drop place kept.journal) → CameOf scripts line from (Completed run kept)
  comes-whole m run output kept place is completes at ran =
      let own = completes.entries in
      let journal = ap (λ (k : Kept ChaCha). k.journal) completes.keeps in
      rw ran (
        own,
        journal,
        record {
          script = text_at scripts line.root;
          maker = m;
          makes = made-at m is;
          comes = (journal, refl, completes);
          is = reported-at (text_at scripts line.root).name (Gave output) kept.time place from.given own kept.journal journal at;
        },
      )

  -- it failed
  pub comes-failed : (m : Maker) (run : RunReport) (journal : Journal) (error : RunError) (place : ℕ) → m ≡ maker_of scripts line → error ≢ NoMemory → Fails chacha_stream (root_steps m) from journal.entries error → place ≡ length from.given → run ≡ report_of (text_at scripts line.root).name (Failed error) (last_time journal.entries) (take place journal.entries) (drop place journal.entries) → CameOf scripts line from (HasFailed run journal)
  comes-failed m run journal error place is other fails at ran =
      let own = fails.entries in
      rw ran (
        own,
        fails.extends,
        record {
          script = text_at scripts line.root;
          maker = m;
          makes = made-at m is;
          comes = (other, ap last_time (sym fails.extends), subst (λ all. Fails chacha_stream (root_steps m) from all error) fails.extends fails);
          is = reported-at (text_at scripts line.root).name (Failed error) (last_time journal.entries) place from.given own journal.entries fails.extends at;
        },
      )

  -- it lacked memory
  pub halts-at : (m : Maker) (journal : Journal) (error : RunError) → m ≡ maker_of scripts line → error ≡ NoMemory → Fails chacha_stream (root_steps m) from journal.entries error → CameOf scripts line from (Lacked journal)
  halts-at m journal error is lacked fails = (
    fails.entries,
    fails.extends,
    record {
      script = text_at scripts line.root;
      maker = m;
      makes = made-at m is;
      lacks = subst (λ cause. Fails chacha_stream (root_steps m) from (from.given ++ fails.entries) cause) lacked (subst (λ all. Fails chacha_stream (root_steps m) from all error) fails.extends fails);
    },
  )

-- the status behind these reports, or this one where there is none
abbrev pub last_or : ℕ → List RunReport → ℕ
last_or status [] = status
last_or status (run ∷ runs) = last_status (run ∷ runs)

pub last-begins : (runs : List RunReport) → last_or 0 runs ≡ last_status runs
last-begins [] = refl
last-begins (run ∷ runs) = refl

pub last-more : (status : ℕ) (run : RunReport) (runs : List RunReport) → last_or (status_of run.result) runs ≡ last_or status (run ∷ runs)
last-more status run [] = refl
last-more status run (next ∷ runs) = refl

pub ruleset last_laws = (last-begins, last-more)
