-- Reports that no runs have.
use Rattle.rt_scripts.proofs.Prelude.{◌≡◌, ◌∙◌, ◌+◌, ◌++◌, List, [], ◌∷◌, ℕ, suc, Bool, true, Some, None, length, refl, sym, ap, arith, length-append, ChaCha, Entry, Starting, Kept, resumed, RunError, RunLine, ScriptText, RunReport, RunResult, Gave, Failed, Maker, Chain, Comes, last_status, report_of, status_of}
use Rattle.std.proofs.Common.{append-nil}
use Rattle.rt_scripts.proofs.Runs.{kept-journal}

module _ (scripts : List ScriptText) (from : Starting ChaCha) where
  -- nothing is reported without a line
  pub no-report-without-a-line : (whole : Bool) (run : RunReport) (runs : List RunReport) (entries : List Entry) → Chain whole scripts from [] (run ∷ runs) entries → ⊥
  no-report-without-a-line whole run runs entries h = h

  -- nothing is kept of a run that failed
  none-kept : (maker : Maker) (own : List Entry) (time : ℕ) (result : RunResult) (error : RunError) (kept : Kept ChaCha) → result ≡ Failed error → Comes maker from own time result (Some kept) → ⊥
  none-kept maker own time result error kept is comes = rw is at comes

  -- what failed has another status
  gives : (maker : Maker) (own : List Entry) (time : ℕ) (result : RunResult) → status_of result ≡ 0 → Comes maker from own time result None → ⊥
  gives maker own time (Gave output) is comes = comes
  gives maker own time (Failed error) is comes = cc

  -- a run that failed is the last
  pub no-report-behind-a-failure : (whole : Bool) (line : RunLine) (lines : List RunLine) (run next : RunReport) (runs : List RunReport) (entries : List Entry) (error : RunError) → run.result ≡ Failed error → Chain whole scripts from (line ∷ lines) (run ∷ next ∷ runs) entries → ⊥
  no-report-behind-a-failure whole line lines run next runs entries error failed (own, rest, None, is, reported, behind) = let n = ap length behind.1 in omega arith
  no-report-behind-a-failure whole line lines run next runs entries error failed (own, rest, Some kept, is, reported, behind) = none-kept reported.maker own run.time run.result error kept failed reported.comes

  -- the entries of each run begin where those of the one before end
  pub begins-behind : (whole : Bool) (line : RunLine) (lines : List RunLine) (run next : RunReport) (runs : List RunReport) (entries : List Entry) → Chain whole scripts from (line ∷ lines) (run ∷ next ∷ runs) entries → next.from ≡ run.to
  begins-behind whole line lines run next runs entries (own, rest, None, is, reported, behind) = let n = ap length behind.1 in absurd (omega arith)
  begins-behind whole line [] run next runs entries (own, rest, Some kept, is, reported, behind) = absurd behind
  begins-behind whole line (second ∷ lines) run next runs entries (own, rest, Some kept, is, reported, behind) =
      ap (λ (r : RunReport). r.from) behind.4.is
      ∙ ap length (kept-journal from reported.maker own run.time run.result kept reported.comes)
      ∙ length-append from.given own
      ∙ sym (ap (λ (r : RunReport). r.to) reported.is)

-- where the last run gave an output, each line has its report
pub each-line : (scripts : List ScriptText) (from : Starting ChaCha) (lines : List RunLine) (runs : List RunReport) (entries : List Entry) → last_status runs ≡ 0 → Chain true scripts from lines runs entries → length runs ≡ length lines
each-line scripts from lines [] entries is h = ap length (sym h.0)
each-line scripts from [] (run ∷ runs) entries is h = absurd h
each-line scripts from (line ∷ lines) (run ∷ []) entries is (own, rest, None, all, reported, behind) = absurd (gives scripts from reported.maker own run.time run.result is reported.comes)
each-line scripts from (line ∷ lines) (run ∷ []) entries is (own, rest, Some kept, all, reported, behind) = ap suc (each-line scripts (resumed kept) lines [] rest refl behind)
each-line scripts from (line ∷ lines) (run ∷ next ∷ runs) entries is (own, rest, None, all, reported, behind) = let n = ap length behind.1 in absurd (omega arith)
each-line scripts from (line ∷ lines) (run ∷ next ∷ runs) entries is (own, rest, Some kept, all, reported, behind) = ap suc (each-line scripts (resumed kept) lines (next ∷ runs) rest is behind)

-- the entries of the last run end the journal
ends-alone : (given own rest entries : List Entry) (root : List ℕ) (result : RunResult) (time : ℕ) (run : RunReport) → entries ≡ own ++ rest → rest ≡ [] → run ≡ report_of root result time given own → run.to ≡ length given + length entries
ends-alone given own rest entries root result time run all none is = rw (is, all, none, append-nil own) refl

pub to-the-end : (scripts : List ScriptText) (from : Starting ChaCha) (lines : List RunLine) (runs : List RunReport) (run : RunReport) (entries : List Entry) → Chain true scripts from lines (runs ++ run ∷ []) entries → run.to ≡ length from.given + length entries
to-the-end scripts from [] [] run entries h = absurd h
to-the-end scripts from [] (first ∷ runs) run entries h = absurd h
to-the-end scripts from (line ∷ lines) [] run entries (own, rest, None, all, reported, behind) = ends-alone from.given own rest entries _ _ _ run all behind.2 reported.is
to-the-end scripts from (line ∷ lines) [] run entries (own, rest, Some kept, all, reported, behind) = ends-alone from.given own rest entries _ _ _ run all behind.1 reported.is
to-the-end scripts from (line ∷ lines) (first ∷ runs) run entries (own, rest, None, all, reported, behind) = let n = ap length behind.1 in absurd (omega (arith, length-append runs (run ∷ [])))
to-the-end scripts from (line ∷ lines) (first ∷ runs) run entries (own, rest, Some kept, all, reported, behind) =
    let end = to-the-end scripts (resumed kept) lines runs run rest behind in
    let given = ap length (kept-journal from reported.maker own first.time first.result kept reported.comes) in
    let whole = ap length all in
    omega (arith, end, given, whole, length-append from.given own, length-append own rest)
