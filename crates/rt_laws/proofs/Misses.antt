-- The near misses of the examples are no runs.
use Rattle.rt_laws.proofs.Prelude.{◌≡◌, ◌≢◌, ◌<◌, inl, inr, ℕ, true, false, leb, List, [], ◌∷◌, ◌++◌, Some, refl, sym, ap, ◌∙◌, arith, MAX_TIME, CallOf, CallReply, AnswersReady, Ended, FinishCause, Completed, Entry, Answered, NodeEnd, Advance, Skip, Fire, Cleanup, Crash, Finish, State, begun, after, after_all, IsLawful, Steps, Value, nothing, IsTied, IsRun, small_begin, ready_root, opening, visiting_root, still_asleep, awake, root_ends, finishing, open_node, ordered, finished_for, called, fires_with, early_fire, early_sleep, skipped_journal}
use Rattle.rt_audit.specs.declared.finish.FinishCause.TheVariants.{NoMemory}
use Rattle.rt_audit.specs.declared.entry.Entry.TheVariants.{Call}
use Rattle.rt_laws.proofs.Clock.{lawful-tail}
use Rattle.rt_laws.proofs.Valid.{only}
use Rattle.rt_laws.proofs.Values.{all-whole, not-whole}

abbrev ready : List Entry
ready = opening ++ visiting_root ++ (Answered 0 AnswersReady ∷ [])

pub no_other_order : (order : List ℕ) → order ≢ 0 ∷ [] → IsLawful (begun small_begin) (ordered order) → ⊥
unfolding begun after
no_other_order order n l = n (only 0 order l.1.1.0.1.1)

pub no_other_cause : (cause : FinishCause) → cause ≢ Completed → cause ≢ NoMemory → IsLawful (begun small_begin) (finished_for cause) → ⊥
unfolding begun after
no_other_cause cause n k l = elim (lawful-tail (begun small_begin) (ready ++ root_ends ++ (Crash [] ∷ [])) (Finish cause ∷ []) l).0.1 [ inl e ↦ k e | inr e ↦ n (cc) ]

pub no_missing_wake : (due : ℕ) → IsLawful (begun small_begin) (fires_with due []) → ⊥
unfolding begun after
no_missing_wake due l =
    let m = (lawful-tail (begun small_begin) (opening ++ visiting_root ++ still_asleep due ++ (Advance 1000000 ∷ Skip due ∷ Fire 0 ∷ [])) (Cleanup ∷ []) l).0.0 in
    cc

pub no_early_fire : (due : ℕ) → 1000000 < due → IsLawful (begun small_begin) (early_fire due) → ⊥
unfolding begun after
no_early_fire due later l =
    let m = (lawful-tail (begun small_begin) (opening ++ visiting_root ++ still_asleep due ++ (Advance 1000000 ∷ [])) (Fire 0 ∷ []) l).0.1.2 in
    let early : leb due 1000000 ≡ false = grind arith in
    cc

pub no_early_sleep : (due : ℕ) → 0 < due → IsLawful (begun small_begin) (early_sleep due) → ⊥
unfolding begun after
no_early_sleep due later l =
    let m = (lawful-tail (begun small_begin) (opening ++ visiting_root) (awake due ++ root_ends ++ finishing Completed) l).0.1.1 in
    absurd (omega arith)

pub no_late_due : (due : ℕ) → MAX_TIME < due → IsLawful (begun small_begin) (skipped_journal due) → ⊥
unfolding begun after
no_late_due due late l =
    let m = l.1.1.1.1.1.0.1.1.1 in
    absurd (omega arith)

-- behind a front that is tied, this is tied from some value
pub tied-tail : {A O : Type 0} → (p : Steps A O) (s : State) (v w : Value A O) (x y : List Entry) → IsTied p s v (x ++ y) w → (u : Value A O) × IsTied p (after_all s x) u y w
tied-tail p s v w [] y t = (v, t)
tied-tail p s v w (e ∷ x) y t = tied-tail p (after s e) t.0 w x y t.2

-- and the front is tied up to that value
pub tied-front : {A O : Type 0} → (p : Steps A O) (s : State) (v w : Value A O) (x y : List Entry) → (t : IsTied p s v (x ++ y) w) → IsTied p s v x (tied-tail p s v w x y t).0
unfolding tied-tail
tied-front p s v w [] y t = refl
tied-front p s v w (e ∷ x) y t = (t.0, t.1, tied-front p (after s e) t.0 w x y t.2)

module _ (number : ℕ) (cause : FinishCause) (end : State) (value : Value (Unit {0}) ℕ) where
  pub no_open_node : IsRun (ready_root number) small_begin open_node cause end value → ⊥
  unfolding begun after
  no_open_node r =
      let p = ready_root number in
      let front = ready ++ (Cleanup ∷ NodeEnd 0 ∷ []) in
      let t = tied-tail p (begun small_begin) nothing value front (Answered 0 Ended ∷ finishing Completed) r.tied in
      let u : Value (Unit {0}) ℕ = t.0 in
      let w : Value (Unit {0}) ℕ = t.1.0 in
      let whole : w.whole ≡ true = all-whole p (after_all (begun small_begin) (front ++ (Answered 0 Ended ∷ []))) w value (finishing Completed) t.1.2 r.whole in
      elim t.1.1.2 [
        | inl k ↦ (let closed = k.0.0 in absurd (cc))
        | inr k ↦ not-whole w (record u { held = w.held; whole = false }) whole refl k.1
      ]

  pub no_unasked_call : (call : CallOf) (reply : CallReply) → IsRun (ready_root number) small_begin (called call reply) cause end value → ⊥
  unfolding begun after
  no_unasked_call call reply r =
      let t = tied-tail (ready_root number) (begun small_begin) nothing value (opening ++ visiting_root ++ (Call (Some 0) call reply ∷ [])) (Answered 0 AnswersReady ∷ root_ends ++ finishing Completed) r.tied in
      t.1.1.2.walks

  pub no_lacking_run : IsRun (ready_root number) small_begin (finished_for NoMemory) cause end value → ⊥
  unfolding begun after
  no_lacking_run r =
      let e = ap (λ (s : State). s.phase) r.reaches ∙ r.ends in
      let same : NoMemory ≡ cause = cc in
      r.caused (sym same)
