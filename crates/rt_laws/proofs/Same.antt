-- The entries of a run determine how it began and ended.
use Rattle.rt_laws.proofs.Prelude.{◌≡◌, ℕ, List, [], ◌∷◌, Option, Some, None, Bool, true, false, ◌&&◌, refl, ap, sym, ◌∙◌, AnswerKind, Pending, Ready, Panicked, Stopped, NoMemory, Ended, Entry, Start, Event, Wake, Root, Round, Visit, Answer, NodeEnd, Advance, Cleanup, Crash, Finish, FinishCause, Completed, TaskPanicked, is_ended, Begin, Outcome, There, Exited, find, is_some_number, is_flagged, State, Phase, Entered, Ending, Leaving, Cleaning, Finished, begun, reached, after, after_all, is_settled, left_of, answered, entered, entered_by, node_ended, cleans, leaves, ended, left_pending, finished, IsLawful, Steps, Value, IsRun}
use Rattle.rt_laws.proofs.Starts.{run_starts}
use Rattle.rt_laws.proofs.Stands.{stands, may_stand}

-- what a start fixes, which isn't whether panics are caught
abbrev AreAlike : Begin → Begin → Type 0
AreAlike b c = b ≡ record c { catch = b.catch }

abbrev begin_of : ℕ → ℕ → Option ℕ → ℕ → Bool → Begin
begin_of start cycle deadline first catch = record { start = start; cycle = cycle; deadline = deadline; first = first; catch = catch }

same-begin : (b c : Begin) → Start b.first b.start b.deadline b.cycle ≡ Start c.first c.start c.deadline c.cycle → AreAlike b c
same-begin b c e =
    let p : b.first ≡ c.first = cc in
    let q : b.start ≡ c.start = cc in
    let r : b.deadline ≡ c.deadline = cc in
    let s : b.cycle ≡ c.cycle = cc in
    let h : begin_of b.start b.cycle b.deadline b.first b.catch ≡ begin_of c.start c.cycle c.deadline c.first b.catch = rw (p, q, r, s) refl in
    h

not-begun : (b : Begin) (cause : FinishCause) → (begun b).phase ≡ Finished cause → ⊥
unfolding begun
not-begun b cause h = cc

ends-begun : (b c : Begin) (x : List Entry) (cause : FinishCause) → IsLawful (begun b) x → IsLawful (begun c) x → (after_all (begun b) x).phase ≡ Finished cause → AreAlike b c
ends-begun b c [] cause l m e = absurd (not-begun b cause e)
ends-begun b c (e ∷ x) cause l m f = same-begin b c (sym (run_starts b e x l) ∙ run_starts c e x m)

-- the cause that the entries keep
abbrev cause_in : List Entry → Option FinishCause
cause_in [] = None
cause_in (Finish cause ∷ x) = Some cause
cause_in (e ∷ x) = cause_in x

abbrev is_over : Phase → Bool
is_over (Finished cause) = true
is_over _ = false

over-by : (stopped flagged : Bool) (task : ℕ) (left : List ℕ) → is_over (entered_by stopped flagged task left) ≡ false
over-by true flagged task left = refl
over-by false true task left = refl
over-by false false task left = refl

over-entered : (s : State) (p : Phase) → is_over p ≡ false → is_over (entered s p) ≡ false
over-entered s (Entered task left) h = over-by (is_some_number task s.root && s.panicked) (is_flagged (find task s.marks)) task left
over-entered s _ h = h

over-node : (p : Phase) → is_over p ≡ false → is_over (node_ended p) ≡ false
over-node (Leaving task result left) h = refl
over-node (Cleaning cause) h = refl
over-node _ h = h

over-cleans : (over : Bool) (cause : Option FinishCause) → is_over (cleans over cause) ≡ false
over-cleans true cause = refl
over-cleans false cause = refl

over-leaves : (settles : Bool) (task : ℕ) (result : Option Outcome) (left : List ℕ) → is_over (leaves settles task result left) ≡ false
over-leaves true task result left = refl
over-leaves false task result left = refl

over-ended : (settles : Bool) (p : Phase) → is_over p ≡ false → is_over (ended settles p) ≡ false
over-ended settles (Ending task result left) h = over-leaves settles task result left
over-ended settles _ h = h

over-pending : (flagged : Bool) (task : ℕ) (left : List ℕ) → is_over (left_pending flagged task left) ≡ false
over-pending true task left = refl
over-pending false task left = refl

over-finished : (is_root : Bool) (cause : FinishCause) (result : Outcome) (task : ℕ) (left : List ℕ) → is_over (finished is_root cause result task left) ≡ false
over-finished true cause result task left = refl
over-finished false cause result task left = refl

over-answered : (s : State) (task : ℕ) (kind : AnswerKind) → is_over s.phase ≡ false → is_over (answered s task kind) ≡ false
over-answered s task Pending h = over-pending (is_flagged (find task s.marks)) task (left_of s.phase)
over-answered s task Ready h = over-finished (is_some_number task s.root) Completed There task (left_of s.phase)
over-answered s task Panicked h = over-finished (is_some_number task s.root) TaskPanicked Exited task (left_of s.phase)
over-answered s task Stopped h = refl
over-answered s task NoMemory h = refl
over-answered s task Ended h = over-ended (is_settled s task) s.phase h

-- behind a finish nothing may come
none-over : (s : State) (x : List Entry) (cause : FinishCause) → s.phase ≡ Finished cause → s.owed ≡ [] → IsLawful s x → x ≡ []
none-over s [] cause h o l = refl
none-over s (Wake task ∷ x) cause h o l = let m = l.0 in absurd (cc)
none-over s (e ∷ x) cause h o l = let z : stands (Finished cause) e ≡ true = rw h at (may_stand s e l.0) in absurd (cc)

keeps-cause : (s : State) (x : List Entry) (cause : FinishCause) → is_over s.phase ≡ false → IsLawful s x → (after_all s x).phase ≡ Finished cause → cause_in x ≡ Some cause
unfolding after
keeps-cause s [] cause h l e = let z : is_over (Finished cause) ≡ false = rw e at h in absurd (cc)
keeps-cause s (Start next now deadline cycle ∷ x) cause h l e = keeps-cause (after s (Start next now deadline cycle)) x cause refl l.1 e
keeps-cause s (Event label fields ∷ x) cause h l e = keeps-cause (after s (Event label fields)) x cause (over-entered s s.phase h) l.1 e
keeps-cause s (Root task ∷ x) cause h l e = keeps-cause (after s (Root task)) x cause refl l.1 e
keeps-cause s (Round order ∷ x) cause h l e = keeps-cause (after s (Round order)) x cause refl l.1 e
keeps-cause s (Visit task ∷ x) cause h l e = keeps-cause (after s (Visit task)) x cause refl l.1 e
keeps-cause s (Answer task kind ∷ x) cause h l e = keeps-cause (after s (Answer task kind)) x cause (over-answered s task kind h) l.1 e
keeps-cause s (NodeEnd node ∷ x) cause h l e = keeps-cause (after s (NodeEnd node)) x cause (over-node s.phase h) l.1 e
keeps-cause s (Advance now ∷ x) cause h l e = keeps-cause (after s (Advance now)) x cause refl l.1 e
keeps-cause s (Cleanup ∷ x) cause h l e = keeps-cause (after s Cleanup) x cause (over-cleans (is_ended s.stood.nodes 0) (reached s)) l.1 e
keeps-cause s (Crash choices ∷ x) cause h l e = keeps-cause (after s (Crash choices)) x cause refl l.1 e
keeps-cause s (Finish other ∷ x) cause h l e =
    let none = none-over (after s (Finish other)) x other refl refl l.1 in
    let same : Finished other ≡ Finished cause = rw none at e in
    cc
keeps-cause s (first ∷ x) cause h l e = keeps-cause (after s first) x cause h l.1 e

pub begun-keeps : (b : Begin) (x : List Entry) (cause : FinishCause) → IsLawful (begun b) x → (after_all (begun b) x).phase ≡ Finished cause → cause_in x ≡ Some cause
unfolding begun
begun-keeps b x cause l e = keeps-cause (begun b) x cause refl l e

module _ (A B O P : Type 0) (p : Steps A O) (q : Steps B P) (b c : Begin) (x : List Entry) (cause other : FinishCause) (end last : State) (v : Value A O) (w : Value B P) (first : IsRun p b x cause end v) (second : IsRun q c x other last w) where
  ends-first : (after_all (begun b) x).phase ≡ Finished cause
  ends-first = ap (λ (s : State). s.phase) first.reaches ∙ first.ends

  ends-second : (after_all (begun c) x).phase ≡ Finished other
  ends-second = ap (λ (s : State). s.phase) second.reaches ∙ second.ends

  pub alike_begin : AreAlike b c
  alike_begin = ends-begun b c x cause first.lawful second.lawful ends-first

  pub same_cause : cause ≡ other
  same_cause =
      let h = begun-keeps b x cause first.lawful ends-first in
      let k = begun-keeps c x other second.lawful ends-second in
      cc

  module _ (catch : b.catch ≡ c.catch) where
    pub same_begin : b ≡ c
    same_begin = alike_begin ∙ rw catch refl

    pub same_end : end ≡ last
    same_end =
        let e : begun b ≡ begun c = ap begun same_begin in
        sym first.reaches ∙ ap (λ s. after_all s x) e ∙ second.reaches
