-- The steps of the loops of a crash.
use Rattle.rt_store.proofs.Prelude.{◌≡◌, ℕ, List, [], ◌∷◌, ◌++◌, length, refl, sym, ap, subst, rules, ◌∙◌, append_assoc, Option, Notes, Choice, Noted, Change, FaultConfig, undone, all_undone, mutations, Chosen, Chooses, replay, replayed}
use Rattle.std.proofs.lemmas.List.{append-nil}
use Rattle.rt_store.proofs.Undone.{undone_snoc}

-- the last change is undone
pub restore_step : (rest before : List Change) (last : Change) (old new all : List ℕ) → rest ≡ before ++ last ∷ [] → new ≡ undone last.before old → all_undone rest old ≡ all → all_undone before new ≡ all
restore_step rest before last old new all e n h =
    ap (λ (b : List ℕ). all_undone before b) n ∙ sym (undone_snoc before last old) ∙ ap (λ (us : List Change). all_undone us old) (sym e) ∙ h

-- a change is done again or not
pub redo_step : (f : FaultConfig) (Done : List Choice → List ℕ → Option (List Noted) → Type 0) (rest tail : List Change) (u : Change) (c : Choice) (old mid : Option (List Noted)) (content next : List ℕ) (choices pushed : List Choice) →
    rest ≡ u ∷ tail → Notes old (Chosen f u.mutation c) mid → next ≡ replayed c u.mutation content → pushed ≡ choices ++ c ∷ [] →
    ((cs : List Choice) (new : Option (List Noted)) → Chooses f (mutations rest) cs old new → Done (choices ++ cs) (replay (mutations rest) cs content) new) →
    ((cs : List Choice) (new : Option (List Noted)) → Chooses f (mutations tail) cs mid new → Done (pushed ++ cs) (replay (mutations tail) cs next) new)
redo_step f Done rest tail u c old mid content next choices pushed e notes n p reach cs new h =
    let bytes = replay (mutations tail) cs (replayed c u.mutation content) in
    let here : Done (choices ++ c ∷ cs) bytes new = subst (λ us. Chooses f (mutations us) (c ∷ cs) old new → Done (choices ++ c ∷ cs) (replay (mutations us) (c ∷ cs) content) new) e (reach (c ∷ cs) new) (mid, notes, h) in
    let joined : Done ((choices ++ c ∷ []) ++ cs) bytes new = subst (λ ks. Done ks bytes new) (sym (append_assoc choices (c ∷ []) cs)) here in
    let put : Done (pushed ++ cs) bytes new = subst (λ ks. Done (ks ++ cs) bytes new) (sym p) joined in
    subst (λ b. Done (pushed ++ cs) (replay (mutations tail) cs b) new) (sym n) put

-- no change is left
pub redo_end : (f : FaultConfig) (Done : List Choice → List ℕ → Option (List Noted) → Type 0) (rest : List Change) (old : Option (List Noted)) (content : List ℕ) (choices : List Choice) →
    length rest ≡ 0 →
    ((cs : List Choice) (new : Option (List Noted)) → Chooses f (mutations rest) cs old new → Done (choices ++ cs) (replay (mutations rest) cs content) new) →
    Done choices content old
redo_end f Done [] old content choices e reach = subst (λ ks. Done ks content old) (append-nil choices) (reach [] old refl)
redo_end f Done (u ∷ us) old content choices e reach = search rules
