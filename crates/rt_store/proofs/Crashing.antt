-- The steps of the loops of a crash over many blobs.
use Rattle.rt_store.proofs.Prelude.{◌≡◌, ℕ, ◌≤◌, List, [], ◌∷◌, ◌++◌, length, take, drop, append-nil, arith, refl, sym, ap, subst, ◌∙◌, take-append_seam, drop-append_seam, take-append-le, drop-append-le, length-take, Option, Choice, Noted, FaultConfig, Mutation, Chooses, ChoosesAll, all_crashed, crashed_at, choices_after, later_at, FileState, crashed, at_place}
use Rattle.std.proofs.Common.{append_assoc}

abbrev Record : Type 0
Record = Option (List Noted)

-- there is one choice for each change
chooses-length : (f : FaultConfig) (ms : List Mutation) (cs : List Choice) (old new : Record) → Chooses f ms cs old new → length cs ≡ length ms
chooses-length f [] [] old new h = refl
chooses-length f [] (c ∷ cs) old new h = absurd h
chooses-length f (m ∷ ms) [] old new h = absurd h
chooses-length f (m ∷ ms) (c ∷ cs) old new h = let rec = chooses-length f ms cs h.0 new h.2 in omega arith

-- the first blob
first : (f : FaultConfig) (i : ℕ) (tail : List ℕ) (files next : List FileState) (here cs : List Choice) (old mid new : Record) →
    Chooses f (later_at files i) here old mid → next ≡ at_place files i (crashed here) → ChoosesAll f tail next cs mid new →
    ChoosesAll f (i ∷ tail) files (here ++ cs) old new × (all_crashed (i ∷ tail) (here ++ cs) files ≡ all_crashed tail cs next)
first f i tail files next here cs old mid new chosen is rest =
    let n = length (later_at files i) in
    let len = chooses-length f (later_at files i) here old mid chosen in
    let t : take n (here ++ cs) ≡ here = ap (λ (k : ℕ). take k (here ++ cs)) (sym len) ∙ take-append_seam here cs in
    let d : drop n (here ++ cs) ≡ cs = ap (λ (k : ℕ). drop k (here ++ cs)) (sym len) ∙ drop-append_seam here cs in
    let x : crashed_at files i (here ++ cs) ≡ next = ap (λ (ks : List Choice). at_place files i (crashed ks)) t ∙ sym is in
    let head : Chooses f (later_at files i) (take n (here ++ cs)) old mid = subst (λ ks. Chooses f (later_at files i) ks old mid) (sym t) chosen in
    let there : ChoosesAll f tail (crashed_at files i (here ++ cs)) cs mid new = subst (λ fs. ChoosesAll f tail fs cs mid new) (sym x) rest in
    let all : ChoosesAll f tail (crashed_at files i (here ++ cs)) (choices_after files i (here ++ cs)) mid new = subst (λ ks. ChoosesAll f tail (crashed_at files i (here ++ cs)) ks mid new) (sym d) there in
    ((mid, head, all), ap (λ (ks : List Choice). all_crashed tail ks (crashed_at files i (here ++ cs))) d ∙ ap (λ (fs : List FileState). all_crashed tail cs fs) x)

-- a blob crashed, and the rest is still to come
pub crash_step : (f : FaultConfig) (Done : List Choice → List FileState → Record → Type 0) (rest tail : List ℕ) (i : ℕ) (files next : List FileState) (here choices pushed : List Choice) (old mid : Record) →
    rest ≡ i ∷ tail → Chooses f (later_at files i) here old mid → next ≡ at_place files i (crashed here) → pushed ≡ choices ++ here →
    ((cs : List Choice) (new : Record) → ChoosesAll f rest files cs old new → Done (choices ++ cs) (all_crashed rest cs files) new) →
    ((cs : List Choice) (new : Record) → ChoosesAll f tail next cs mid new → Done (pushed ++ cs) (all_crashed tail cs next) new)
crash_step f Done rest tail i files next here choices pushed old mid e chosen is p reach cs new h =
    let both = first f i tail files next here cs old mid new chosen is h in
    let done : Done (choices ++ (here ++ cs)) (all_crashed (i ∷ tail) (here ++ cs) files) new =
    subst (λ r. ChoosesAll f r files (here ++ cs) old new → Done (choices ++ (here ++ cs)) (all_crashed r (here ++ cs) files) new) e (reach (here ++ cs) new) both.0 in
    let moved : Done (choices ++ (here ++ cs)) (all_crashed tail cs next) new = subst (λ fs. Done (choices ++ (here ++ cs)) fs new) both.1 done in
    let joined : Done ((choices ++ here) ++ cs) (all_crashed tail cs next) new = subst (λ ks. Done ks (all_crashed tail cs next) new) (sym (append_assoc choices here cs)) moved in
    subst (λ ks. Done (ks ++ cs) (all_crashed tail cs next) new) (sym p) joined

-- no blob is left
pub crash_end : (f : FaultConfig) (Done : List Choice → List FileState → Record → Type 0) (rest : List ℕ) (files : List FileState) (choices : List Choice) (old : Record) →
    rest ≡ [] →
    ((cs : List Choice) (new : Record) → ChoosesAll f rest files cs old new → Done (choices ++ cs) (all_crashed rest cs files) new) →
    Done choices files old
crash_end f Done rest files choices old e reach =
    let at-end : Done (choices ++ []) files old = subst (λ r. ChoosesAll f r files [] old old → Done (choices ++ []) (all_crashed r [] files) old) e (reach [] old) refl in
    subst (λ ks. Done ks files old) (append-nil choices) at-end

-- some blobs crashed, and then others
both_crash : (f : FaultConfig) (is js : List ℕ) (files : List FileState) (cs ds : List Choice) (old mid new : Record) →
    ChoosesAll f is files cs old mid → ChoosesAll f js (all_crashed is cs files) ds mid new →
    ChoosesAll f (is ++ js) files (cs ++ ds) old new × (all_crashed (is ++ js) (cs ++ ds) files ≡ all_crashed js ds (all_crashed is cs files))
both_crash f [] js files [] ds old mid new h k = (subst (λ m. ChoosesAll f js files ds m new) h k, refl)
both_crash f [] js files (c ∷ cs) ds old mid new h k = absurd h
both_crash f (i ∷ is) js files cs ds old mid new h k =
    let n = length (later_at files i) in
    let len = chooses-length f (later_at files i) (take n cs) old h.0 h.1 in
    let long = length-take n cs in
    let le : n ≤ length cs = omega arith in
    let t : take n (cs ++ ds) ≡ take n cs = take-append-le n cs ds le in
    let d : drop n (cs ++ ds) ≡ drop n cs ++ ds = drop-append-le n cs ds le in
    let x : crashed_at files i (cs ++ ds) ≡ crashed_at files i cs = ap (λ (ks : List Choice). at_place files i (crashed ks)) t in
    let rec = both_crash f is js (crashed_at files i cs) (drop n cs) ds h.0 mid new h.2 k in
    let head : Chooses f (later_at files i) (take n (cs ++ ds)) old h.0 = subst (λ ks. Chooses f (later_at files i) ks old h.0) (sym t) h.1 in
    let there : ChoosesAll f (is ++ js) (crashed_at files i cs) (drop n (cs ++ ds)) h.0 new = subst (λ ks. ChoosesAll f (is ++ js) (crashed_at files i cs) ks h.0 new) (sym d) rec.0 in
    let all : ChoosesAll f (is ++ js) (crashed_at files i (cs ++ ds)) (drop n (cs ++ ds)) h.0 new = subst (λ fs. ChoosesAll f (is ++ js) fs (drop n (cs ++ ds)) h.0 new) (sym x) there in (
      (h.0, head, all),
      ap (λ (ks : List Choice). all_crashed (is ++ js) ks (crashed_at files i (cs ++ ds))) d
          ∙ ap (λ (fs : List FileState). all_crashed (is ++ js) (drop n cs ++ ds) fs) x
          ∙ rec.1,
    )

-- the blobs of a partition crashed, and the rest is still to come
pub shelf_step : (f : FaultConfig) (Done : List Choice → List FileState → Record → Type 0) (rest here tail : List ℕ) (files next : List FileState) (cs choices pushed : List Choice) (old mid : Record) →
    rest ≡ here ++ tail → ChoosesAll f here files cs old mid → next ≡ all_crashed here cs files → pushed ≡ choices ++ cs →
    ((ds : List Choice) (new : Record) → ChoosesAll f rest files ds old new → Done (choices ++ ds) (all_crashed rest ds files) new) →
    ((ds : List Choice) (new : Record) → ChoosesAll f tail next ds mid new → Done (pushed ++ ds) (all_crashed tail ds next) new)
shelf_step f Done rest here tail files next cs choices pushed old mid e chosen is p reach ds new h =
    let k : ChoosesAll f tail (all_crashed here cs files) ds mid new = subst (λ fs. ChoosesAll f tail fs ds mid new) is h in
    let both = both_crash f here tail files cs ds old mid new chosen k in
    let done : Done (choices ++ (cs ++ ds)) (all_crashed (here ++ tail) (cs ++ ds) files) new =
    subst (λ r. ChoosesAll f r files (cs ++ ds) old new → Done (choices ++ (cs ++ ds)) (all_crashed r (cs ++ ds) files) new) e (reach (cs ++ ds) new) both.0 in
    let moved : Done (choices ++ (cs ++ ds)) (all_crashed tail ds (all_crashed here cs files)) new = subst (λ fs. Done (choices ++ (cs ++ ds)) fs new) both.1 done in
    let there : Done (choices ++ (cs ++ ds)) (all_crashed tail ds next) new = subst (λ fs. Done (choices ++ (cs ++ ds)) (all_crashed tail ds fs) new) (sym is) moved in
    let joined : Done ((choices ++ cs) ++ ds) (all_crashed tail ds next) new = subst (λ ks. Done ks (all_crashed tail ds next) new) (sym (append_assoc choices cs ds)) there in
    subst (λ ks. Done (ks ++ ds) (all_crashed tail ds next) new) (sym p) joined
