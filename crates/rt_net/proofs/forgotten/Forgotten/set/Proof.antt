use Rattle.rt_net.proofs.Prelude.{[], ◌∷◌, refl, w64, proved, ftrue, fsep, flft, named, vunit, ‵, ◌⊛◌, ◌$◌, ◌∵◌, !, qed, done, move, keep, split, join, fsplit, fsplit3, feq_i, suffices, frame, group, of_opd, unit_lit, enter, returns, alloc_all, pass_all, free_all, look_at, sets, RefOf, usize, yes, uint_vals, uint_Tells, owns, mut_vals, mut_Tells, shr_vals, shr_Tells, plain, types_at, nothing, opens, closes, Stays, walk_of, says, stay_ref, stay_dropped, Goes-ref, Goes-dropped, ends_at, R, Q}
use Rattle.rt_net.specs.contracts.forgotten.Forgotten.set as f
use Rattle.rt_net.proofs.forgotten.Forgotten.set.Statement.{statement}
use Rattle.rt_net.proofs.forgotten.Forgotten.set.Code as code

abbrev stayed : Stays f.ended.signature.params f.ended.kept
stayed = (stay_ref (0 ∷ []) tt (plain (λ _. R)), (stay_dropped (RefOf (1 ∷ []) tt (plain (λ _. Q)) (λ _. tt)) yes, (stay_dropped (plain (λ _. usize)) yes, tt)))

pub set_spec : {M : Type 1} → statement M
set_spec 𝓤 𝓛 𝓜 𝓡 wired =
    let c = f.clauses 𝓛 𝓜.mem 𝓡.returns in let W = walk_of 𝓛 f.ended stayed c in
    proved 𝓛 f.ended stayed c 𝓜 𝓡
    (Goes-ref 𝓛 2 0 tt (plain (λ _. R)), (Goes-dropped 𝓛 2 (RefOf (1 ∷ []) tt (plain (λ _. Q)) (λ _. tt)) yes (λ κs x v. refl), (Goes-dropped 𝓛 2 (plain (λ _. usize)) yes (λ κs x v. refl), tt)))
    f.Key.name code.function (code.unfolded 𝓤 𝓛.H 𝓜 𝓡 wired)
    (λ κs. (mut_vals, (shr_vals, (uint_vals w64, tt))))
    (λ κs. (mut_Tells (named 0) κs.0 R, (shr_Tells (named 1) κs.1.0 Q, (uint_Tells w64, tt))))
    (λ κs qs bounds a w are.
    let b = a.0.ref_ptr.0 in let o = a.0.ref_ptr.1 in let h = a.0.now in
    let y : W.Ghost = ((κs, qs, bounds, a, (mut_vals a.0, (shr_vals a.1.0, (uint_vals w64 a.1.1.0, tt)))), w) in
    qed 𝓛 (((‵ (flft κs.0 qs.0) ⊛ ‵ (fsep (flft κs.1.0 qs.1.0) ftrue)) ⊛ ‵ (owns (types_at f.signature.params κs) a y.0.4)) ∷ ‵ ftrue ∷ []) ∵
    split ! $ split ! $ move ! (2 ∷ []) $ fsplit ! $ keep ! (0 ∷ 2 ∷ 3 ∷ []) $
    enter ! _ _ _ _ _ $ alloc_all ! (λ l. pass_all ! refl ((tt, tt), ((tt, tt), ((tt, record { fits = are.1.1.0.1 }), tt))) $
    fsplit3 ! $ move ! (1 ∷ 2 ∷ 3 ∷ []) $ opens ! tt R b o (λ us.
    sets ! (of_opd ! (unit_lit !)) refl (tt, tt) $
    closes ! tt R (record h { past = w }) us b o $
    returns ! (look_at ! 0 refl) $ free_all ! refl $ move ! (3 ∷ []) $
    suffices ! _ (ends_at 𝓛 f.ended stayed c y vunit tt (record h { past = w }, (tt, (tt, tt))) (tt, (tt, (tt, tt)))) $ says ! refl $
    group ! 3 $ nothing ! $ nothing ! $ join ! $ nothing ! $ join ! $ move ! (1 ∷ 0 ∷ []) $ join ! $
    move ! (1 ∷ 2 ∷ 0 ∷ []) $ join ! $ frame ! $ frame ! $
    feq_i ! _ (vunit ∷ []) _ refl $ done !)))
