use Rattle.rt_net.proofs.Prelude.{[], ◌∷◌, refl, proved, ent, emp, ftrue, Ura, Val, vstruct, vcons, vnil, Logic, sem, ‵, ◌⊛◌, ◌$◌, ◌∵◌, !, qed, done, keep, fjoin, suffices, use0, no_more, and_then, enter, returns, alloc_all, pass_all, free_all, look_at, get, sets, agg, unit, RattleType, owns, makes_shadow, types_at, nothing, Struct, walk_of, says, ends_at, nothing_forgotten}
use Rattle.std.specs.contracts.marker.PhantomData as marker
use Rattle.rt_net.specs.contracts.forgotten.Forgotten.new as f
use Rattle.rt_net.proofs.forgotten.Forgotten.new.Statement.{statement}
use Rattle.rt_net.proofs.forgotten.Forgotten.new.Code as code

abbrev bare : Val
bare = vstruct (vcons (vstruct vnil) vnil)

abbrev Bare : RattleType
Bare = Struct record { name = []; args = []; types = []; fields = marker.the_row unit ∷ [] }

made : {M : Type 1} {𝓤 : Ura M} (𝓛 : Logic 𝓤) → ent 𝓤 (emp 𝓤) (sem 𝓛 (Bare.own_val (record {}, tt) (bare ∷ [])))
made 𝓛 = makes_shadow 𝓛 (Bare.own_val (record {}, tt) (bare ∷ [])) (λ vss. (tt, ((λ uss. (tt, tt)), tt))) ((vstruct vnil ∷ [], tt), (refl, ((tt, (refl, tt)), tt)))

pub new_spec : {M : Type 1} → statement M
new_spec 𝓤 𝓛 𝓜 𝓡 wired =
    let c = f.clauses 𝓛 𝓜.mem 𝓡.returns in let W = walk_of 𝓛 f.ended tt c in
    proved 𝓛 f.ended tt c 𝓜 𝓡 tt f.Key.name code.function (code.unfolded 𝓤 𝓛.H 𝓜 𝓡 wired)
    (λ κs. tt) (λ κs. tt) (λ κs qs bounds a w are.
    let y : W.Ghost = ((κs, qs, bounds, a, tt), w) in
    qed 𝓛 ((‵ ftrue ⊛ ‵ (owns (types_at f.signature.params κs) a y.0.4)) ∷ ‵ ftrue ∷ []) ∵ keep ! [] $
    enter ! _ _ _ _ _ $ alloc_all ! (λ l. pass_all ! refl tt $
    sets ! (agg ! (no_more !)) refl (tt, tt) $ sets ! (agg ! (and_then ! (get ! refl) (no_more !))) refl (tt, (tt, tt)) $
    returns ! (look_at ! 0 refl) $ free_all ! refl $
    suffices ! _ (ends_at 𝓛 f.ended tt c y bare (record { marker = record {}; past = nothing_forgotten }) tt tt) $ says ! refl $
    nothing ! $ use0 𝓛 (‵ (Bare.own_val (record {}, tt) (bare ∷ []))) (made 𝓛) $ fjoin ! $
    nothing ! $ nothing ! $ done !))
