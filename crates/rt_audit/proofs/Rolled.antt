-- What is noted one after another, with the draws among it.
use Rattle.std.proofs.Common.{◌≡◌, ◌∙◌, ap, ℕ, List, [], ◌∷◌, ◌++◌, refl, sym, subst, append_assoc, append-nil}
use Rattle.rand_core.specs.Stream.{Stream, next_u64}
use Rattle.rt_base.specs.declared.event.Event.{Event}
use Rattle.rt_audit.specs.declared.dice.Note.{Note}
use Rattle.rt_audit.specs.declared.dice.Note.TheVariants.{Happened, Drawn}
use Rattle.rt_audit.specs.Dice.{noted_one, noted_all, draws_in, Gives, Rolled}

pub noted-more : (ns ms : List Note) → noted_all (ns ++ ms) ≡ noted_all ns ++ noted_all ms
noted-more [] ms = refl
noted-more (n ∷ ns) ms = ap (λ xs. noted_one n ∷ xs) (noted-more ns ms)

draws-event : (ns : List Note) (e : Event) → draws_in (ns ++ Happened e ∷ []) ≡ draws_in ns
draws-event [] e = refl
draws-event (Happened x ∷ ns) e = draws-event ns e
draws-event (Drawn n ∷ ns) e = ap (λ xs. n ∷ xs) (draws-event ns e)

draws-number : (ns : List Note) (d : ℕ) → draws_in (ns ++ Drawn d ∷ []) ≡ draws_in ns ++ d ∷ []
draws-number [] d = refl
draws-number (Happened x ∷ ns) d = draws-number ns d
draws-number (Drawn n ∷ ns) d = ap (λ xs. n ∷ xs) (draws-number ns d)

gives-more : (from mid left : Stream) (ds : List ℕ) (d : ℕ) → Gives from ds mid → (d, left) ≡ next_u64 mid → Gives from (ds ++ d ∷ []) left
gives-more from mid left [] d h e =
    let here : (next_u64 from).0 ≡ d = ap (λ s. (next_u64 s).0) h ∙ sym (ap (λ p. p.0) e) in
    let rest : (next_u64 from).1 ≡ left = ap (λ s. (next_u64 s).1) h ∙ sym (ap (λ p. p.1) e) in
    (here, rest)
gives-more from mid left (x ∷ ds) d h e = (h.0, gives-more (next_u64 from).1 mid left ds d h.1 e)

pub rolled-event : (from left after : Stream) (old now new : List Note) (e : Event) → Rolled from left old now → new ≡ now ++ Happened e ∷ [] → after ≡ left → Rolled from after old new
rolled-event from left after old now new e r is same = record {
  more = r.more ++ Happened e ∷ [];
  are = is ∙ ap (λ xs. xs ++ Happened e ∷ []) r.are ∙ append_assoc old r.more (Happened e ∷ []);
  gives = subst (λ s. Gives from (draws_in (r.more ++ Happened e ∷ [])) s) (sym same) (subst (λ ds. Gives from ds left) (sym (draws-event r.more e)) r.gives);
}

pub rolled-draw : (from left after : Stream) (old now new : List Note) (d : ℕ) → Rolled from left old now → new ≡ now ++ Drawn d ∷ [] → (d, after) ≡ next_u64 left → Rolled from after old new
rolled-draw from left after old now new d r is drew = record {
  more = r.more ++ Drawn d ∷ [];
  are = is ∙ ap (λ xs. xs ++ Drawn d ∷ []) r.are ∙ append_assoc old r.more (Drawn d ∷ []);
  gives = subst (λ ds. Gives from ds after) (sym (draws-number r.more d)) (gives-more from left after (draws_in r.more) d r.gives drew);
}

pub rolled-same : (from : Stream) (notes : List Note) → Rolled from from notes notes
rolled-same from notes = record { more = []; are = sym (append-nil notes); gives = refl }

pub ruleset dice_laws = (noted-more, rolled-event, rolled-draw)
