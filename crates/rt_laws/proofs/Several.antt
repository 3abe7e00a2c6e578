-- Several runs in one journal are runs one after another.
use Rattle.rt_laws.proofs.Prelude.{◌≡◌, ◌⊎◌, inl, inr, true, false, List, [], ◌∷◌, ◌++◌, refl, ap, cases_Bool, false≢true, FinishCause, Completed, Entry, Start, Begin, Phase, Blank, Finished, State, begun, after, after_all, May, IsLawful, next_begin, renews, AreLawful, GoesOn}
use Rattle.rt_laws.proofs.Starts.{start-first}

-- no start may come within a run but its own
stays : (s : State) (e : Entry) → May s e → renews e s.phase ≡ false
stays s (Start next now deadline cycle) m = rw m.1.0 refl
stays s _ m = refl

renews-completed : (cause : FinishCause) (e : Entry) → renews e (Finished cause) ≡ true → cause ≡ Completed
renews-completed Completed e h = refl
renews-completed _ (Start next now deadline cycle) h = absurd (false≢true h)
renews-completed _ _ h = absurd (false≢true h)

renews-finished : (p : Phase) (e : Entry) → renews e p ≡ true → p ≡ Finished Completed
renews-finished (Finished cause) e h = ap Finished (renews-completed cause e h)
renews-finished _ (Start next now deadline cycle) h = absurd (false≢true h)
renews-finished _ _ h = absurd (false≢true h)

pub blank-same : (e : Entry) → renews e Blank ≡ false
blank-same (Start next now deadline cycle) = refl
blank-same _ = refl

begins : (s : State) (y : List Entry) → s.phase ≡ Finished Completed → AreLawful (begun (next_begin s)) y → AreLawful s y
unfolding begun
begins s [] ends h = tt
begins s (e ∷ y) ends h =
    let c : Begin = next_begin s in
    let k : May (begun c) e × AreLawful (after (begun c) e) y = rw (blank-same e) at h in
    let renew : renews e s.phase ≡ true = rw (start-first c e k.0, ends) refl in
    rw renew k

joined : (s : State) (x y : List Entry) → IsLawful s x → (after_all s x).phase ≡ Finished Completed → AreLawful (begun (next_begin (after_all s x))) y → AreLawful s (x ++ y)
joined s [] y l ends h = begins s y ends h
joined s (e ∷ x) y l ends h = rw (stays s e l.0) (l.0, joined (after s e) x y l.1 ends h)

pub join_runs : (b : Begin) (x y : List Entry) → IsLawful (begun b) x → (after_all (begun b) x).phase ≡ Finished Completed → AreLawful (begun (next_begin (after_all (begun b) x))) y → AreLawful (begun b) (x ++ y)
join_runs b x y l ends h = joined (begun b) x y l ends h

alone : (s : State) (x : List Entry) → IsLawful s x → AreLawful s x
alone s [] l = tt
alone s (e ∷ x) l = rw (stays s e l.0) (l.0, alone (after s e) x l.1)

pub run_alone : (b : Begin) (x : List Entry) → IsLawful (begun b) x → AreLawful (begun b) x
run_alone b x l = alone (begun b) x l

-- at a start behind a finished run
next-here : (s : State) (e : Entry) (es : List Entry) → s.phase ≡ Finished Completed → renews e s.phase ≡ true → AreLawful s (e ∷ es) → GoesOn s (e ∷ es)
unfolding begun
next-here s e es ends renew h = record {
  own = [];
  rest = e ∷ es;
  are = refl;
  lawful = tt;
  ends = ends;
  goes_on = rw (blank-same e) (rw renew at h);
}

-- an entry of the run under way
one-more : (s : State) (e : Entry) (es : List Entry) → May s e → IsLawful (after s e) es ⊎ GoesOn (after s e) es → IsLawful s (e ∷ es) ⊎ GoesOn s (e ∷ es)
one-more s e es m (inl h) = inl (m, h)
one-more s e es m (inr g) = inr (record {
  own = e ∷ g.own;
  rest = g.rest;
  are = ap (λ x. e ∷ x) g.are;
  lawful = (m, g.lawful);
  ends = g.ends;
  goes_on = g.goes_on;
})

apart : (s : State) (z : List Entry) → AreLawful s z → IsLawful s z ⊎ GoesOn s z
apart s [] h = inl tt
apart s (e ∷ es) h = elim (cases_Bool (renews e s.phase)) [
  | inl renew ↦ inr (next-here s e es (renews-finished s.phase e renew) renew h)
  | inr same ↦ let k : May s e × AreLawful (after s e) es = rw same at h in one-more s e es k.0 (apart (after s e) es k.1)
]

pub runs_apart : (b : Begin) (z : List Entry) → AreLawful (begun b) z → IsLawful (begun b) z ⊎ GoesOn (begun b) z
runs_apart b z h = apart (begun b) z h
