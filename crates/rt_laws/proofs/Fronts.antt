-- A part that is under way has made a front of its walk.
use Rattle.rt_laws.proofs.Prelude.{◌≡◌, inl, inr, List, [], ◌∷◌, ◌++◌, refl, cases_Bool, Stood, Turn, Held, counted, call_of, heard_of, moved, has_place, gave-end, Step, Does, Spends, Counts, Gives, Gave, Goes, Walks, Fronts}

module _ {A L O R : Type 0} where
  -- what is said of all that follows
  goes-map : (more less : Held A O → Step A L O R → Type 0) → ((held : Held A O) (step : Step A L O R) → more held step → less held step) → (held : Held A O) (step : Step A L O R) (t : Turn) → Goes more held step t → Goes less held step t
  goes-map more less on held (Does ask step) t g = (g.0, on (moved held ask t) (step (heard_of held t)) g.1)
  goes-map more less on held (Spends ask next) t g = (
    λ there. ((g.0 there).0, (g.0 there).1, on (moved held ask t) next (g.0 there).2),
    λ gone. goes-map more less on held next t (g.1 gone),
  )
  goes-map more less on held (Counts change next) t g = goes-map more less on (counted change held) next t g
  goes-map more less on held (Gives given state) t g = absurd g

  -- these turns are a front of the walk, whatever they leave
  abbrev pub IsFront : Step A L O R → Held A O → List Turn → Type 0
  IsFront step held turns = (end : Held A O) × Fronts step held turns end

  -- a walk is a front of itself
  walks-fronts : (stood : Stood) (answer : R) (left : L) (end : Held A O) (ts : List Turn) (held : Held A O) (step : Step A L O R) → Walks step held ts stood answer left end → Fronts step held ts end
  walks-fronts stood answer left end [] held step w = gave-end stood answer left end held step w
  walks-fronts stood answer left end (t ∷ ts) held step w =
      goes-map (λ held step. Walks step held ts stood answer left end) (λ held step. Fronts step held ts end) (λ held step w. walks-fronts stood answer left end ts held step w) held step t w

  pub walks-front : (stood : Stood) (answer : R) (left : L) (end : Held A O) (ts : List Turn) (held : Held A O) (step : Step A L O R) → Walks step held ts stood answer left end → IsFront step held ts
  walks-front stood answer left end ts held step w = (end, walks-fronts stood answer left end ts held step w)

  -- a front has fronts
  goes-some : (more : Held A O → Step A L O R → Type 0) (less : Held A O → Held A O → Step A L O R → Type 0) → ((held : Held A O) (step : Step A L O R) → more held step → (end : Held A O) × less end held step) → (held : Held A O) (step : Step A L O R) (t : Turn) → Goes more held step t → (end : Held A O) × Goes (less end) held step t
  goes-some more less on held (Does ask step) t g =
      let k = on (moved held ask t) (step (heard_of held t)) g.1 in
      (k.0, (g.0, k.1))
  goes-some more less on held (Spends ask next) t g = elim (cases_Bool (has_place t.stood (call_of ask))) [
    | inl there ↦ (let k = on (moved held ask t) next (g.0 there).2 in (k.0, (λ there. ((g.0 there).0, (g.0 there).1, k.1), λ gone. absurd (cc))))
    | inr gone ↦ (let k = goes-some more less on held next t (g.1 gone) in (k.0, (λ there. absurd (cc), λ gone. k.1)))
  ]
  goes-some more less on held (Counts change next) t g = goes-some more less on (counted change held) next t g
  goes-some more less on held (Gives given state) t g = absurd g

  fronts-front : (end : Held A O) (ts us : List Turn) (held : Held A O) (step : Step A L O R) → Fronts step held (ts ++ us) end → IsFront step held ts
  fronts-front end [] us held step f = (held, (held.counts, refl))
  fronts-front end (t ∷ ts) us held step f =
      goes-some (λ held step. Fronts step held (ts ++ us) end) (λ end held step. Fronts step held ts end) (λ held step f. fronts-front end ts us held step f) held step t f

  pub front-front : (ts us : List Turn) (held : Held A O) (step : Step A L O R) → IsFront step held (ts ++ us) → IsFront step held ts
  front-front ts us held step f = fronts-front f.0 ts us held step f.1

  -- these turns lead so far
  abbrev pub LeadsTo : Step A L O R → Held A O → List Turn → Step A L O R → Held A O → Type 0
  LeadsTo step held [] at now = (step ≡ at) × (held ≡ now)
  LeadsTo step held (t ∷ ts) at now = Goes (λ held step. LeadsTo step held ts at now) held step t

  -- what is said of where they lead
  pub goes-both : {C : Type 0} (first second : Held A O → Step A L O R → Type 0) → ((held : Held A O) (step : Step A L O R) → first held step → second held step → C) → (held : Held A O) (step : Step A L O R) (t : Turn) → Goes first held step t → Goes second held step t → C
  goes-both first second on held (Does ask step) t g h = on (moved held ask t) (step (heard_of held t)) g.1 h.1
  goes-both first second on held (Spends ask next) t g h = elim (cases_Bool (has_place t.stood (call_of ask))) [
    | inl there ↦ on (moved held ask t) next (g.0 there).2 (h.0 there).2
    | inr gone ↦ goes-both first second on held next t (g.1 gone) (h.1 gone)
  ]
  goes-both first second on held (Counts change next) t g h = goes-both first second on (counted change held) next t g h
  goes-both first second on held (Gives given state) t g h = absurd g

  fronts-lead : (end : Held A O) (at : Step A L O R) (now : Held A O) (us : List Turn) (ts : List Turn) (held : Held A O) (step : Step A L O R) → LeadsTo step held ts at now → Fronts step held (ts ++ us) end → Fronts at now us end
  fronts-lead end at now us [] held step l f = rw (← l.0, ← l.1) f
  fronts-lead end at now us (t ∷ ts) held step l f =
      goes-both (λ held step. LeadsTo step held ts at now) (λ held step. Fronts step held (ts ++ us) end) (λ held step l f. fronts-lead end at now us ts held step l f) held step t l f

  pub leads-fronts : (at : Step A L O R) (now : Held A O) (us : List Turn) (ts : List Turn) (held : Held A O) (step : Step A L O R) → LeadsTo step held ts at now → IsFront step held (ts ++ us) → IsFront at now us
  leads-fronts at now us ts held step l f = (f.0, fronts-lead f.0 at now us ts held step l f.1)

  pub leads-gave : (at : Step A L O R) (now : Held A O) (stood : Stood) (answer : R) (left : L) (end : Held A O) (ts : List Turn) (held : Held A O) (step : Step A L O R) → LeadsTo step held ts at now → Walks step held ts stood answer left end → Gave stood now at answer left end
  leads-gave at now stood answer left end [] held step l w = rw (← l.0, ← l.1) w
  leads-gave at now stood answer left end (t ∷ ts) held step l w =
      goes-both (λ held step. LeadsTo step held ts at now) (λ held step. Walks step held ts stood answer left end) (λ held step l w. leads-gave at now stood answer left end ts held step l w) held step t l w
