-- The events of a call stand directly before it.
use Rattle.rt_laws.proofs.Prelude.{◌≡◌, ◌⊎◌, inl, inr, List, [], ◌∷◌, ◌++◌, ℕ, Option, refl, sym, ap, ◌∙◌, append_assoc, append-nil, map-append, CallOf, CallReply, Entry, Event, Wake, Begin, Phase, Entered, Announced, State, begun, after, after_all, May, IsLawful, announced_by, after_all-append, events_of}
use Rattle.rt_audit.specs.declared.entry.Entry.TheVariants.{Call}
use Rattle.rt_laws.proofs.Clock.{lawful-tail, lawful-front}

-- the event of the visit isn't awaited
abbrev IsWithin : Phase → Type 0
IsWithin (Entered task left) = ⊥
IsWithin _ = Unit {0}

-- no event of a call stands here, or no wake comes before what comes next
abbrev IsApart : State → Type 0
IsApart s = (s.announced ≡ []) ⊎ ((s.owed ≡ []) × IsWithin s.phase)

-- the entries end with the events of the call that comes next
record Trail (start : State) (xs : List Entry) : Type 0 where
  pub front : List Entry
  pub is : xs ≡ front ++ events_of (after_all start xs).announced
  pub silent : (after_all start front).announced ≡ []
  pub apart : IsApart (after_all start xs)

module _ (start : State) where
  -- no event of a call stands behind this entry
  ends : (xs : List Entry) (e : Entry) → (after (after_all start xs) e).announced ≡ [] → Trail start (xs ++ e ∷ [])
  ends xs e none =
      let silent : (after_all start (xs ++ e ∷ [])).announced ≡ [] = ap (λ (s : State). s.announced) (after_all-append start xs (e ∷ [])) ∙ none in
      record { front = xs ++ e ∷ []; is = rw silent (sym (append-nil (xs ++ e ∷ []))); silent = silent; apart = inl silent }

  more-events : (front : List Entry) (old : List Announced) (a : Announced) → (front ++ events_of old) ++ Event a.label a.fields ∷ [] ≡ front ++ events_of (old ++ a ∷ [])
  more-events front old a =
      rw (map-append (λ (a : Announced). Event a.label a.fields) old (a ∷ [])) (append_assoc front (events_of old) (Event a.label a.fields ∷ []))

  -- behind an event of a call
  announced : (p : Phase) (xs : List Entry) (label : List ℕ) (fields : List (List ℕ)) → p ≡ (after_all start xs).phase → Trail start xs → Trail start (xs ++ Event label fields ∷ [])
  unfolding after
  announced (Entered task left) xs label fields here t =
      ends xs (Event label fields) (elim t.apart [
        | inl none ↦ rw (← here) none
        | inr within ↦ absurd (rw (← here) at within.1)
      ])
  announced p xs label fields here t =
      let behind = after_all-append start xs (Event label fields ∷ []) in
      let more : (after (after_all start xs) (Event label fields)).announced ≡ (after_all start xs).announced ++ record { label = label; fields = fields } ∷ [] = rw (← here) refl in
      record {
        front = t.front;
        is = rw (behind, more) (ap (λ (x : List Entry). x ++ Event label fields ∷ []) t.is ∙ more-events t.front (after_all start xs).announced (record { label = label; fields = fields }));
        silent = t.silent;
        apart = rw behind (inr (refl, rw (← here) tt));
      }

  next : (xs : List Entry) (e : Entry) → May (after_all start xs) e → Trail start xs → Trail start (xs ++ e ∷ [])
  unfolding after
  next xs (Event label fields) m t = announced (after_all start xs).phase xs label fields refl t
  next xs (Wake task) m t =
      ends xs (Wake task) (elim t.apart [
        | inl none ↦ none
        | inr within ↦ absurd (let owed = within.0 in cc)
      ])
  next xs e m t = ends xs e refl

  all : (xs es : List Entry) → IsLawful (after_all start xs) es → Trail start xs → Trail start (xs ++ es)
  all xs [] l t = rw (append-nil xs) t
  all xs (e ∷ es) l t =
      let rest : IsLawful (after_all start (xs ++ e ∷ [])) es = rw (after_all-append start xs (e ∷ [])) l.1 in
      rw (← append_assoc xs (e ∷ []) es) (all (xs ++ e ∷ []) es rest (next xs e l.0 t))

pub events-before : (b : Begin) (x : List Entry) (by : Option ℕ) (call : CallOf) (reply : CallReply) → IsLawful (begun b) (x ++ Call by call reply ∷ []) → (front : List Entry) × (x ≡ front ++ events_of (announced_by (after_all (begun b) x).stood call reply)) × ((after_all (begun b) front).announced ≡ [])
unfolding begun
events-before b x by call reply l =
    let t = all (begun b) [] x (lawful-front (begun b) x (Call by call reply ∷ []) l) (record { front = []; is = refl; silent = refl; apart = inl refl }) in
    let own : (after_all (begun b) x).announced ≡ announced_by (after_all (begun b) x).stood call reply = (lawful-tail (begun b) x (Call by call reply ∷ []) l).0.1.2 in
    (t.front, rw (← own) t.is, t.silent)
