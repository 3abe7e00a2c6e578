-- The entries of a journal when one is added.
use Rattle.rt_machine.proofs.Prelude.{◌≡◌, ◌≤◌, ℕ, List, [], ◌∷◌, ◌++◌, refl, ap, sym, ◌∙◌, true, length, take, drop, arith, length-append, Option, Some, None, take-append-le, drop-append-le, take-append-drop, length-take-le, drop_all, take_all, Entry, Begin, State, begun, after, after_all, May, IsDrawn, IsLawful, AreDrawn, digest_of, digest_from, first_digest, IsDigested, AreDigested, after_all-append, IsLawful-append, AreDrawn-append, AreDigested-append, digest_from-append, told_from, lacked_at, IsKept, IsWithin, AreCalls, is_call, pushed, noted}

-- the parts on both sides of the mark
pub joined : (xs : List Entry) (start mark : ℕ) → start ≤ mark → mark ≤ length xs → drop start (take mark xs) ++ drop mark xs ≡ drop start xs
joined xs start mark a b =
    let h : start ≤ length (take mark xs) = rw (length-take-le mark xs b) a in
    sym (drop-append-le start (take mark xs) (drop mark xs) h) ∙ ap (λ ys. drop start ys) (take-append-drop mark xs)

AreCalls-append : (es : List Entry) (e : Entry) → AreCalls es → is_call e ≡ true → AreCalls (es ++ e ∷ [])
AreCalls-append [] e h k = (k, tt)
AreCalls-append (x ∷ es) e h k = (h.0, AreCalls-append es e h.1 k)

state-more : (s : State) (es : List Entry) (e : Entry) → after_all s (es ++ e ∷ []) ≡ after (after_all s es) e
state-more s es e = after_all-append s es (e ∷ [])

lawful-more : (s : State) (es : List Entry) (e : Entry) → IsLawful s es → May (after_all s es) e → IsLawful s (es ++ e ∷ [])
lawful-more s es e h k = IsLawful-append s es (e ∷ []) h (k, tt)

drawn-more : (s : State) (es : List Entry) (e : Entry) → AreDrawn s es → IsDrawn (after_all s es) e → AreDrawn s (es ++ e ∷ [])
drawn-more s es e h k = AreDrawn-append s es (e ∷ []) h (k, tt)

-- the digest of all entries is that of the given ones, moved by those behind
digest-joined : (xs : List Entry) (start : ℕ) → digest_of xs ≡ digest_from (digest_of (take start xs)) (drop start xs)
digest-joined xs start = ap digest_of (sym (take-append-drop start xs)) ∙ digest_from-append first_digest (take start xs) (drop start xs)

digested-more : (xs : List Entry) (start : ℕ) (e : Entry) → AreDigested (digest_of (take start xs)) (drop start xs) → IsDigested (digest_of xs) e → AreDigested (digest_of (take start xs)) (drop start xs ++ e ∷ [])
digested-more xs start e h k = AreDigested-append (digest_of (take start xs)) (drop start xs) (e ∷ []) h (rw (digest-joined xs start) at k, tt)

within-more : (at : Option ℕ) (xs : List Entry) (e : Entry) → IsWithin at (length xs) → IsWithin at (length (xs ++ e ∷ []))
within-more None xs e h = tt
within-more (Some n) xs e h = omega (arith, length-append xs (e ∷ []))

lacked-more : (b : Begin) (xs : List Entry) (e : Entry) (start : ℕ) (at : Option ℕ) → IsWithin at (length xs) → lacked_at b (xs ++ e ∷ []) start at ≡ lacked_at b xs start at
lacked-more b xs e start None h = refl
lacked-more b xs e start (Some n) h = ap (λ ys. Some ((after_all (begun b) (drop start ys)).turns)) (take-append-le n xs (e ∷ []) h)

module _ (b : Begin) (xs : List Entry) (start mark : ℕ) (lacked : Option ℕ) (e : Entry) (kept : IsKept b xs start mark lacked) where
  start_within : start ≤ length xs
  start_within = omega (arith, kept.start_first, kept.mark_within)

  pub note-kept : May (after_all (begun b) (drop start xs)) e → is_call e ≡ true → IsDrawn (after_all (begun b) (drop start xs)) e → IsDigested (digest_of xs) e → IsKept b (xs ++ e ∷ []) start mark lacked
  note-kept m k d g = record {
    start_first = kept.start_first;
    mark_within = omega (arith, kept.mark_within, length-append xs (e ∷ []));
    lawful = rw (drop-append-le start xs (e ∷ []) start_within) (lawful-more (begun b) (drop start xs) e kept.lawful m);
    drawn = rw (drop-append-le start xs (e ∷ []) start_within) (drawn-more (begun b) (drop start xs) e kept.drawn d);
    digested = rw (drop-append-le start xs (e ∷ []) start_within, take-append-le start xs (e ∷ []) start_within) (digested-more xs start e kept.digested g);
    calls = rw (drop-append-le mark xs (e ∷ []) kept.mark_within) (AreCalls-append (drop mark xs) e kept.calls k);
    lacked_within = within-more lacked xs e kept.lacked_within;
  }

  -- all entries, in their parts
  all-parts : take start xs ++ (drop start (take mark xs) ++ drop mark xs) ≡ xs
  all-parts = rw (joined xs start mark kept.start_first kept.mark_within) (take-append-drop start xs)

  pub all-digested : IsDigested (digest_of (take start xs ++ (drop start (take mark xs) ++ drop mark xs))) e → IsDigested (digest_of xs) e
  all-digested h = rw all-parts at h

  pub note-told : told_from b (xs ++ e ∷ []) start mark ≡ noted (told_from b xs start mark) e
  note-told =
      let start_within = start_within in
      rw (take-append-le start xs (e ∷ []) start_within, take-append-le mark xs (e ∷ []) kept.mark_within, drop-append-le mark xs (e ∷ []) kept.mark_within, drop-append-le start xs (e ∷ []) start_within, state-more (begun b) (drop start xs) e) refl

  pub push-kept : (len : ℕ) → len ≡ length (xs ++ e ∷ []) → May (after_all (begun b) (drop start xs)) e → IsDrawn (after_all (begun b) (drop start xs)) e → IsDigested (digest_of xs) e → IsKept b (xs ++ e ∷ []) start len lacked
  push-kept len is m d g =
      let all : drop len (xs ++ e ∷ []) ≡ [] = drop_all len (xs ++ e ∷ []) (omega arith) in
      record {
        start_first = omega (arith, kept.start_first, kept.mark_within, length-append xs (e ∷ []));
        mark_within = omega arith;
        lawful = rw (drop-append-le start xs (e ∷ []) start_within) (lawful-more (begun b) (drop start xs) e kept.lawful m);
        drawn = rw (drop-append-le start xs (e ∷ []) start_within) (drawn-more (begun b) (drop start xs) e kept.drawn d);
        digested = rw (drop-append-le start xs (e ∷ []) start_within, take-append-le start xs (e ∷ []) start_within) (digested-more xs start e kept.digested g);
        calls = rw all tt;
        lacked_within = within-more lacked xs e kept.lacked_within;
      }

  pub push-told : (len : ℕ) → len ≡ length (xs ++ e ∷ []) → told_from b (xs ++ e ∷ []) start len ≡ pushed (told_from b xs start mark) e
  push-told len is =
      let all = drop_all len (xs ++ e ∷ []) (omega arith) in
      let whole = take_all len (xs ++ e ∷ []) (omega arith) in
      let start_within = start_within in
      let parts = joined xs start mark kept.start_first kept.mark_within in
      rw (take-append-le start xs (e ∷ []) start_within, all, whole, drop-append-le start xs (e ∷ []) start_within, state-more (begun b) (drop start xs) e, parts) refl

  pub more-lacked : lacked_at b (xs ++ e ∷ []) start lacked ≡ lacked_at b xs start lacked
  more-lacked = lacked-more b xs e start lacked kept.lacked_within
