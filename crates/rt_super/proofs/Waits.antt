-- Nobody waits for what is there: each call leaves it so.
use Rattle.rt_super.proofs.Prelude.{◌≡◌, ◌==◌, ◌||◌, ◌++◌, ◌∷◌, [], ℕ, ℤ, List, refl, arith, eqb, Option, Some, None, Ok, true, false, inl, inr, IsSome, cases_Bool, Pending, find, without, replaced, SignalRecord, new_token, new_group, group_of, is_open, unwaited, waiting_as, with_group, completes, without_signal, completion_closed, shown, signal_answer, completion_answer, WaitFor, ArePending, SignalGroup, SignalToken}
use Rattle.rt_super.proofs.TokenLemmas.{find-push, find-replaced}

-- who waits

abbrev Tokens : Type 0
Tokens = List (ℕ × SignalToken)

weaken : (P Q : ℕ → Type 0) (ts : Tokens) → ((h : ℕ) → P h → Q h) → WaitFor P ts → WaitFor Q ts
weaken P Q [] f w = tt
weaken P Q (t ∷ ts) f w = ((λ s. f _ (w.0 s)), weaken P Q ts f w.1)

push : (P : ℕ → Type 0) (ts : Tokens) (n g : ℕ) → WaitFor P ts → WaitFor P (ts ++ (n, new_token g) ∷ [])
push P [] n g w = ((λ s. absurd (cc)), tt)
push P (t ∷ ts) n g w = (w.0, push P ts n g w.1)

less : (P : ℕ → Type 0) (ts : Tokens) (n : ℕ) → WaitFor P ts → WaitFor P (without n ts)
less P [] n w = tt
less P (t ∷ ts) n w = elim (cases_Bool (eqb t.0 n)) [
  | inl e ↦ rw e w.1
  | inr e ↦ rw e (w.0, less P ts n w.1)
]

met : (P Q : ℕ → Type 0) (ts : Tokens) (g : ℕ) → ((h : ℕ) → (h == g) ≡ false → P h → Q h) → WaitFor P ts → WaitFor Q (unwaited g ts)
met P Q [] g f w = tt
met P Q (t ∷ ts) g f w = elim (cases_Bool (t.1.group == g)) [
  | inl e ↦ rw e ((λ s. absurd (cc)), met P Q ts g f w.1)
  | inr e ↦ rw e ((λ s. f t.1.group e (w.0 s)), met P Q ts g f w.1)
]

waiting : (P : ℕ → Type 0) (ts : Tokens) (n : ℕ) (w : Option ℕ) (t : SignalToken) → find n ts ≡ Some t → P t.group → WaitFor P ts → WaitFor P (replaced (waiting_as w) n ts)
waiting P [] n w t f p h = tt
waiting P (u ∷ ts) n w t f p h = elim (cases_Bool (eqb u.0 n)) [
  | inl e ↦ let same : t ≡ u.1 = grind arith in rw e ((λ s. rw (← same) p), h.1)
  | inr e ↦ rw e (h.0, waiting P ts n w t (grind arith) p h.1)
]

found : (P : ℕ → Type 0) (ts : Tokens) (n : ℕ) (t : SignalToken) → find n ts ≡ Some t → IsSome t.waits → WaitFor P ts → P t.group
found P [] n t f s h = absurd (cc)
found P (u ∷ ts) n t f s h = elim (cases_Bool (eqb u.0 n)) [
  | inl e ↦ let same : t ≡ u.1 = grind arith in rw same (h.0 (rw (← same) s))
  | inr e ↦ found P ts n t (grind arith) s h.1
]

-- which groups have an open signal

open-push : (h n g : ℕ) (ts : Tokens) → is_open h (ts ++ (n, new_token g) ∷ []) ≡ (is_open h ts || (g == h))
open-push h n g [] = grind arith
open-push h n g (t ∷ ts) = grind (arith, open-push h n g ts)

open-unwaited : (h g : ℕ) (ts : Tokens) → is_open h (unwaited g ts) ≡ is_open h ts
open-unwaited h g [] = refl
open-unwaited h g (t ∷ ts) = grind (arith, open-unwaited h g ts)

open-without : (h n : ℕ) (t : SignalToken) (ts : Tokens) → find n ts ≡ Some t → (h == t.group) ≡ false → is_open h (without n ts) ≡ is_open h ts
open-without h n t [] f e = refl
open-without h n t (u ∷ ts) f e = grind (arith, open-without h n t ts)

open-waiting : (h n : ℕ) (w : Option ℕ) (ts : Tokens) → is_open h (replaced (waiting_as w) n ts) ≡ is_open h ts
open-waiting h n w [] = refl
open-waiting h n w (t ∷ ts) = grind (arith, open-waiting h n w ts)

-- the calls

pub added_waits : (r : SignalRecord) → ArePending r → ArePending (with_group r)
added_waits r p = record {
  signals = push _ r.signals r.count r.count (weaken _ _ r.signals (λ h s. grind (arith, find-push r.count h new_group r.groups, s)) p.signals);
  completions = push _ r.completions r.count r.count (weaken _ _ r.completions (λ h s. grind (arith, find-push r.count h new_group r.groups, open-push h r.count r.count r.signals, s)) p.completions);
}

pub signal_waits : (r : SignalRecord) (g n : ℕ) → ArePending r → ArePending (record r { signals = r.signals ++ (r.count, new_token g) ∷ []; count = n })
signal_waits r g n p = record {
  signals = push _ r.signals r.count g p.signals;
  completions = weaken _ _ r.completions (λ h s. grind (arith, open-push h r.count g r.signals, s)) p.completions;
}

pub completion_waits : (r : SignalRecord) (g n : ℕ) → ArePending r → ArePending (record r { completions = r.completions ++ (r.count, new_token g) ∷ []; count = n })
completion_waits r g n p = record {
  signals = p.signals;
  completions = push _ r.completions r.count g p.completions;
}

-- a group is over, with this value or without one
abbrev over : SignalRecord → ℕ → Option ℤ → SignalRecord
over r g value = record r { groups = replaced (λ old. record { value = value; alive = false }) g r.groups; signals = unwaited g r.signals }

over-signals : (r : SignalRecord) (g : ℕ) (value : Option ℤ) → ArePending r → WaitFor (λ h. shown (group_of (over r g value) h) ≡ Ok Pending) (unwaited g r.signals)
over-signals r g value p = met _ _ r.signals g (λ h other s. grind (arith, find-replaced (λ (old : SignalGroup). record { value = value; alive = false }) g h r.groups, other, s)) p.signals

pub given_waits : (r : SignalRecord) (g : ℕ) (value : ℤ) → is_open g r.signals ≡ true → ArePending r → ArePending (over r g (Some value))
given_waits r g value o p = record {
  signals = over-signals r g (Some value) p;
  completions = weaken _ _ r.completions (λ h s. grind (arith, find-replaced (λ (old : SignalGroup). record { value = Some value; alive = false }) g h r.groups, open-unwaited h g r.signals, s, o)) p.completions;
}

pub met_waits : (r : SignalRecord) (g : ℕ) (value : ℤ) → ArePending r → ArePending (record (over r g (Some value)) { completions = unwaited g r.completions })
met_waits r g value p = record {
  signals = over-signals r g (Some value) p;
  completions = met _ _ r.completions g (λ h other s. grind (arith, find-replaced (λ (old : SignalGroup). record { value = Some value; alive = false }) g h r.groups, open-unwaited h g r.signals, other, s)) p.completions;
}

pub over_waits : (r : SignalRecord) (g : ℕ) → ArePending r → ArePending (record (over r g None) { completions = without g r.completions })
over_waits r g p = record {
  signals = over-signals r g None p;
  completions = less _ r.completions g (weaken _ _ r.completions (λ h s. grind (arith, find-replaced (λ (old : SignalGroup). record { value = None; alive = false }) g h r.groups, open-unwaited h g r.signals, s)) p.completions);
}

pub last_waits : (r : SignalRecord) (n : ℕ) (t : SignalToken) → find n r.signals ≡ Some t → ArePending r → ArePending (record (without_signal r n) { completions = unwaited t.group r.completions })
last_waits r n t f p = record {
  signals = less _ r.signals n p.signals;
  completions = met _ _ r.completions t.group (λ h other s. grind (arith, open-without h n t r.signals, f, other, s)) p.completions;
}

pub closed_waits : (r : SignalRecord) (n : ℕ) (t : SignalToken) → find n r.signals ≡ Some t → completes (without_signal r n) t.group ≡ false → ArePending r → ArePending (without_signal r n)
closed_waits r n t f e p = record {
  signals = less _ r.signals n p.signals;
  completions = weaken _ _ r.completions (λ h s. still h s) p.completions;
}
  where
    still : (h : ℕ) → completes r h ≡ false → completes (without_signal r n) h ≡ false
    still h s = elim (cases_Bool (h == t.group)) [
      | inl i ↦ let same : h ≡ t.group = grind arith in rw same e
      | inr i ↦ grind (arith, open-without h n t r.signals, f, i, s)
    ]

pub gone_waits : (r : SignalRecord) (n : ℕ) → ArePending r → ArePending (completion_closed r n)
gone_waits r n p = record {
  signals = p.signals;
  completions = less _ r.completions n p.completions;
}

pub polled_waits : (r : SignalRecord) (n : ℕ) (w : Option ℕ) (t : SignalToken) → find n r.signals ≡ Some t → shown (group_of r t.group) ≡ Ok Pending → ArePending r → ArePending (record r { signals = replaced (waiting_as w) n r.signals })
polled_waits r n w t f is p = record {
  signals = waiting _ r.signals n w t f is p.signals;
  completions = weaken _ _ r.completions (λ h s. grind (arith, open-waiting h n w r.signals, s)) p.completions;
}

pub asked_waits : (r : SignalRecord) (n : ℕ) (w : Option ℕ) (t : SignalToken) → find n r.completions ≡ Some t → completes r t.group ≡ false → ArePending r → ArePending (record r { completions = replaced (waiting_as w) n r.completions })
asked_waits r n w t f is p = record {
  signals = p.signals;
  completions = waiting _ r.completions n w t f is p.completions;
}

-- what is handed out

pub signal_pends : (r : SignalRecord) (n : ℕ) (t : SignalToken) → ArePending r → find n r.signals ≡ Some t → IsSome t.waits → signal_answer r n ≡ Ok Pending
signal_pends r n t p f s = rw f (found _ r.signals n t f s p.signals)

pub completion_pends : (r : SignalRecord) (n : ℕ) (t : SignalToken) → ArePending r → find n r.completions ≡ Some t → IsSome t.waits → completion_answer r n ≡ Ok Pending
completion_pends r n t p f s = let unmet : completes r t.group ≡ false = found _ r.completions n t f s p.completions in rw (f, unmet) refl
