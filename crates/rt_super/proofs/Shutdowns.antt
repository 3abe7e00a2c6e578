-- What keeps a shutdown, and what its signals show.
use Rattle.rt_super.proofs.Prelude.{◌≡◌, ◌⊎◌, ◌++◌, ◌∷◌, [], ◌∙◌, ℕ, ℤ, List, sym, ap, refl, arith, eqb, Option, Some, None, true, false, inl, inr, IsSome, option_map_or, cases_Bool, find, replaced, SignalRecord, StopRecord, group_of, is_alive, new_group, with_clone, signaled, signaler_closed, completes, completed, without_signal, signal_closed, signal_polled, completion_polled, with_completion, stopped_first, stopped_after, IsShutdown, KeepShutdowns, KeepOthers, ShowShutdown, SignalGroup, SignalToken}
use Rattle.rt_super.proofs.TokenLemmas.{find-push, find-replaced}

pub new_there : (n m : ℕ) (v : SignalGroup) (gs : List (ℕ × SignalGroup)) → n ≡ m → find n gs ≡ None → find m (gs ++ (n, v) ∷ []) ≡ Some v
new_there n m v gs same fresh = grind (arith, find-push n m v gs)

pub others_there : (n m : ℕ) (v w : SignalGroup) (gs : List (ℕ × SignalGroup)) → find m gs ≡ Some w → find m (gs ++ (n, v) ∷ []) ≡ Some w
others_there n m v w gs there = grind (arith, find-push n m v gs)

pub clone_keeps : (r : SignalRecord) (signal : ℕ) → KeepShutdowns r (with_clone r signal)
clone_keeps r signal s is = grind (arith, is)

-- a shutdown whose signaler is there was not stopped
pub other_kept : (r : SignalRecord) (g : ℕ) (over : SignalGroup) → is_alive r g ≡ true → (s : StopRecord) → (s.group ≡ g → IsSome s.value) → IsShutdown r s → find s.group (replaced (λ old. over) g r.groups) ≡ group_of r s.group
other_kept r g over alive s other is = elim (cases_Bool (eqb s.group g)) [
  | inl e ↦
      let same : s.group ≡ g = grind arith in
      let stopped = other same in
      let there = ap (λ n. find n r.groups) (sym same) ∙ is in
      absurd (grind (arith, stopped, there, alive))
  | inr e ↦ grind (arith, find-replaced (λ old. over) g s.group r.groups, e)
]

pub signal_keeps : (r : SignalRecord) (g : ℕ) (value : ℤ) → KeepOthers g r (signaled r g value)
signal_keeps r g value s other is = elim (cases_Bool (is_alive r g)) [
  | inl e ↦ rw e (other_kept r g (record { value = Some value; alive = false }) e s other is ∙ is)
  | inr e ↦ rw e is
]

pub closing_keeps : (r : SignalRecord) (g : ℕ) → KeepOthers g r (signaler_closed r g)
closing_keeps r g s other is = elim (cases_Bool (is_alive r g)) [
  | inl e ↦ rw e (other_kept r g (record { value = None; alive = false }) e s other is ∙ is)
  | inr e ↦ rw e is
]

completed-groups : (r : SignalRecord) (g : ℕ) → (completed r g).groups ≡ r.groups
completed-groups r g = elim (cases_Bool (completes r g)) [
  | inl e ↦ rw e refl
  | inr e ↦ rw e refl
]

pub closed-groups : (r : SignalRecord) (signal : ℕ) → (signal_closed r signal).groups ≡ r.groups
closed-groups r signal = at (find signal r.signals)
  where
    at : (o : Option SignalToken) → (option_map_or (λ t. completed (without_signal r signal) t.group) o r).groups ≡ r.groups
    at None = refl
    at (Some t) = completed-groups (without_signal r signal) t.group

pub close_keeps : (r : SignalRecord) (signal : ℕ) → KeepShutdowns r (signal_closed r signal)
close_keeps r signal s is = rw (closed-groups r signal) is

pub poll_keeps : (r : SignalRecord) (signal : ℕ) (waits : Option ℕ) → KeepShutdowns r (signal_polled r signal waits)
poll_keeps r signal waits s is = grind (arith, is)

pub polled_keeps : (r : SignalRecord) (completion : ℕ) (waits : Option ℕ) → KeepShutdowns r (completion_polled r completion waits)
polled_keeps r completion waits s is = grind (arith, is)

pub shows : (r : SignalRecord) (s : StopRecord) → IsShutdown r s → ShowShutdown r s
shows r s is signal among = grind (arith, is, among)

-- the calls of a shutdown

cases-value : (o : Option ℤ) → (o ≡ None) ⊎ ((x : ℤ) × (o ≡ Some x))
cases-value None = inl refl
cases-value (Some x) = inr (x, refl)

first-groups : (r : SignalRecord) (g : ℕ) (value : ℤ) → (stopped_first r g value).groups ≡ (signaled (with_completion r g) g value).groups
first-groups r g value = closed-groups (signaled (with_completion r g) g value) g

pub first_keeps : (r : SignalRecord) (g : ℕ) (value : ℤ) → KeepOthers g r (stopped_first r g value)
first_keeps r g value s other is = ap (λ gs. find s.group gs) (first-groups r g value) ∙ signal_keeps (with_completion r g) g value s other is

pub first_is : (r : SignalRecord) (g : ℕ) (value : ℤ) → group_of r g ≡ Some new_group → group_of (stopped_first r g value) g ≡ Some (record { value = Some value; alive = false })
first_is r g value there = ap (λ gs. find g gs) (first-groups r g value) ∙ grind (arith, there, find-replaced (λ (old : SignalGroup). record { value = Some value; alive = false }) g g r.groups)

pub stopped_keeps : (r : SignalRecord) (s : StopRecord) → KeepShutdowns r (stopped_after r s)
stopped_keeps r s o is = elim (cases-value s.value) [
  | inl e ↦ rw e is
  | inr e ↦ rw (e.1) is
]
