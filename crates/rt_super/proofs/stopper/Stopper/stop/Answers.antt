use Rattle.rt_super.proofs.Prelude.{◌≡◌, ◌∙◌, ◌++◌, ◌∷◌, [], ℕ, ℤ, List, sym, ap, refl, arith, Option, Some, None, false, to_z-of_z, is_some, SignalToken, SignalRecord, StopRecord, group_for, waits_in, new_token, woken_by_value, woken_by_last, woken_by_stop, signaled, with_completion}
use Rattle.rt_super.proofs.Shutdowns.{first_is, first_keeps, shows}
use Rattle.rt_super.proofs.stopper.Stopper.stop.Goals as goal

-- a new completion waits for nobody
waits-push : (g n h : ℕ) (ts : List (ℕ × SignalToken)) → waits_in g (ts ++ (n, new_token h) ∷ []) ≡ waits_in g ts
waits-push g n h [] = grind arith
waits-push g n h (t ∷ ts) = grind (arith, waits-push g n h ts)

same-woken : (r : SignalRecord) (g : ℕ) → woken_by_value (with_completion r g) g ≡ woken_by_value r g
same-woken r g = grind (arith, waits-push g r.count (group_for g r.count) r.completions)

wakes : (r : SignalRecord) (s : StopRecord) (g : ℕ) (value : ℤ) → s.group ≡ g → s.value ≡ None → woken_by_value (with_completion r g) g ++ woken_by_last (signaled (with_completion r g) g value) g ≡ woken_by_stop r s value
wakes r s g value e n = rw (n, e, same-woken r g) refl

nothing : {A : Type 0} (o : Option A) → is_some o ≡ false → o ≡ None
nothing None e = refl
nothing (Some x) e = absurd (cc)

pub returns-then-is_none-clause-woken : goal.returns-then-is_none-clause-woken
returns-then-is_none-clause-woken c =
    let none : c.self.inside.value ≡ None = nothing _ c.if-is_none.ensures in
    rw (c.drop_completion.ensures.woken, c.drop_signal.ensures.woken, c.give.ensures.woken, c.give.ensures.given, c.in_ok-completion.ensures.added, to_z-of_z c.ranges.value)
    (wakes c.args.signals.now.told c.args.self.now c.self.inside.group c.args.value (sym (ap (λ s. s.group) c.self.view_is)) (sym (ap (λ s. s.value) c.self.view_is) ∙ none))

pub returns-then-is_none-clause-shutdown : goal.returns-then-is_none-clause-shutdown
returns-then-is_none-clause-shutdown c = λ is.
    let none : c.self.inside.value ≡ None = nothing _ c.if-is_none.ensures in
    let was = rw (← c.self.view_is, none) at is in
    rw (c.drop_completion.ensures.closed, c.drop_signal.ensures.closed, c.give.ensures.given, c.in_ok-completion.ensures.added, to_z-of_z c.ranges.value) (first_is c.args.signals.now.told c.self.inside.group c.args.value was)

pub returns-then-is_none-clause-shown : goal.returns-then-is_none-clause-shown
returns-then-is_none-clause-shown c = λ is. shows c.drop_completion.new.self.told _ (returns-then-is_none-clause-shutdown c is)

pub returns-then-is_none-clause-others : goal.returns-then-is_none-clause-others
returns-then-is_none-clause-others c = λ s other is.
    let another = rw (← c.self.view_is) at other in
    rw (c.drop_completion.ensures.closed, c.drop_signal.ensures.closed, c.give.ensures.given, c.in_ok-completion.ensures.added) (first_keeps c.args.signals.now.told c.self.inside.group _ s another is)
