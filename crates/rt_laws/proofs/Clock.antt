-- The clock under lawful entries, and the front and the rest of a lawful list.
use Rattle.rt_laws.proofs.Prelude.{◌≡◌, ◌≤◌, ◌<◌, ℕ, List, [], ◌∷◌, ◌++◌, Some, arith, Entry, Advance, Skip, Alarm, Begin, State, begun, ahead, skip_to, after, after_all, May, IsLawful, after_all-append}

pub lawful-tail : (s : State) (xs ys : List Entry) → IsLawful s (xs ++ ys) → IsLawful (after_all s xs) ys
lawful-tail s [] ys l = l
lawful-tail s (x ∷ xs) ys l = lawful-tail (after s x) xs ys l.1

pub lawful-front : (s : State) (xs ys : List Entry) → IsLawful s (xs ++ ys) → IsLawful s xs
lawful-front s [] ys l = tt
lawful-front s (x ∷ xs) ys l = (l.0, lawful-front (after s x) xs ys l.1)

-- what time skips to lies ahead
ahead-later : (alarms : List Alarm) (time now : ℕ) → ahead alarms time ≡ Some now → time < now
ahead-later [] time now h = cc
ahead-later (a ∷ alarms) time now h = grind arith

skip-later : (ready : List ℕ) (alarms : List Alarm) (time now : ℕ) → skip_to ready alarms time ≡ Some now → time < now
skip-later [] alarms time now h = ahead-later alarms time now h
skip-later (k ∷ ready) alarms time now h = cc

pub later-entry : (s : State) (e : Entry) → May s e → s.clock.time ≤ (after s e).clock.time
unfolding after
later-entry s (Advance now) m = let a = m.1.2 in omega arith
later-entry s (Skip now) m = let a = skip-later s.ready s.stood.alarms.alarms s.clock.time now m.1.1 in omega arith
later-entry s _ m = omega arith

later-all : (s : State) (es : List Entry) → IsLawful s es → s.clock.time ≤ (after_all s es).clock.time
later-all s [] l = omega arith
later-all s (e ∷ es) l =
    let a = later-entry s e l.0 in
    let b = later-all (after s e) es l.1 in
    omega arith

pub later : (s : State) (xs ys : List Entry) → IsLawful s (xs ++ ys) → (after_all s xs).clock.time ≤ (after_all s (xs ++ ys)).clock.time
later s xs ys l = rw (after_all-append s xs ys) (later-all (after_all s xs) ys (lawful-tail s xs ys l))

pub later_begun : (b : Begin) (xs ys : List Entry) → IsLawful (begun b) (xs ++ ys) → (after_all (begun b) xs).clock.time ≤ (after_all (begun b) (xs ++ ys)).clock.time
later_begun b xs ys l = later (begun b) xs ys l
