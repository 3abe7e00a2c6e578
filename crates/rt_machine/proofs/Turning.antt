-- Clock steps, one after another.
use Rattle.rt_machine.proofs.Prelude.{◌≡◌, ◌<◌, ℕ, List, [], ◌∷◌, ◌++◌, refl, ◌∙◌, true, false, Some, None, arith, IsSome, Entry, Alarm, is_nil, fires, ahead, skip_to, Told, pushed, pushed_all, is_quiet, AreQuiet, Quietly, Turns}

pub pushed-append : (t : Told) (xs ys : List Entry) → pushed_all (pushed_all t xs) ys ≡ pushed_all t (xs ++ ys)
pushed-append t [] ys = refl
pushed-append t (x ∷ xs) ys = pushed-append (pushed t x) xs ys

pub all-begin : (t : Told) (es : List Entry) → (pushed_all t es).begin ≡ t.begin
all-begin t [] = refl
all-begin t (e ∷ es) = all-begin (pushed t e) es

pub all-given : (t : Told) (es : List Entry) → (pushed_all t es).given ≡ t.given
all-given t [] = refl
all-given t (e ∷ es) = all-given (pushed t e) es

quiet-append : (xs ys : List Entry) → AreQuiet xs → AreQuiet ys → AreQuiet (xs ++ ys)
quiet-append [] ys h k = k
quiet-append (x ∷ xs) ys h k = (h.0, quiet-append xs ys h.1 k)

pub quietly-none : (t : Told) → Quietly t t
quietly-none t = record { entries = []; quiet = tt; is = refl }

pub quietly-one : (t u : Told) (e : Entry) → u ≡ pushed t e → is_quiet e ≡ true → Quietly t u
quietly-one t u e is quiet = record { entries = e ∷ []; quiet = (quiet, tt); is = is }

quietly-quietly : (a b c : Told) → Quietly a b → Quietly b c → Quietly a c
quietly-quietly a b c h k = record {
  entries = h.entries ++ k.entries;
  quiet = quiet-append h.entries k.entries h.quiet k.quiet;
  is = rw (k.is, h.is) (pushed-append a h.entries k.entries);
}

pub quietly-two : (t u v : Told) (d e : Entry) → u ≡ pushed t d → v ≡ pushed u e → is_quiet d ≡ true → is_quiet e ≡ true → Quietly t v
quietly-two t u v d e is then p q = quietly-quietly t u v (quietly-one t u d is p) (quietly-one u v e then q)

pub turns-none : (t : Told) → Turns t t
turns-none t = record { quiet = quietly-none t; begin = refl; given = refl; fixed = refl; time = omega arith; root = refl; running = refl; numbers = refl; results = refl; slots = refl }

pub turns-turns : (a b c : Told) → Turns a b → Turns b c → Turns a c
turns-turns a b c h k = record {
  quiet = quietly-quietly a b c h.quiet k.quiet;
  begin = k.begin ∙ h.begin;
  given = k.given ∙ h.given;
  fixed = k.fixed ∙ h.fixed;
  time = omega (arith, h.time, k.time);
  root = k.root ∙ h.root;
  running = k.running ∙ h.running;
  numbers = k.numbers ∙ h.numbers;
  results = k.results ∙ h.results;
  slots = k.slots ∙ h.slots;
}

-- after a skip nothing lies further ahead
ahead-there : (set : List Alarm) (now to : ℕ) → ahead set now ≡ Some to → ahead set to ≡ None
ahead-there [] now to h = cc
ahead-there (a ∷ set) now to h = grind arith

pub skip-there : (ready : List ℕ) (set : List Alarm) (now to : ℕ) → skip_to ready set now ≡ Some to → skip_to ready set to ≡ None
skip-there [] set now to h = ahead-there set now to h
skip-there (k ∷ ready) set now to h = refl

pub skip-later : (ready : List ℕ) (set : List Alarm) (now to : ℕ) → skip_to ready set now ≡ Some to → now < to
skip-later [] [] now to h = cc
skip-later [] (a ∷ set) now to h = grind arith
skip-later (k ∷ ready) set now to h = cc

-- with nobody ready, an alarm and nothing ahead, an alarm fires
pub idle-fires : (ready : List ℕ) (set : List Alarm) (now : ℕ) → skip_to ready set now ≡ None → is_nil ready ≡ true → is_nil set ≡ false → IsSome (fires set now)
idle-fires [] [] now h i j = cc
idle-fires [] (a ∷ set) now h i j = grind arith
idle-fires (k ∷ ready) set now h i j = cc

pub ruleset turn_laws = (quietly-one, quietly-two, turns-none, turns-turns, skip-there, skip-later, idle-fires)
