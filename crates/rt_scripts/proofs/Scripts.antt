-- A script goes on line by line.
use Rattle.rt_scripts.proofs.Prelude.{◌≡◌, ◌≢◌, ◌∷◌, ◌+◌, ◌≤◌, ◌<◌, ℕ, zero, suc, ℤ, List, [], drop, length, pos, refl, sym, ap, subst, ◌∙◌, arith, add-one, slice_get, Option, Some, None, IfNone, IfSome, drop_all, Error, LacksMemory, Answer, Ready, NoMemory, find, without, ends_next, Gives, Last, numbers_of, World, Advanced, Leads, Polled, Spends, Spent, leads-same, polled-gives, polled-lacks, Line, line_at, Next, Script, goes_on, held_spends, lines_from, passed, polled, refused, releases_all, value_of, Held}

module _ {G : Type 0} (s mid new : Script) (time task : ℕ) (old world end : World Script ℤ G) where
  -- a line more
  pub leads-on : (now : ℕ) (line : Line) → time ≡ now → lines_from mid ≡ line ∷ drop (mid.place + 1) mid.text.lines → new.place ≡ mid.place + 1 → new.text ≡ mid.text → Leads (polled s time task) (polled mid time task) old world → Leads (goes_on (line ∷ drop (mid.place + 1) mid.text.lines) mid now task) (goes_on (drop (mid.place + 1) mid.text.lines) new now task) world end → Leads (polled s time task) (polled new time task) old end
  leads-on now line same next place lines first second =
      let from : lines_from new ≡ drop (mid.place + 1) mid.text.lines = rw (place, lines) refl in
      let on : Leads (polled mid time task) (polled new time task) world end = rw (next, from, same) second in
      record { leads = λ end answer left walked. first.leads end answer left (on.leads end answer left walked) }

-- a line that gives an answer
pub leads-gives : {G : Type 0} (s mid new : Script) (time task now : ℕ) (old world end : World Script ℤ G) (line : Line) (answer : Answer ℤ) → time ≡ now → lines_from mid ≡ line ∷ drop (mid.place + 1) mid.text.lines → Leads (polled s time task) (polled mid time task) old world → Polled (goes_on (line ∷ drop (mid.place + 1) mid.text.lines) mid now task) world end answer new → Polled (polled s time task) old end answer new
leads-gives s mid new time task now old world end line answer same next first second = first.leads end answer new (rw (next, same) second)

-- where a line stands
got_next : (lines : List Line) (place : ℕ) (line : Line) → slice_get lines place ≡ Some line → drop place lines ≡ line ∷ drop (suc place) lines
got_next [] place line e = absurd (cc)
got_next (l ∷ lines) zero line e = let same : l ≡ line = cc in ap (λ x. x ∷ lines) same
got_next (l ∷ lines) (suc place) line e = got_next lines place line e

pub line_next : (s : Script) (line : Line) → line_at s.text s.place ≡ Some line → lines_from s ≡ line ∷ drop (s.place + 1) s.text.lines
line_next s line e = got_next s.text.lines s.place line e ∙ ap (λ n. line ∷ drop n s.text.lines) (sym (add-one s.place))

got_below : (lines : List Line) (place : ℕ) (line : Line) → slice_get lines place ≡ Some line → place < length lines
got_below [] place line e = absurd (cc)
got_below (l ∷ lines) zero line e = omega arith
got_below (l ∷ lines) (suc place) line e = omega (arith, got_below lines place line e)

pub line_there : (s : Script) (line : Line) → line_at s.text s.place ≡ Some line → s.place < length s.text.lines
line_there s line e = got_below s.text.lines s.place line e

got_none : (lines : List Line) (place : ℕ) → slice_get lines place ≡ None → length lines ≤ place
got_none [] place e = omega arith
got_none (l ∷ lines) zero e = absurd (cc)
got_none (l ∷ lines) (suc place) e = omega (arith, got_none lines place e)

pub line_none : (s : Script) → line_at s.text s.place ≡ None → length s.text.lines ≤ s.place
line_none s e = got_none s.text.lines s.place e

-- no line is left
pub leads-end : {G : Type 0} (s mid : Script) (time task : ℕ) (old world : World Script ℤ G) → length mid.text.lines ≤ mid.place → Leads (polled s time task) (polled mid time task) old world → Polled (polled s time task) old world (Ready (pos 0)) mid
unfolding goes_on
leads-end s mid time task old world none first =
    first.leads world (Ready (pos 0)) mid (rw (drop_all mid.place mid.text.lines none) (polled-gives world mid (Ready (pos 0)) mid refl))

-- a step that leads to others, and these go on so
pub advanced-after : {G : Type 0} (step other goal : Next) (old mid new : World Script ℤ G) (result : Option (Answer ℤ)) (left : Script) → Leads step other old mid → Advanced other goal mid new result left → Advanced step goal old new result left
advanced-after step other goal old mid new None left first second = record { leads = λ end answer left walked. first.leads end answer left (second.leads end answer left walked) }
advanced-after step other goal old mid new (Some answer) left first second = first.leads new answer left second

-- a refusal
refused-other : (s : Script) (on : Script → Next) (error : Error) → error ≢ LacksMemory → refused s on error ≡ on (passed s (value_of error))
refused-other s on LacksMemory other = absurd (other refl)
refused-other s on _ other = refl

pub refused-advanced : {G : Type 0} (w : World Script ℤ G) (s new : Script) (on : Script → Next) (error : Error) (result : Option (Answer ℤ)) → IfNone result ((error ≢ LacksMemory) × (new ≡ passed s (value_of error))) → IfSome result (λ answer. (answer ≡ NoMemory) × (error ≡ LacksMemory) × (new ≡ s)) → Advanced (refused s on error) (on new) w w result new
refused-advanced w s new on error None goes ends = rw (refused-other s on error goes.0, goes.1) (leads-same (on (passed s (value_of error))) w)
refused-advanced w s new on error (Some answer) goes ends = rw (ends.1, ends.0, ends.2) (polled-lacks w s (Gives NoMemory s))

-- without what isn't there
pub without-none : {V : Type 0} (k : ℕ) (xs : List (ℕ × V)) → find k xs ≡ None → without k xs ≡ xs
without-none k [] h = refl
without-none k (x ∷ xs) h = grind (arith, without-none k xs)

first_found : (h : ℕ × Held) (hs : List (ℕ × Held)) → find h.0 (h ∷ hs) ≡ Some h.1
first_found h hs = grind arith

first_taken : (h : ℕ × Held) (hs : List (ℕ × Held)) → without h.0 (h ∷ hs) ≡ hs
first_taken h hs = grind arith

-- the number that is next holds something, the first
pub next_held : (hs : List (ℕ × Held)) (at : ℕ) → ends_next (numbers_of hs) None ≡ Some at → find at hs ≡ None → ⊥
next_held [] at e none = absurd (cc)
next_held (h ∷ hs) at e none = let same : h.0 ≡ at = cc in let found = first_found h hs in absurd (cc)

pub next_first : (hs : List (ℕ × Held)) (at : ℕ) (held : Held) → ends_next (numbers_of hs) None ≡ Some at → find at hs ≡ Some held → hs ≡ (at, held) ∷ without at hs
next_first [] at held e found = absurd (cc)
next_first (h ∷ hs) at held e found =
    let same : h.0 ≡ at = cc in
    let first = first_found h hs in
    let own : h.1 ≡ held = cc in
    subst (λ k. h ∷ hs ≡ (k, held) ∷ without k (h ∷ hs)) same (ap (λ x. (h.0, x) ∷ hs) own ∙ ap (λ l. (h.0, held) ∷ l) (sym (first_taken h hs)))

pub next_none : (hs : List (ℕ × Held)) → ends_next (numbers_of hs) None ≡ None → hs ≡ []
next_none [] e = refl
next_none (h ∷ hs) e = absurd (cc)

-- whoever gives up all these from here on has given up all
abbrev pub Releases : {G : Type 0} → List (ℕ × Held) → List (ℕ × Held) → World Script ℤ G → World Script ℤ G → Type 0
Releases {G = G} all rest old new = (next : Last Script ℤ) (end : World Script ℤ G) → Spent (releases_all rest next) new end → Spent (releases_all all next) old end

-- one more
pub releases-more : {G : Type 0} (all hs : List (ℕ × Held)) (at : ℕ) (held : Held) (old mid new : World Script ℤ G) → hs ≡ (at, held) ∷ without at hs → Releases all hs old mid → Spends (held_spends held) mid new → Releases all (without at hs) old new
unfolding releases_all
releases-more all hs at held old mid new whole first spends next end spent =
    first next end (subst (λ l. Spent (releases_all l next) mid end) (sym whole) (spends.ends (releases_all (without at hs) next) end spent))

-- none is left
pub releases-none : {G : Type 0} (all hs : List (ℕ × Held)) (old new : World Script ℤ G) → hs ≡ [] → Releases all hs old new → (next : Last Script ℤ) (end : World Script ℤ G) → Spent next new end → Spent (releases_all all next) old end
unfolding releases_all
releases-none all hs old new none first next end spent = first next end (subst (λ l. Spent (releases_all l next) new end) (sym none) spent)
