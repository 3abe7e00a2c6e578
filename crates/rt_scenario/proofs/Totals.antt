-- Numbers of tasks, where those past 64 bits are all kept as one.
use Rattle.rt_scenario.proofs.Prelude.{◌≡◌, ℕ, zero, suc, ◌+◌, ◌-◌, ◌^◌, ◌<◌, List, [], ◌∷◌, ◌++◌, map, min, slice_index, nat_lt, refl, sym, ap, ◌∙◌, arith, nat_tests, map_push, tasks_at, tasks_after, tasks_of, spawned_in, capped, capped_tasks, ScriptText}

pub capped_small : (n : ℕ) → n < 2 ^ 64 → capped n ≡ n
capped_small n h = grind (arith, nat_tests)

-- a sum that was capped on the way
pub capped_sum : (a b c : ℕ) → capped (min (a + b) (2 ^ 64 - 1) + c) ≡ capped (a + (b + c))
capped_sum a b c = grind (arith, nat_tests)

first_part : (b c : ℕ) → capped (capped b + c) ≡ capped (b + c)
first_part b c = grind (arith, nat_tests)

capped_part : (a b c : ℕ) → capped (a + (capped b + c)) ≡ capped ((a + b) + c)
capped_part a b c = grind (arith, nat_tests)

capped_at : (ts : List ℕ) (place : ℕ) → slice_index (map capped ts) place ≡ capped (slice_index ts place)
capped_at [] place = refl
capped_at (t ∷ ts) zero = refl
capped_at (t ∷ ts) (suc place) = capped_at ts place

-- a total of numbers that were capped
pub capped_total : (ts places : List ℕ) (n : ℕ) → capped (n + tasks_at (map capped ts) places) ≡ capped (n + tasks_at ts places)
capped_total ts [] n = refl
capped_total ts (p ∷ ps) n =
    ap (λ t. capped (n + (t + tasks_at (map capped ts) ps))) (capped_at ts p)
    ∙ capped_part n (slice_index ts p) (tasks_at (map capped ts) ps)
    ∙ capped_total ts ps (n + slice_index ts p)
    ∙ ap capped (sym (sums n (slice_index ts p) (tasks_at ts ps)))
  where
    sums : (a b c : ℕ) → a + (b + c) ≡ (a + b) + c
    sums a b c = omega arith

pub tasks_push : (ts : List ℕ) (ss : List ScriptText) (s : ScriptText) → tasks_after ts (ss ++ s ∷ []) ≡ tasks_after ts ss ++ (1 + tasks_at (tasks_after ts ss) (spawned_in s.lines)) ∷ []
tasks_push ts [] s = refl
tasks_push ts (a ∷ ss) s = tasks_push (ts ++ (1 + tasks_at ts (spawned_in a.lines)) ∷ []) ss s

-- a script more has one task and those of its spawns
pub capped_push : (ss : List ScriptText) (s : ScriptText) → capped_tasks (ss ++ s ∷ []) ≡ capped_tasks ss ++ capped (1 + tasks_at (capped_tasks ss) (spawned_in s.lines)) ∷ []
capped_push ss s =
    ap (map capped) (tasks_push [] ss s)
    ∙ map_push capped (tasks_of ss) (1 + tasks_at (tasks_of ss) (spawned_in s.lines))
    ∙ ap (λ n. capped_tasks ss ++ n ∷ []) (sym (capped_total (tasks_of ss) (spawned_in s.lines) 1))

capped_past : (n : ℕ) → nat_lt 100000 (capped n) ≡ nat_lt 100000 n
capped_past n = grind (arith, nat_tests)

capped_all : (ts places : List ℕ) → capped (tasks_at (map capped ts) places) ≡ capped (tasks_at ts places)
capped_all ts [] = refl
capped_all ts (p ∷ ps) =
    ap (λ t. capped (t + tasks_at (map capped ts) ps)) (capped_at ts p)
    ∙ first_part (slice_index ts p) (tasks_at (map capped ts) ps)
    ∙ capped_total ts ps (slice_index ts p)

-- a total of capped numbers is past the limit where the total is
pub total_past : (ss : List ScriptText) (places : List ℕ) → nat_lt 100000 (capped (tasks_at (capped_tasks ss) places)) ≡ nat_lt 100000 (tasks_at (tasks_of ss) places)
total_past ss places = ap (nat_lt 100000) (capped_all (tasks_of ss) places) ∙ capped_past (tasks_at (tasks_of ss) places)
