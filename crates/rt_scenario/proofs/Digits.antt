use Rattle.rt_scenario.proofs.Prelude.{◌≡◌, ℕ, ◌+◌, ◌*◌, ◌<◌, ◌≤◌, List, [], ◌∷◌, Some, None, length, refl, sym, ap, ◌∙◌, arith, nat_tests, below, digit_value, digits_value_after}

-- more digits make no number smaller
pub digits_grow : (n : ℕ) (ds : List ℕ) → n ≤ digits_value_after 10 n ds
digits_grow n [] = omega arith
digits_grow n (d ∷ ds) = omega (arith, digits_grow (n * 10 + digit_value d) ds)

pub below_none : (limit n : ℕ) → limit ≤ n → below limit n ≡ None
below_none limit n h = grind (arith, nat_tests)

pub below_some : (limit n : ℕ) → n < limit → below limit n ≡ Some n
below_some limit n h = grind (arith, nat_tests)

-- the digits so far are past the limit, and so are all
pub past_limit : (limit n : ℕ) (ds : List ℕ) (total : ℕ) → digits_value_after 10 n ds ≡ total → limit ≤ n → below limit total ≡ None
past_limit limit n ds total e h = below_none limit total (omega (arith, digits_grow n ds))

-- one digit more is past the limit, and so are all
pub past_step : (limit n d : ℕ) (ds rest : List ℕ) (total : ℕ) → rest ≡ d ∷ ds → digits_value_after 10 n rest ≡ total → limit ≤ n * 10 + digit_value d → below limit total ≡ None
past_step limit n d ds rest total r e h = past_limit limit (n * 10 + digit_value d) ds total (sym (ap (λ l. digits_value_after 10 n l) r) ∙ e) h

pub at_end : (limit n : ℕ) (rest : List ℕ) (total : ℕ) → length rest ≡ 0 → digits_value_after 10 n rest ≡ total → n < limit → Some n ≡ below limit total
at_end limit n [] total z e h = rw (← e, below_some limit n h) refl
at_end limit n (d ∷ ds) total z e h = absurd (omega (arith, z))
