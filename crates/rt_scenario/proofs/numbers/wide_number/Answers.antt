use Rattle.rt_scenario.proofs.Prelude.{◌≡◌, ◌∷◌, ◌∙◌, sym, arith, rules}
use Rattle.rt_scenario.proofs.Digits.{past_step, at_end}
use Rattle.rt_scenario.proofs.numbers.wide_number.Goals as goal

pub returns-in_err-checked_mul : goal.returns-in_err-checked_mul
returns-in_err-checked_mul c =
    let whole : c.loop-digit.rest.now ≡ c.in-Some.digit.now ∷ c.in-Some.tail.now = search rules in
    c.from_residual.ensures ∙ sym (past_step _ _ _ _ _ _ whole c.loop-digit.invariant.1 (omega (arith, c.in_err-checked_mul.ensures)))

pub returns-in_err-number : goal.returns-in_err-number
returns-in_err-number c =
    let whole : c.loop-digit.rest.now ≡ c.in-Some.digit.now ∷ c.in-Some.tail.now = search rules in
    c.from_residual-in_err-number.ensures ∙ sym (past_step _ _ _ _ _ _ whole c.loop-digit.invariant.1 (omega (arith, c.in_err-number.ensures, c.digit_number.ensures, c.from.ensures, c.in_ok-checked_mul.ensures)))

pub returns : goal.returns
returns c = at_end _ _ _ _ c.in_default.ensures.cases c.loop-digit.invariant.1 (omega arith)
