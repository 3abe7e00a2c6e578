use Rattle.rt_scenario.proofs.Prelude.{◌≡◌, true, length, list_all, is_ascii_digit, digits_value, digits_value_after}
use Rattle.rt_scenario.proofs.numbers.digits_number.Given as goal

abbrev pub invariant-loop-digit : goal.invariant-loop-digit
invariant-loop-digit l =
    (list_all is_ascii_digit l.rest ≡ true)
    × (digits_value_after 10 l.number l.rest ≡ digits_value 10 l.fn.text)

abbrev pub decreases-loop-digit : goal.decreases-loop-digit
decreases-loop-digit l = length l.rest
