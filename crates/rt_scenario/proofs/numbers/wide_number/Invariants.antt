use Rattle.rt_scenario.proofs.Prelude.{◌≡◌, ◌<◌, ◌^◌, true, length, list_all, is_ascii_digit, digits_value_after}
use Rattle.rt_scenario.proofs.numbers.wide_number.Given as goal

abbrev pub invariant-loop-digit : goal.invariant-loop-digit
invariant-loop-digit l =
    (list_all is_ascii_digit l.rest ≡ true)
    × (digits_value_after 10 l.number l.rest ≡ digits_value_after 10 l.fn.start l.fn.text)
    × (l.number < 2 ^ 128)

abbrev pub decreases-loop-digit : goal.decreases-loop-digit
decreases-loop-digit l = length l.rest
