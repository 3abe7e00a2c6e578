use Rattle.rt_waits_tests.proofs.many.+draws_numbers.Given as goal

abbrev pub decreases-draws_numbers : goal.decreases-draws_numbers
decreases-draws_numbers g l = l.left
