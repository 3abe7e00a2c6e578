use Rattle.rt_waits_tests.proofs.many.+makes_slots.Given as goal

abbrev pub decreases-makes_slots : goal.decreases-makes_slots
decreases-makes_slots g l = l.left
