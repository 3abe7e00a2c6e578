use Rattle.rt_waits_tests.proofs.many.+makes_groups.Given as goal

abbrev pub decreases-makes_groups : goal.decreases-makes_groups
decreases-makes_groups g l = l.left
