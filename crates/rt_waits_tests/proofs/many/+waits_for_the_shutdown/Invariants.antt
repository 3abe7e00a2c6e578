use Rattle.rt_waits_tests.proofs.many.+waits_for_the_shutdown.Given as goal

abbrev pub decreases-waits_for_the_shutdown : goal.decreases-waits_for_the_shutdown
decreases-waits_for_the_shutdown g l = l.left
