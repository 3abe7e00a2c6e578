use Rattle.rt_waits_tests.proofs.many.+asks_for_digests.Given as goal

abbrev pub decreases-asks_for_digests : goal.decreases-asks_for_digests
decreases-asks_for_digests g l = l.left
