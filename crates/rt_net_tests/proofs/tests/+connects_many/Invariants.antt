use Rattle.rt_net_tests.proofs.tests.+connects_many.Given as goal

abbrev pub decreases-connects_many : goal.decreases-connects_many
decreases-connects_many g l = l.left
