use Rattle.rt_net_tests.proofs.tests.+opens_many.Given as goal

abbrev pub decreases-opens_many : goal.decreases-opens_many
decreases-opens_many g l = l.left
