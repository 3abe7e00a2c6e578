use Rattle.rt_net_tests.proofs.tests.+binds_many.Given as goal

abbrev pub decreases-binds_many : goal.decreases-binds_many
decreases-binds_many g l = l.left
