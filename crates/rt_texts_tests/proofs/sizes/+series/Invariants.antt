use Rattle.rt_texts_tests.proofs.sizes.+series.Given as goal

abbrev pub decreases-series : goal.decreases-series
decreases-series l = l.left
