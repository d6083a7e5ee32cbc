use Rattle.engine_tests.proofs.shared.lagging.lagged.Given as goal

abbrev pub ghosts-named_lag : goal.ghosts-named_lag
ghosts-named_lag g a = record { table = a.blank.0; opening = a.cluster.flat; limit = 1000; seats = 1 }
