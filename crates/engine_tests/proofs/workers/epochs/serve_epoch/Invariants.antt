use Rattle.engine_tests.proofs.workers.epochs.serve_epoch.Given as goal

abbrev pub ghosts-session_epoch : goal.ghosts-session_epoch
ghosts-session_epoch g a = record { table = a.blank.0; opening = a.cluster.flat; limit = a.limit; seats = a.blank.1 }
