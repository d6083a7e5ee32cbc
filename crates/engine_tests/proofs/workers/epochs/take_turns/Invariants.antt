use Rattle.engine_tests.proofs.workers.epochs.take_turns.Given as goal

abbrev pub ghosts-turns_epoch : goal.ghosts-turns_epoch
ghosts-turns_epoch g a = record { table = a.blank.0; opening = a.cluster.flat; limit = a.limit; seats = a.blank.1 }
