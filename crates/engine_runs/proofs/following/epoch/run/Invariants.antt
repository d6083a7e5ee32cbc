use Rattle.engine_runs.proofs.following.epoch.run.Given as goal

abbrev pub ghosts-named_epoch-J-Naming : goal.ghosts-named_epoch-J-Naming
ghosts-named_epoch-J-Naming g a = record { table = a.blank.0; opening = a.cluster.flat; limit = 1000000; seats = 2 }
