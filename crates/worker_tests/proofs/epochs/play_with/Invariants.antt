use Rattle.worker_tests.proofs.epochs.play_with.Given as goal

abbrev pub ghosts-play_under_name-J-Naming : goal.ghosts-play_under_name-J-Naming
ghosts-play_under_name-J-Naming g a = record { table = a.opening.blank.0; opening = a.opening.cluster.flat; limit = 20; seats = 2 }
