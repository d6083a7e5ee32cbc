use Rattle.std.specs.Prelude.{Some, ◌+◌}
use Rattle.worker_tests.proofs.committing.played.Given as goal

abbrev pub ghosts-play_under_name-J-Naming : goal.ghosts-play_under_name-J-Naming
ghosts-play_under_name-J-Naming g a = record { table = a.opened.blank.0; opening = a.opened.cluster.flat; limit = a.row.entries + 5; seats = 4 }

abbrev pub ghosts-play_under_name-J-LaneNaming : goal.ghosts-play_under_name-J-LaneNaming
ghosts-play_under_name-J-LaneNaming g a = record { lanes = Some a.opened.lanes }
