use Rattle.cap_server.proofs.epoch.epoch.Given as goal

abbrev pub ghosts-named_epoch-J-Naming : goal.ghosts-named_epoch-J-Naming
ghosts-named_epoch-J-Naming g a = record { table = a.blanks.0.0; opening = a.cluster.flat; limit = a.state.now.limit; seats = a.blanks.0.1 }

abbrev pub ghosts-named_epoch-J-LaneNaming : goal.ghosts-named_epoch-J-LaneNaming
ghosts-named_epoch-J-LaneNaming g a = record { lanes = a.blanks.1 }
