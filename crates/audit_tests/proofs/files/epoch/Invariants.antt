use Rattle.audit_tests.proofs.files.epoch.Given as goal

abbrev pub ghosts-named_epoch : goal.ghosts-named_epoch
ghosts-named_epoch g a = record { table = a.blank.0; opening = a.cluster.flat; limit = a.limit; seats = a.blank.1 }
