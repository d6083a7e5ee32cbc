use Rattle.refusal_cases.proofs.epochs.in_epoch.Given as goal

abbrev pub ghosts-worked : goal.ghosts-worked
ghosts-worked g a = record { table = a.blank.0; opening = a.cluster.flat; limit = a.limit; seats = a.blank.1 }
