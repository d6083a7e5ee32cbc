use Rattle.cap_commit.proofs.Fitting.{amounts_in_cluster, event_fits, made_in_cluster}
use Rattle.cap_commit.proofs.Prelude.{sym, sight_of, rejected_exactly}
use Rattle.cap_commit.proofs.cluster.Cluster.try_commit.Goals as goal

pub returns-in-Err-make-clause-admissible : goal.returns-in-Err-make-clause-admissible
returns-in-Err-make-clause-admissible g c = (rejected_exactly g.row.K (sight_of c.args.self.now.flat) c.args.proposal).0 (sym c.in-Ok.ensures.reason)

pub make-requires : goal.make-requires
make-requires g c = ((search), ((search), (search amounts_in_cluster, (search made_in_cluster, (sym c.in-Ok.ensures.reason, c.in-Ok.ensures.old)))))

pub admit-requires : goal.admit-requires
admit-requires g c = search amounts_in_cluster

pub event-requires : goal.event-requires
event-requires g c = (search made_in_cluster, event_fits _ c.nodes.ensures.resources)
