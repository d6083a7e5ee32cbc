use Rattle.cap_commit.proofs.Prelude.{ap, sym, ◌∙◌, option_and_then, option_map, NodeSight, load_sight}
use Rattle.cap_commit.proofs.Fitting.{in_cluster}
use Rattle.cap_commit.proofs.cluster.Cluster.held.Goals as goal

pub returns-in-Some : goal.returns-in-Some
returns-in-Some g c = c.reservation.ensures ∙ ap (option_and_then (λ (n : NodeSight). n.reservation)) (ap (option_map (λ l. load_sight l.now)) (sym c.in-Some.is) ∙ c.requires)

pub returns-in-None : goal.returns-in-None
returns-in-None g c = ap (option_and_then (λ (n : NodeSight). n.reservation)) (ap (option_map (λ l. load_sight l.now)) (sym c.in-None.is) ∙ c.requires)

pub reservation-requires : goal.reservation-requires
reservation-requires g c = search in_cluster
