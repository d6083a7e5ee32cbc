use Rattle.cap_commit.proofs.Fitting.{in_cluster, nodes_in_cluster}
use Rattle.cap_commit.proofs.Prelude.{ap, ◌∙◌, node_in}
use Rattle.cap_commit.proofs.Seen.{load_seen, node_seen}
use Rattle.cap_commit.proofs.cluster.Cluster.load.Goals as goal

pub returns-clause-seen : goal.returns-clause-seen
returns-clause-seen g c =
    rw (← c.self.view_is) (load_seen _ c.self.invariant.consistent c.args.proposal.now.node c.in-Some.load.now (c.in-Some.ensures.node ∙ ap (node_in c.self.inside.nodes) c.node.ensures) c.in-Some.ensures.load)

pub returns-clause-fits : goal.returns-clause-fits
returns-clause-fits g c = c.in-Some.ensures.load.fits

pub returns-in_default-clause-seen : goal.returns-in_default-clause-seen
returns-in_default-clause-seen g c = rw (← c.self.view_is) (node_seen _ c.self.invariant.consistent c.args.proposal.now.node (c.in_default.ensures.node ∙ ap (node_in c.self.inside.nodes) c.node.ensures))

pub load-requires : goal.load-requires
load-requires g c = search nodes_in_cluster

pub node-requires : goal.node-requires
node-requires g c = search in_cluster
