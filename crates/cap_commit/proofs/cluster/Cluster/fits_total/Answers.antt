use Rattle.cap_commit.proofs.Prelude.{ap, ◌∙◌, fits, ClusterNode}
use Rattle.cap_commit.proofs.Seen.{fits_is}
use Rattle.cap_commit.proofs.Fitting.{in_cluster}
use Rattle.cap_commit.proofs.cluster.Cluster.fits_total.Goals as goal

pub returns : goal.returns
returns g c =
    rw c.requires (fits_is c.fits.result c.resource.result c.total.result c.fits.ensures ∙ (λ i. fits (c.resource.ensures.value i) ((c.total.ensures.value ∙ ap (λ (n : ClusterNode). n.total) c.node.ensures) i)))

pub resource-requires : goal.resource-requires
resource-requires g c = search in_cluster

pub node-requires : goal.node-requires
node-requires g c = search in_cluster

pub fits-requires : goal.fits-requires
fits-requires g c = search in_cluster

pub total-requires : goal.total-requires
total-requires g c = search in_cluster
