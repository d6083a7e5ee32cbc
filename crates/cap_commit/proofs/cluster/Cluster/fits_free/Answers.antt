use Rattle.cap_commit.proofs.Prelude.{◌∙◌, fits}
use Rattle.cap_commit.proofs.Seen.{fits_is}
use Rattle.cap_commit.proofs.Fitting.{in_cluster}
use Rattle.cap_commit.proofs.cluster.Cluster.fits_free.Goals as goal

pub returns : goal.returns
returns g c =
    rw c.requires.seen (fits_is c.fits.result c.resource.result c.free.result c.fits.ensures ∙ (λ i. fits (c.resource.ensures.value i) (c.free.ensures i)))

pub fits-requires : goal.fits-requires
fits-requires g c = search in_cluster

pub free-requires : goal.free-requires
free-requires g c = search in_cluster

pub resource-requires : goal.resource-requires
resource-requires g c = search in_cluster
