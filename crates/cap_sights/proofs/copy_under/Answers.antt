use Rattle.std.proofs.Common.{arith}
use Rattle.cap_copy.proofs.Fitting.{nodes_of_few}
use Rattle.cap_commit.proofs.Sizes.{tree_fits}
use Rattle.cap_sights.proofs.Fitting.{cluster_of_few}
use Rattle.cap_sights.proofs.Sighting.{copy_shows}
use Rattle.cap_sights.proofs.copy_under.Goals as goal

pub nodes-nodes-requires : goal.nodes-nodes-requires
nodes-nodes-requires g c = let few = c.requires.few in (cluster_of_few _ few, nodes_of_few _ few)

pub tree-requires : goal.tree-requires
tree-requires g c = (search, tree_fits _ c.requires.few)

pub take-requires : goal.take-requires
take-requires g c =
    let few = c.requires.few in
    (tree_fits _ few, (omega arith, (nodes_of_few _ few, (c.requires.fits.copied, (c.requires.fits, (few, (rw c.apps.ensures.table c.apps.ensures.few, rw (c.tree.ensures.rows, c.apps.ensures.accounts) c.apps.ensures.placed)))))))

pub returns : goal.returns
returns g c =
    let flat = c.args.cluster.now.flat in
    copy_shows flat c.args.cluster.now.rows (record { rows = c.tree.result.now; apps = c.apps.result.now; nodes = c.nodes-nodes.result.now }) c.tree.ensures.rows c.apps.ensures.table c.nodes-nodes.ensures.value c.tree.ensures.queues c.tree.ensures.tied c.numbers_rise.ensures.nodes c.take.result c.take.ensures
