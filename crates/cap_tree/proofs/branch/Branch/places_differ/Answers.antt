use Rattle.cap_tree.proofs.Prelude.{subst, AreSpots}
use Rattle.cap_tree.proofs.Trees.{tree_of}
use Rattle.cap_tree.proofs.Walks.{all_differ}
use Rattle.cap_tree.proofs.branch.Branch.places_differ.Goals as goal

pub returns : goal.returns
returns g c =
    let tree = subst (AreSpots g.T.TreeItem.name) c.self.view_is (tree_of g.T.TreeItem.name c.self.inside.item c.self.inside.children.items c.self.invariant.0.trees) in
    all_differ g.T.TreeItem.order g.met.T.Served.total g.T.TreeItem.name g.met.T.Served.names tree c.requires
