-- What a change of a node leaves.
use Rattle.cap_nodes.proofs.Prelude.{ℕ, Load}
use Rattle.cap_nodes.proofs.Presents.{IsSameNode, same_node}
use Rattle.cap_nodes.specs.declared.change.Change.{Change}
use Rattle.cap_nodes.specs.declared.change.Change.TheVariants.{Hold, Lift, Reserve, Unreserve}
use Rattle.cap_nodes.specs.Changes.{changed_by}

pub keeps : {K : ℕ} (c : Change K) (p : Load) → IsSameNode p.node (changed_by c p).node
keeps (Hold resource) p = same_node p.node
keeps (Lift resource) p = same_node p.node
keeps (Reserve reservation) p = same_node p.node
keeps Unreserve p = same_node p.node
