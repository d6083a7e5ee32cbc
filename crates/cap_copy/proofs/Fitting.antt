-- What a snapshot is made of, and what it is taken from, are no larger than memory.
use Rattle.cap_copy.proofs.Prelude.{ℕ, ◌≤◌, [], ◌∷◌, arith, FitsInMemory, RattleType, Ghosts, resources_max, part_fits, container_fits}
use denote.Param.{layout, number, param}
use Rattle.cap_model.specs.contracts.container.Reservation as reservation
use Rattle.cap_vector.specs.contracts.vector.Amounts as amounts
use Rattle.smallvec.specs.contracts.small_vec.SmallVec as path
use Rattle.cap_vector.specs.contracts.fullness.Shares as shares
use Rattle.cap_nodes.specs.contracts.nodes.Nodes as nodes
use Rattle.cap_nodes.proofs.Sizes.{nodes_of_few as fits_of_few}
use Rattle.cap_copy.specs.contracts.snapshot.Snapshot as snapshot
use Rattle.cap_copy.specs.contracts.copied.ClusterCopy as copied
use Rattle.cap_copy.specs.contracts.seen_app.SeenApp as seen_app
use Rattle.cap_copy.specs.contracts.seen.SeenAsk as seen_ask
use Rattle.cap_copy.specs.contracts.seen.SeenNode as seen_node
use Rattle.cap_copy.specs.contracts.seen_queue.SeenQueue as seen_queue
use Rattle.cap_copy.specs.contracts.seen_tree.SeenTree as seen_tree

pub reservation_by_nodes : (n : ℕ) → FitsInMemory (nodes.the_row (param 0 (number n))) → FitsInMemory (reservation.the_row (param 0 (number n)))
reservation_by_nodes n fits = let whole = container_fits n fits in omega (arith, whole)

pub nodes_of_few : (n : ℕ) → n ≤ resources_max → FitsInMemory (nodes.the_row (param 0 (number n)))
nodes_of_few n few = fits_of_few n few

pub reservation_of_few : (n : ℕ) → n ≤ resources_max → FitsInMemory (reservation.the_row (param 0 (number n)))
reservation_of_few n few = omega (arith, few)

pub seen_ask_of_few : (n : ℕ) → n ≤ resources_max → FitsInMemory (seen_ask.the_row (param 0 (number n)))
seen_ask_of_few n few = omega (arith, few)

pub seen_app_of_few : (n : ℕ) → n ≤ resources_max → FitsInMemory (seen_app.the_row (param 0 (number n)))
seen_app_of_few n few = omega (arith, few)

pub seen_node_of_few : (n : ℕ) → n ≤ resources_max → FitsInMemory (seen_node.the_row (param 0 (number n)))
seen_node_of_few n few = omega (arith, few)

pub tree_in_snapshot : (K A : RattleType) (alloc : Ghosts A.Denot) → FitsInMemory (snapshot.the_row K A alloc) → FitsInMemory (seen_tree.the_row K A alloc)
tree_in_snapshot K A alloc = part_fits (layout (snapshot.the_row K A alloc)) (0 ∷ [])

pub amounts_in_snapshot : (K MAX A : RattleType) (alloc : Ghosts A.Denot) → FitsInMemory (snapshot.the_row K A alloc) → FitsInMemory (amounts.the_row K MAX)
amounts_in_snapshot K MAX A alloc = part_fits (layout (snapshot.the_row K A alloc)) (0 ∷ 0 ∷ 0 ∷ 1 ∷ [])

pub tree_in_copy : (K A : RattleType) (alloc : Ghosts A.Denot) → FitsInMemory (copied.the_row K A alloc) → FitsInMemory (seen_tree.the_row K A alloc)
tree_in_copy K A alloc = part_fits (layout (copied.the_row K A alloc)) (0 ∷ [])

pub seen_fits : (K A : RattleType) (alloc : Ghosts A.Denot) → FitsInMemory (seen_tree.the_row K A alloc) → FitsInMemory (seen_queue.the_row K A alloc)
seen_fits K A alloc = part_fits (layout (seen_tree.the_row K A alloc)) (0 ∷ 0 ∷ [])

pub name_in_seen : (K A : RattleType) (alloc : Ghosts A.Denot) → FitsInMemory (seen_queue.the_row K A alloc) → FitsInMemory (path.the_row denote.Builtin.u8 (number 24) A alloc)
name_in_seen K A alloc = part_fits (layout (seen_queue.the_row K A alloc)) (0 ∷ [])

pub amounts_in_seen : (K MAX A : RattleType) (alloc : Ghosts A.Denot) → FitsInMemory (seen_queue.the_row K A alloc) → FitsInMemory (amounts.the_row K MAX)
amounts_in_seen K MAX A alloc = part_fits (layout (seen_queue.the_row K A alloc)) (1 ∷ [])

pub shares_in_seen : (K A : RattleType) (alloc : Ghosts A.Denot) → FitsInMemory (seen_queue.the_row K A alloc) → FitsInMemory (shares.the_row K)
shares_in_seen K A alloc = part_fits (layout (seen_queue.the_row K A alloc)) (5 ∷ [])
