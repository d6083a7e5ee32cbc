-- What a proposal looks at is no larger than memory, where there are not too many kinds of resource.
use Rattle.cap_live.proofs.Prelude.{ℕ, ◌≤◌, arith, FitsInMemory, resources_max, fits_by_most}
use denote.Param.{layout, number, param}
use Rattle.cap_vector.specs.contracts.vector.Amounts as amounts
use Rattle.cap_model.specs.contracts.ask.Ask as ask
use Rattle.cap_model.specs.contracts.container.Reservation as reservation
use Rattle.cap_model.specs.contracts.proposal.Proposal as proposal
use Rattle.cap_asks.specs.contracts.app.App as app
use Rattle.cap_asks.specs.contracts.apps.Apps as apps
use Rattle.cap_nodes.specs.contracts.load.Load as load
use Rattle.cap_nodes.specs.contracts.node.Node as node
use Rattle.cap_nodes.specs.contracts.nodes.Nodes as nodes
use Rattle.cap_commit.specs.contracts.cluster.Cluster as cluster

module _ (n : ℕ) (few : n ≤ resources_max) where
  pub cluster_of_few : FitsInMemory (cluster.the_row (param 0 (number n)))
  cluster_of_few = fits_by_most (layout (cluster.the_row (param 0 (number n)))) (omega (arith, few))

  pub nodes_of_few : FitsInMemory (nodes.the_row (param 0 (number n)))
  nodes_of_few = fits_by_most (layout (nodes.the_row (param 0 (number n)))) (omega (arith, few))

  pub load_of_few : FitsInMemory (load.the_row (param 0 (number n)))
  load_of_few = fits_by_most (layout (load.the_row (param 0 (number n)))) (omega (arith, few))

  pub node_of_few : FitsInMemory (node.the_row (param 0 (number n)))
  node_of_few = fits_by_most (layout (node.the_row (param 0 (number n)))) (omega (arith, few))

  pub ask_of_few : FitsInMemory (ask.the_row (param 0 (number n)))
  ask_of_few = omega (arith, few)

  pub reservation_of_few : FitsInMemory (reservation.the_row (param 0 (number n)))
  reservation_of_few = omega (arith, few)

  pub amounts_of_few : (max : ℕ) → FitsInMemory (amounts.the_row (param 0 (number n)) (number max))
  amounts_of_few max = omega (arith, few)

  pub proposal_of_few : FitsInMemory (proposal.the_row (param 0 (number n)))
  proposal_of_few = omega (arith, few)

  pub app_of_few : FitsInMemory (app.the_row (param 0 (number n)))
  app_of_few = omega arith

  pub apps_of_few : FitsInMemory (apps.the_row (param 0 (number n)))
  apps_of_few = omega arith

-- all of these
pub ruleset of_few = (cluster_of_few, nodes_of_few, load_of_few, node_of_few, ask_of_few, reservation_of_few, amounts_of_few, proposal_of_few, app_of_few, apps_of_few)
