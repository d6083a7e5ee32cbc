-- The parts of a cluster are no larger than memory, as the cluster is.
use Rattle.cap_commit.proofs.Prelude.{ℕ, ◌*◌, ◌<◌, ◌≤◌, resources_max, [], ◌∷◌, arith, RattleType, FitsInMemory, part_fits}
use denote.Param.{layout, number, param}
use Rattle.cap_vector.specs.contracts.vector.Amounts as amounts
use Rattle.cap_model.specs.contracts.ask.Ask as ask
use Rattle.cap_model.specs.contracts.container.Container as container
use Rattle.cap_model.specs.contracts.event.Event as event
use Rattle.cap_model.specs.contracts.container.Reservation as reservation
use Rattle.cap_model.specs.contracts.news.Grant as grant
use Rattle.cap_asks.specs.contracts.app.App as app
use Rattle.cap_asks.specs.contracts.apps.Apps as apps
use Rattle.cap_nodes.specs.contracts.load.Load as load
use Rattle.cap_nodes.specs.contracts.node.Node as node
use Rattle.cap_nodes.specs.contracts.nodes.Nodes as nodes
use Rattle.cap_commit.specs.contracts.cluster.Cluster as cluster
use Rattle.cap_commit.specs.contracts.limits.Limits as limits
use Rattle.cap_commit.specs.contracts.made.Made as made

pub limits_in_cluster : (K : RattleType) → FitsInMemory (cluster.the_row K) → FitsInMemory (limits.the_row K)
limits_in_cluster K = part_fits (layout (cluster.the_row K)) (1 ∷ [])

pub nodes_in_cluster : (K : RattleType) → FitsInMemory (cluster.the_row K) → FitsInMemory (nodes.the_row K)
nodes_in_cluster K = part_fits (layout (cluster.the_row K)) (3 ∷ [])

pub container_in_cluster : (K : RattleType) → FitsInMemory (cluster.the_row K) → FitsInMemory (container.the_row K)
container_in_cluster K = part_fits (layout (cluster.the_row K)) (3 ∷ 1 ∷ 4 ∷ [])

pub load_in_cluster : (K : RattleType) → FitsInMemory (cluster.the_row K) → FitsInMemory (load.the_row K)
load_in_cluster K = part_fits (layout (cluster.the_row K)) (3 ∷ 0 ∷ 2 ∷ [])

pub node_in_cluster : (K : RattleType) → FitsInMemory (cluster.the_row K) → FitsInMemory (node.the_row K)
node_in_cluster K = part_fits (layout (cluster.the_row K)) (3 ∷ 0 ∷ 2 ∷ 0 ∷ [])

pub amounts_in_cluster : (K MAX : RattleType) → FitsInMemory (cluster.the_row K) → FitsInMemory (amounts.the_row K MAX)
amounts_in_cluster K MAX = part_fits (layout (cluster.the_row K)) (1 ∷ 0 ∷ [])

pub array_in_cluster : (n : ℕ) → FitsInMemory (cluster.the_row (param 0 (number n))) → n * 8 < 9223372036854775808
array_in_cluster n fits = let whole = amounts_in_cluster (param 0 (number n)) (number 0) fits in omega (arith, whole)

pub reservation_in_cluster : (n : ℕ) → FitsInMemory (cluster.the_row (param 0 (number n))) → FitsInMemory (reservation.the_row (param 0 (number n)))
reservation_in_cluster n fits = let whole = container_in_cluster (param 0 (number n)) fits in omega (arith, whole)

pub made_in_cluster : (n : ℕ) → FitsInMemory (cluster.the_row (param 0 (number n))) → FitsInMemory (made.the_row (param 0 (number n)))
made_in_cluster n fits = let whole = part_fits (layout (cluster.the_row (param 0 (number n)))) (3 ∷ 1 ∷ []) fits in omega (arith, whole)

pub ask_in_cluster : (n : ℕ) → FitsInMemory (cluster.the_row (param 0 (number n))) → FitsInMemory (ask.the_row (param 0 (number n)))
ask_in_cluster n fits = let whole = limits_in_cluster (param 0 (number n)) fits in omega (arith, whole)

pub grant_in_cluster : (n : ℕ) → FitsInMemory (cluster.the_row (param 0 (number n))) → FitsInMemory (grant.the_row (param 0 (number n)))
grant_in_cluster n fits = let whole = limits_in_cluster (param 0 (number n)) fits in omega (arith, whole)

-- the table of applications and an application have few bytes for any number of kinds of resource
pub apps_fit : (K : RattleType) → FitsInMemory (apps.the_row K)
apps_fit K = omega arith

pub app_fits : (K : RattleType) → FitsInMemory (app.the_row K)
app_fits K = omega arith

-- an event is as small as the kinds of resource are few
pub event_fits : (n : ℕ) → n ≤ resources_max → FitsInMemory (event.the_row (param 0 (number n)))
event_fits n few = let most : n ≤ 1000 = few in omega (arith, most)

-- all of these: what a cluster holds fits in memory
pub ruleset in_cluster = (nodes_in_cluster, container_in_cluster, load_in_cluster, node_in_cluster, amounts_in_cluster, reservation_in_cluster, ask_in_cluster, grant_in_cluster, limits_in_cluster, apps_fit, app_fits)
