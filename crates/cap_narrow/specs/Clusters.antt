-- A cluster and what is seen of it, without the last resource.
use Rattle.std.specs.Prelude.{◌≡◌, ℕ, suc, List, map, option_map, take, length}
use Rattle.std.specs.List.{All}
use Rattle.cap_base.specs.Settings.{Settings}
use Rattle.cap_model.specs.Asks.{Ask}
use Rattle.cap_model.specs.News.{Grant, AllocateReply}
use Rattle.cap_model.specs.Refresh.{first_of_queue, first_of_settings}
use Rattle.cap_model.specs.Flat.{Flat, App, AppTable, ClusterNode, Container, NodeTable, Reservation}
use Rattle.cap_model.specs.Sight.{Sight, QueueSight, AppSight, NodeSight}
use Rattle.cap_model.specs.Admission.{NodeProposal}
use Rattle.cap_narrow.specs.Narrowing.{EndsInNone}

-- each vector of a part of a cluster, cut to its first K amounts
abbrev pub narrow_ask : ℕ → Ask → Ask
narrow_ask K ask = record ask { resource = take K ask.resource }

abbrev pub narrow_grant : ℕ → Grant → Grant
narrow_grant K g = record g { resource = take K g.resource }

abbrev pub narrow_allocate_reply : ℕ → AllocateReply → AllocateReply
narrow_allocate_reply K r = record r { grants = map (narrow_grant K) r.grants }

abbrev pub narrow_app : ℕ → App → App
narrow_app K a = record a { kept = option_map (narrow_allocate_reply K) a.kept; asks = map (narrow_ask K) a.asks; grants = map (narrow_grant K) a.grants }

abbrev pub narrow_apps : ℕ → AppTable → AppTable
narrow_apps K t = record t { active = map (narrow_app K) t.active }

abbrev pub narrow_node : ℕ → ClusterNode → ClusterNode
narrow_node K n = record n { total = take K n.total }

abbrev pub narrow_container : ℕ → Container → Container
narrow_container K c = record c { resource = take K c.resource }

abbrev pub narrow_reservation : ℕ → Reservation → Reservation
narrow_reservation K r = record r { resource = take K r.resource }

abbrev pub narrow_nodes : ℕ → NodeTable → NodeTable
narrow_nodes K t = record t { present = map (narrow_node K) t.present; live = map (narrow_container K) t.live; reserved = map (narrow_reservation K) t.reserved }

-- the same of what is seen, and of a proposal
abbrev pub narrow_queue_sight : ℕ → QueueSight → QueueSight
narrow_queue_sight K q = record { row = first_of_queue K q.row; used = take K q.used; used_by = λ user. take K (q.used_by user) }

abbrev pub narrow_app_sight : ℕ → AppSight → AppSight
narrow_app_sight K a = record a { asks = map (narrow_ask K) a.asks }

abbrev pub narrow_node_sight : ℕ → NodeSight → NodeSight
narrow_node_sight K n = record n { total = take K n.total; free = take K n.free; reservation = option_map (narrow_reservation K) n.reservation }

abbrev pub narrow_proposal : ℕ → NodeProposal → NodeProposal
narrow_proposal K p = record p { resource = take K p.resource }

-- Settings by which no ask is raised to any of the last resource, and each guarantee has an amount of each. What is guaranteed of the last
-- and what the maxima of it are may be any amounts.
pub record SetsNone (K : ℕ) (settings : Settings) : Type 0 where
  pub minimum : EndsInNone K settings.minimum_allocation
  pub guarantees : All (λ q. length q.guaranteed ≡ suc K) settings.queues

-- no ask of these is for any of the last resource
abbrev pub WantNone : ℕ → List Ask → Type 0
WantNone K asks = All (λ ask. EndsInNone K ask.resource) asks

module _ {K : ℕ} where
  -- a cluster without its last resource
  abbrev pub narrow : Flat (suc K) → Flat K
  narrow cluster = record { settings = first_of_settings K cluster.settings; apps = narrow_apps K cluster.apps; nodes = narrow_nodes K cluster.nodes }

  abbrev pub narrow_sight : Sight (suc K) → Sight K
  narrow_sight sight = record {
    queues = map (narrow_queue_sight K) sight.queues;
    apps = map (narrow_app_sight K) sight.apps;
    nodes = map (narrow_node_sight K) sight.nodes;
    live = sight.live;
    next_container = sight.next_container;
  }

  -- nothing in a cluster has any of the last resource: its asks, nodes, containers and reservations have none, and its settings raise no ask
  pub record HasNone (cluster : Flat (suc K)) : Type 0 where
    pub settings : SetsNone K cluster.settings
    pub asks : All (λ app. WantNone K app.asks) cluster.apps.active
    pub nodes : All (λ node. EndsInNone K node.total) cluster.nodes.present
    pub live : All (λ c. EndsInNone K c.resource) cluster.nodes.live
    pub reserved : All (λ r. EndsInNone K r.resource) cluster.nodes.reserved

  -- none of it is seen: no queue, no user uses any, and no ask wants any
  pub record ShowsNone (sight : Sight (suc K)) : Type 0 where
    pub guarantees : All (λ q. length q.row.guaranteed ≡ suc K) sight.queues
    pub used : All (λ q. EndsInNone K q.used) sight.queues
    pub used_by : All (λ q. (user : List ℕ) → EndsInNone K (q.used_by user)) sight.queues
    pub asks : All (λ app. WantNone K app.asks) sight.apps
