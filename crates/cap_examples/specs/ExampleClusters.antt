-- Small clusters in which the definitions are tried.
use Rattle.std.specs.Prelude.{ℕ, zero, suc, true, List, [], ◌∷◌, Option, Some, None, codes}
use Rattle.std.specs.List.{fold}
use Rattle.cap_base.specs.Settings.{Settings, QueueRow}
use Rattle.cap_model.specs.declared.ask.Key.{Key}
use Rattle.cap_model.specs.Asks.{Ask}
use Rattle.cap_model.specs.declared.request.Request.{Request}
use Rattle.cap_model.specs.Flat.{Flat, Container, opened_cluster}
use Rattle.cap_model.specs.Admission.{NodeProposal}
use Rattle.cap_model.specs.declared.proposal.ProposalKind.{ProposalKind}
use Rattle.cap_model.specs.Replies.{after_request}
use Rattle.cap_model.specs.Events.{after_grant, after_reserve}

-- memory in MiB and vcores
abbrev pub mb_and_vcores : ℕ → ℕ → List ℕ
mb_and_vcores mb vcores = mb ∷ vcores ∷ []

abbrev pub key : ℕ → ℕ → Key
key priority request = record { priority = priority; request = request }

-- an ask that takes any node
abbrev pub ask_anywhere : Key → ℕ → List ℕ → Ask
ask_anywhere k count resource = record { key = k; count = count; resource = resource; place = codes "*" }

abbrev pub queue : List ℕ → List ℕ → Option (List ℕ) → ℕ → QueueRow
queue path guaranteed most factor = record { path = path; guaranteed = guaranteed; maximum = most; factor = factor; running = true }

abbrev pub with_queues : List QueueRow → Settings
with_queues queues = record {
  queues = queues;
  minimum_allocation = mb_and_vcores 1024 1;
  maximum_allocation = mb_and_vcores 8192 4;
  application_limit = 10000;
}

-- two leaf queues under the root
abbrev pub two_queues : Settings
two_queues = with_queues (
    queue (codes "root") (mb_and_vcores 0 0) None 1
    ∷ queue (codes "root.a") (mb_and_vcores 4096 4) (Some (mb_and_vcores 16384 16)) 4
    ∷ queue (codes "root.b") (mb_and_vcores 2048 8) None 1
    ∷ [])

-- the cluster after some calls, none of which lacks memory
abbrev pub after_calls : Flat 2 → List (Request 2) → Flat 2
after_calls cluster requests = fold after_request cluster requests

-- two applications, one in each queue, both registered
abbrev pub two_masters : List (Request 2)
two_masters =
    Request.Submit (codes "root.a") (codes "u1")
    ∷ Request.Submit (codes "root.b") (codes "u2")
    ∷ Request.RegisterMaster 1
    ∷ Request.RegisterMaster 2
    ∷ []

-- one node of 8192 MiB and 8 vcores, and the two applications
abbrev pub small : Flat 2
small = after_calls (opened_cluster two_queues) (Request.RegisterNode (codes "n1") (codes "/r1") (mb_and_vcores 8192 8) ∷ two_masters)

-- an allocate with asks alone
abbrev pub asks_of : ℕ → ℕ → List Ask → Request 2
asks_of app id asks = Request.Allocate app id asks []

-- a proposal to grant, and one to reserve
abbrev pub grant_of : ℕ → Key → ℕ → List ℕ → NodeProposal
grant_of app k node resource = record { kind = ProposalKind.Grant; app = app; key = k; node = node; resource = resource }

abbrev pub reserve_of : ℕ → Key → ℕ → List ℕ → NodeProposal
reserve_of app k node resource = record { kind = ProposalKind.Reserve; app = app; key = k; node = node; resource = resource }

-- a container of that number, and the cluster after it was granted
abbrev pub container : ℕ → ℕ → Key → ℕ → List ℕ → Container
container number app k node resource = record { number = number; app = app; key = k; node = node; resource = resource }

-- the cluster after so many equal containers of the next numbers were granted to an application on a node
abbrev pub after_grants : ℕ → ℕ → Key → ℕ → List ℕ → Flat 2 → Flat 2
after_grants zero app k node resource cluster = cluster
after_grants (suc n) app k node resource cluster =
    after_grants n app k node resource (after_grant cluster (container cluster.nodes.next_container app k node resource))

-- the cluster after room was reserved
abbrev pub with_room_reserved : ℕ → Key → ℕ → List ℕ → Flat 2 → Flat 2
with_room_reserved app k node resource cluster = after_reserve cluster (record { app = app; key = k; node = node; resource = resource })
