-- Worked examples: a cluster of three resources in which nothing has a GPU and the one of two that it is, and lines that guarantee GPUs.
use Rattle.std.specs.Prelude.{◌≡◌, ℕ, true, List, [], ◌∷◌, ◌++◌, Some, None, codes}
use Rattle.std.specs.List.{fold}
use Rattle.cap_vector.specs.Vector.{amount_max}
use Rattle.cap_base.specs.Settings.{Settings}
use Rattle.cap_model.specs.declared.request.Request.{Request}
use Rattle.cap_model.specs.Flat.{Flat, opened_cluster}
use Rattle.cap_model.specs.Sight.{sight_of}
use Rattle.cap_model.specs.Candidates.{choice_from}
use Rattle.cap_model.specs.Replies.{after_request}
use Rattle.cap_model.specs.Events.{after_grant}
use Rattle.cap_examples.specs.ExampleClusters.{mb_and_vcores, key, ask_anywhere, queue, grant_of, container, after_grants}
use Rattle.cap_examples.specs.ExampleProposals.{one_asked}
use Rattle.cap_narrow.specs.Clusters.{narrow}
use Rattle.cap_narrow.specs.Gpus.{stands_in, RaisesToNoGpu}

-- memory in MiB, vcores and GPUs
abbrev pub mb_vcores_and_gpus : ℕ → ℕ → ℕ → List ℕ
mb_vcores_and_gpus mb vcores gpus = mb ∷ vcores ∷ gpus ∷ []

-- the two leaf queues of the worked examples: three GPUs are guaranteed to the one, which may have eight, and one to the other
abbrev pub queues_with_gpus : Settings
queues_with_gpus = record {
  queues =
      queue (codes "root") (mb_vcores_and_gpus 0 0 0) None 1
      ∷ queue (codes "root.a") (mb_vcores_and_gpus 4096 4 3) (Some (mb_vcores_and_gpus 16384 16 8)) 4
      ∷ queue (codes "root.b") (mb_vcores_and_gpus 2048 8 1) None 1
      ∷ [];
  minimum_allocation = mb_vcores_and_gpus 1024 1 0;
  maximum_allocation = mb_vcores_and_gpus 8192 4 amount_max;
  application_limit = 10000;
}

-- one node without GPUs, an application in each queue, and an ask of the first
abbrev pub asked_without_gpus : Flat 3
asked_without_gpus =
    fold after_request (opened_cluster queues_with_gpus) (
    Request.RegisterNode (codes "n1") (codes "/r1") (mb_vcores_and_gpus 8192 8 0)
    ∷ Request.Submit (codes "root.a") (codes "u1")
    ∷ Request.Submit (codes "root.b") (codes "u2")
    ∷ Request.RegisterMaster 1
    ∷ Request.RegisterMaster 2
    ∷ Request.Allocate 1 0 (ask_anywhere (key 1 0) 1 (mb_vcores_and_gpus 1024 1 0) ∷ []) []
    ∷ [])

-- the ask is granted in both clusters, and after the grant the first resources of the one are the other
abbrev pub OneGrantWithoutGpus : Type 0
OneGrantWithoutGpus =
    (narrow asked_without_gpus ≡ one_asked)
    × (choice_from (sight_of asked_without_gpus) 0 ≡ Some (grant_of 1 (key 1 0) 1 (mb_vcores_and_gpus 1024 1 0)))
    × (choice_from (sight_of one_asked) 0 ≡ Some (grant_of 1 (key 1 0) 1 (mb_and_vcores 1024 1)))
    × (narrow (after_grant asked_without_gpus (container 1 1 (key 1 0) 1 (mb_vcores_and_gpus 1024 1 0))) ≡ after_grants 1 1 (key 1 0) 1 (mb_and_vcores 1024 1) one_asked)

-- property lines that guarantee GPUs to a queue, and set no least GPUs of a container
abbrev pub lines_with_gpus : List ℕ
lines_with_gpus = codes "yarn.scheduler.capacity.root.queues=a" ++ 10 ∷ codes "yarn.scheduler.capacity.root.a.capacity=[memory=4096,vcores=4,yarn.io/gpu=3]"

-- they name the resource, and yet raise no ask to any of it
abbrev pub GuaranteesRaiseNone : Type 0
GuaranteesRaiseNone = (stands_in (codes "yarn.io/gpu") lines_with_gpus ≡ true) × RaisesToNoGpu lines_with_gpus
