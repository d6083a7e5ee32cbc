use Rattle.cap_tree.proofs.Prelude.{◌≡◌, take, true, list_all, has_path, queues_of}
use Rattle.cap_tree.proofs.tree.QueueTree.same_paths.Given as goal

abbrev pub invariant-loop-queue : goal.invariant-loop-queue
invariant-loop-queue g l = list_all (λ q. has_path (queues_of l.self) q.path) (take l.queue-index l.queues) ≡ true
