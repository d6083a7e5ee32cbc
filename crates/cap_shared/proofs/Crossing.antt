-- That threads may share a cluster: what lies under the lock may move to another thread, so the lock may be lent to several.
use denote.RattleType.{RattleType}
use denote.Param.Send.{IsSend, IsSync, Frees, sendable, view_send, recorded_send, recorded_sync, struct_send, struct_sync}
use denote.Struct.Declared.{shape}
use Rattle.cap_shared.proofs.Prelude.{Ghosts, crosses}
use Rattle.std.proofs.boxed.Box.TheSendSync as boxed
use Rattle.std.proofs.sync.Mutex.TheSendSync as mutex
use Rattle.std.proofs.vec.Vec.TheSendSync as vec
use Rattle.atomic_table.proofs.shared.Seat.TheSendSync as seat
use Rattle.atomic_table.proofs.owned.Table.TheSendSync as table
use Rattle.cap_tree.proofs.branch.Branch.TheLaws.TheKnot as knot
use Rattle.cap_tree.proofs.queue.Queue.TheSendSync as queue
use Rattle.cap_tree.specs.contracts.tree.QueueTree as QueueTree
use Rattle.cap_asks.proofs.apps.Apps.TheSendSync as apps
use Rattle.cap_nodes.proofs.nodes.Nodes.TheSendSync as nodes
use Rattle.cap_commit.specs.contracts.cluster.Cluster as Cluster
use Rattle.cap_shared.proofs.entry.Entry.TheSendSync as entry
use Rattle.cap_shared.proofs.history.Mark.TheSendSync as mark
use Rattle.cap_shared.proofs.closed.SeatReport.TheSendSync as report
use Rattle.cap_shared.specs.declared.seat.Naming as naming
use Rattle.cap_shared.specs.contracts.desk.Desk as Desk
use Rattle.cap_shared.specs.contracts.desk.Desk.TheInside as inside
use Rattle.cap_shared.proofs.news.News.TheSendSync as news
use Rattle.cap_shared.specs.contracts.replica.Replica as Replica
use Rattle.cap_shared.specs.contracts.replica.Replica.TheInside as replica
use Rattle.cap_shared.specs.contracts.shared.Shared as Shared
use Rattle.http_server.proofs.log.Log.TheSendSync as log

-- the toolchain proves this of a type by its fields, where the type does not reach itself; the tree of queues does
QueueTree-send : (K B : RattleType) (g : Ghosts B.Denot) → IsSend B → Frees g g.dealloc_token → IsSend (QueueTree.the_row K B g)
QueueTree-send K B g s f = search (vec.the_send, queue.the_send, knot.crosses, crosses, sendable) depth 60 fits 20000

Cluster-send : (K : RattleType) → IsSend (Cluster.the_row K)
Cluster-send K = search (QueueTree-send, boxed.the_send, apps.the_send, nodes.the_send, crosses, sendable) depth 60 fits 20000

module _ (J : RattleType) (epoch : naming.Ghosts J.Denot) where
  Desk-send : IsSend J → IsSend (Desk.the_row J epoch)
  Desk-send s =
      view_send (inside.the_row J epoch) _ _ _ _ (recorded_send (inside.the_field J epoch).row _ _ (inside.the_type J epoch).to_one (struct_send (shape (inside.the_type J epoch)) (
        (search (Cluster-send, crosses, sendable) depth 60),
        ((search (vec.the_send, entry.the_send, crosses, sendable) depth 60), ((search sendable), ((search (seat.the_send, crosses, sendable) depth 60), ((search sendable), tt)))),
      )))

  pub Shared-sync : IsSend J → IsSync (Shared.the_row J epoch)
  Shared-sync s =
      recorded_sync (Shared.the_field J epoch).row _ _ (Shared.the_type J epoch).to_one (struct_sync (shape (Shared.the_type J epoch)) (
        (search (crosses, sendable) depth 60),
        ((search (table.the_field_sync, mark.the_send, crosses, sendable) depth 60), ((search (crosses, sendable) depth 60), ((search (crosses, sendable) depth 60), ((search (Desk-send, mutex.the_sync, crosses, sendable) depth 60), ((search (vec.the_sync, report.the_sync, crosses, sendable) depth 60), tt))))),
      ))

  pub Replica-send : IsSend J → IsSend (Replica.the_row J epoch)
  Replica-send s =
      view_send (replica.the_row J epoch) _ _ _ _ (recorded_send (replica.the_field J epoch).row _ _ (replica.the_type J epoch).to_one (struct_send (shape (replica.the_type J epoch)) (
        (search (crosses, sendable) depth 60),
        ((search (Cluster-send, crosses, sendable) depth 60), ((search sendable), ((search (log.the_send, news.the_send, crosses, sendable) depth 60), ((search sendable), tt)))),
      )))
