-- A copy of the parts of a cluster shows the same as the cluster.
use Rattle.std.proofs.Common.{◌≡◌, ℕ, Bool, true, false, cond, List, [], ◌∷◌, map, Result, Ok, Err, refl, sym, ◌∙◌, ap, subst, inl, inr}
use Rattle.std.specs.Prelude.{Some, IfOk, bytes_eq, find}
use Rattle.std.specs.List.{All}
use Rattle.std.specs.Option.{option_map_or}
use Rattle.cap_vector.specs.Vector.{amount}
use Rattle.cap_base.specs.Members.{IsRising}
use Rattle.cap_base.specs.declared.no_memory.NoMemory.{NoMemory}
use Rattle.cap_model.specs.Flat.{Flat, ClusterNode, NodeTable, node_in}
use Rattle.cap_model.specs.Uses.{user_use, held_on}
use Rattle.cap_model.specs.Sight.{Sight, QueueSight, sight_of, queue_sight, node_sight}
use Rattle.cap_base.proofs.lists.Members.{IsIn, each_of}
use Rattle.cap_model.proofs.lists.Numbered.{found_by_number}
use Rattle.cap_tree.specs.Measure.{Measure}
use Rattle.cap_tree.specs.Queue.{use_of, user_row}
use Rattle.cap_tree.specs.QueueLaws.{user_counts}
use Rattle.cap_tree.specs.Rows.{Row, queues_of, settings_of_row}
use Rattle.cap_nodes.specs.Tables.{left_of}
use Rattle.cap_copy.specs.Snapshot.{queue_seen}
use Rattle.cap_copy.specs.Sources.{Parts, sight_of_copy}
use Rattle.cap_copy.specs.Taking.{node_seen, sight_of_parts}
use Rattle.cap_commit.specs.ClusterState.{IsRowOf}
use Rattle.cap_sights.specs.Sights.{ShowTheSame, shown_queue}

module _ {K : ℕ} (flat : Flat K) where
  -- a user of a queue uses the same amounts
  uses_same : (r : Row) → IsRowOf flat r → (user : List ℕ) (k : ℕ) → amount (use_of K (user_row user r.item.users)) k ≡ amount (user_use flat r.path user) k
  uses_same r tied user k = sym (user_counts K user r.item.users (Measure.uses k)) ∙ tied.users user (Measure.uses k)

  -- the queues, with their use
  queues_same : (rows : List Row) → ((r : Row) → IsIn r rows → IsRowOf flat r) → map shown_queue (map (queue_seen K) rows) ≡ map shown_queue (map (queue_sight flat) (queues_of rows))
  queues_same [] tied = refl
  queues_same (r ∷ rows) tied = λ i. record { row = settings_of_row r; used = (tied r (inl refl)).used i } ∷ queues_same rows (λ s m. tied s (inr m)) i

  users_same : (path user : List ℕ) (k : ℕ) (rows : List Row) → ((r : Row) → IsIn r rows → IsRowOf flat r)
      → amount (option_map_or (λ (q : QueueSight). q.used_by user) (find (λ (q : QueueSight). bytes_eq q.row.path path) (map (queue_seen K) rows)) []) k
      ≡ amount (option_map_or (λ (q : QueueSight). q.used_by user) (find (λ (q : QueueSight). bytes_eq q.row.path path) (map (queue_sight flat) (queues_of rows))) []) k
  users_same path user k [] tied = refl
  users_same path user k (r ∷ rows) tied = by (bytes_eq r.path path) (users_same path user k rows (λ s m. tied s (inr m)))
    where
      by : (b : Bool)
          → amount (option_map_or (λ (q : QueueSight). q.used_by user) (find (λ (q : QueueSight). bytes_eq q.row.path path) (map (queue_seen K) rows)) []) k
          ≡ amount (option_map_or (λ (q : QueueSight). q.used_by user) (find (λ (q : QueueSight). bytes_eq q.row.path path) (map (queue_sight flat) (queues_of rows))) []) k
          → amount (option_map_or (λ (q : QueueSight). q.used_by user) (cond b (Some (queue_seen K r)) (find (λ (q : QueueSight). bytes_eq q.row.path path) (map (queue_seen K) rows))) []) k
          ≡ amount (option_map_or (λ (q : QueueSight). q.used_by user) (cond b (Some (queue_sight flat (settings_of_row r))) (find (λ (q : QueueSight). bytes_eq q.row.path path) (map (queue_sight flat) (queues_of rows)))) []) k
      by true rest = uses_same r (tied r (inl refl)) user k
      by false rest = rest

  -- the nodes, each found by its number
  nodes_same : (nodes : List ClusterNode) → ((node : ClusterNode) → IsIn node nodes → node_in flat.nodes node.number ≡ Some node) → map (node_seen K flat.nodes) nodes ≡ map (node_sight flat) nodes
  nodes_same [] found = refl
  nodes_same (x ∷ nodes) found = λ i. record (node_sight flat x) { free = left_of (found x (inl refl) i) (held_on K flat.nodes x.number) } ∷ nodes_same nodes (λ n m. found n (inr m)) i

  parts_same : (rows : List Row) → queues_of rows ≡ flat.settings.queues → ((r : Row) → IsIn r rows → IsRowOf flat r) → IsRising 1 (map (λ node. node.number) flat.nodes.present) flat.nodes.next_node
      → ShowTheSame (sight_of_parts K rows flat.apps flat.nodes) (sight_of flat)
  parts_same rows queues tied rising = record {
    queues = queues_same rows tied ∙ (λ i. map shown_queue (map (queue_sight flat) (queues i)));
    users = λ path user k. users_same path user k rows tied ∙ (λ i. amount (option_map_or (λ (q : QueueSight). q.used_by user) (find (λ (q : QueueSight). bytes_eq q.row.path path) (map (queue_sight flat) (queues i))) []) k);
    apps = refl;
    nodes = nodes_same flat.nodes.present (λ node m. found_by_number (λ (n : ClusterNode). n.number) 1 flat.nodes.present flat.nodes.next_node node rising m);
    live = refl;
    next_container = refl;
  }

-- a copy of the parts of a cluster, if there was memory for it
pub copy_shows : {K : ℕ} (flat : Flat K) (held : List Row) (parts : Parts) → parts.rows ≡ held → parts.apps.table ≡ flat.apps → parts.nodes ≡ flat.nodes → queues_of held ≡ flat.settings.queues → All (IsRowOf flat) held
    → IsRising 1 (map (λ node. node.number) parts.nodes.present) parts.nodes.next_node → (r : Result Parts NoMemory) → IfOk r (λ copied. copied ≡ parts) → IfOk r (λ copied. ShowTheSame (sight_of_copy K copied) (sight_of flat))
copy_shows {K} flat held parts t a n queues tied rising (Err e) is = tt
copy_shows {K} flat held parts t a n queues tied rising (Ok copied) is =
    let same : sight_of_copy K copied ≡ sight_of_parts K held flat.apps flat.nodes = ap (sight_of_copy K) is ∙ (λ i. sight_of_parts K (t i) (a i) (n i)) in
    let numbers = subst (λ (x : NodeTable). IsRising 1 (map (λ node. node.number) x.present) x.next_node) n rising in
    subst (λ (s : Sight K). ShowTheSame s (sight_of flat)) (sym same) (parts_same flat held queues (λ r m. each_of (IsRowOf flat) held tied r m) numbers)
