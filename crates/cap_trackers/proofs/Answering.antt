-- Calls that are refused and calls that are granted.
use Rattle.cap_trackers.proofs.Prelude.{◌≡◌, ℕ, Bool, true, false, List, length, Bor, Option, Some, None, refl, sym, ◌∙◌, ap, bytes_eq, find, is_some, IsSome, option_copied, QueueRow, Cause, Request, Refusal, QueueReport, Flat, ClusterNode, NodeTable, queue_at, node_at, node_in, containers_on, after_ends, node_gone_refusal, without_node, after_set_queue_state, queue_report, queue_refusal, Row, IsAt, queues_of, path_at, is_found, refusal_of, granted_reply, granted_cluster, reply_to, after_request}
use Rattle.cap_model.specs.declared.reply.ReplyWith.TheVariants as Reply

module _ {K : ℕ} (cluster : Flat K) where
  pub granted_is : (request : Request K) → refusal_of cluster request ≡ None →
      (granted_reply cluster request ≡ reply_to cluster request) × (granted_cluster cluster request ≡ after_request cluster request)
  granted_is request e = rw e (refl, refl)

  pub refused_is : (request : Request K) (refusal : Refusal) → refusal_of cluster request ≡ Some refusal →
      (Reply.Refused refusal ≡ reply_to cluster request) × (cluster ≡ after_request cluster request)
  refused_is request refusal e = rw e (refl, refl)

  -- the queue that is reported is there
  pub report_is : (path : List ℕ) (report : QueueReport K) → true ≡ is_some (queue_at cluster path) → report ≡ queue_report cluster path →
      (Reply.QueueInfo report ≡ reply_to cluster (Request.QueueInfo path)) × (cluster ≡ after_request cluster (Request.QueueInfo path))
  report_is path report found is =
      let granted = granted_is (Request.QueueInfo path) (not_refused (queue_at cluster path) refl) in
      (ap (λ r. Reply.QueueInfo r) is ∙ granted.0, granted.1)
    where
      not_refused : (o : Option QueueRow) → queue_at cluster path ≡ o → queue_refusal cluster path ≡ None
      not_refused None e = absurd (cc (found, e))
      not_refused (Some q) e = rw e refl

  -- the state is set of a queue that is at a position
  pub state_is : (rows : List Row) (path position : List ℕ) (running : Bool) (new : Flat K) → queues_of rows ≡ cluster.settings.queues → IsAt rows path position → new ≡ after_set_queue_state cluster (path_at position rows) running →
      (Reply.SetQueueState ≡ reply_to cluster (Request.SetQueueState path running)) × (new ≡ after_request cluster (Request.SetQueueState path running))
  state_is rows path position running new queues at is =
      let there : is_some (queue_at cluster path) ≡ true = ap (λ (qs : List QueueRow). is_some (find (λ q. bytes_eq q.path path) qs)) (sym queues) ∙ is_found rows path position at in
      let granted = granted_is (Request.SetQueueState path running) (found_queue (queue_at cluster path) refl there) in
      (granted.0, is ∙ ap (λ p. after_set_queue_state cluster p running) at.path_is ∙ granted.1)
    where
      found_queue : (o : Option QueueRow) → queue_at cluster path ≡ o → is_some o ≡ true → queue_refusal cluster path ≡ None
      found_queue None e some = absurd (cc some)
      found_queue (Some q) e some = rw e refl

  -- the node is seen, or not
  pub none_seen : (nodes : NodeTable) (n : ℕ) (seen : Option (Bor ClusterNode)) → nodes ≡ cluster.nodes → option_copied seen ≡ node_in nodes n → is_some seen ≡ false → node_at cluster n ≡ None
  none_seen nodes n None same is e = ap (λ (t : NodeTable). node_in t n) (sym same) ∙ sym is
  none_seen nodes n (Some x) same is e = absurd (cc e)

  pub some_seen : (nodes : NodeTable) (n : ℕ) (seen : Option (Bor ClusterNode)) → nodes ≡ cluster.nodes → option_copied seen ≡ node_in nodes n → is_some seen ≡ true → IsSome (node_at cluster n)
  some_seen nodes n None same is e = absurd (cc e)
  some_seen nodes n (Some x) same is e = ap is_some (ap (λ (t : NodeTable). node_in t n) (sym same) ∙ sym is)

  -- a node that is not there is not lost
  pub gone_refused : (n : ℕ) → node_at cluster n ≡ None →
      (Reply.Refused Refusal.UnknownNode ≡ reply_to cluster (Request.NodeGone n)) × (cluster ≡ after_request cluster (Request.NodeGone n))
  gone_refused n none = refused_is (Request.NodeGone n) Refusal.UnknownNode (rw none refl)

  pub gone_is : (n : ℕ) (left new : Flat K) (ended : ℕ) → IsSome (node_at cluster n) → ended ≡ length (containers_on cluster.nodes n) →
      left ≡ after_ends Cause.NodeLost (containers_on cluster.nodes n) cluster → new ≡ without_node n left →
      (Reply.NodeGone ended ≡ reply_to cluster (Request.NodeGone n)) × (new ≡ after_request cluster (Request.NodeGone n))
  gone_is n left new ended there count left_is is =
      let granted = granted_is (Request.NodeGone n) (not_refused (node_at cluster n) refl) in
      (ap (λ m. Reply.NodeGone m) count ∙ granted.0, is ∙ ap (λ x. without_node n x) left_is ∙ granted.1)
    where
      not_refused : (o : Option ClusterNode) → node_at cluster n ≡ o → node_gone_refusal cluster n ≡ None
      not_refused None e = absurd (cc (there, e))
      not_refused (Some x) e = rw e refl
