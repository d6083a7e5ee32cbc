-- QueueInfo, SetQueueState and ClusterInfo: what an operator sees and sets.
use Rattle.cap_base.specs.Paths.{root_path, is_under}
use Rattle.std.specs.Prelude.{ℕ, Bool, not, List, [], ◌∷◌, Option, length, is_none, map, count_by, option_and_then, option_map, unwrap_or, bytes_eq, if◌then◌else◌}
use Rattle.cap_vector.specs.Vector.{zeros}
use Rattle.cap_base.specs.Settings.{QueueRow}
use Rattle.cap_base.specs.Cascade.{earliest}
use Rattle.cap_model.specs.declared.report.QueueReport.{QueueReport}
use Rattle.cap_model.specs.declared.report.ClusterReport.{ClusterReport}
use Rattle.cap_model.specs.declared.refusal.Refusal.{Refusal}
use Rattle.cap_model.specs.declared.reply.ReplyWith.TheVariants as Reply
use Rattle.cap_model.specs.News.{Reply}
use Rattle.cap_model.specs.Flat.{Flat, queue_at}
use Rattle.cap_model.specs.Uses.{queue_use}
use Rattle.cap_model.specs.Submit.{has_children, is_running}
use Rattle.cap_model.specs.RegisterNode.{total_of_nodes}

module _ {K : ℕ} where
  -- why a call that names a queue is refused
  abbrev pub queue_refusal : Flat K → List ℕ → Option Refusal
  queue_refusal cluster path = earliest ((is_none (queue_at cluster path), Refusal.UnknownQueue) ∷ [])

  -- a queue as it is reported: it runs where it and all above it do, and applications count in it and under it
  abbrev pub queue_report : Flat K → List ℕ → QueueReport K
  queue_report cluster path = record {
    running = is_running cluster path;
    leaf = not (has_children cluster path);
    guaranteed = unwrap_or (option_map (λ q. q.guaranteed) (queue_at cluster path)) (zeros K);
    maximum = option_and_then (λ q. q.maximum) (queue_at cluster path);
    used = queue_use cluster path;
    apps = count_by (λ app. is_under path app.leaf) cluster.apps.active;
  }

  abbrev pub queue_info_reply : Flat K → List ℕ → Reply K
  queue_info_reply cluster path = Reply.QueueInfo (queue_report cluster path)

  -- the queue's own state is set, and nothing else
  abbrev pub after_set_queue_state : Flat K → List ℕ → Bool → Flat K
  after_set_queue_state cluster path running = record cluster {
    settings = record cluster.settings { queues = map (λ (q : QueueRow). if bytes_eq q.path path then record q { running = running } else q) cluster.settings.queues };
  }

  -- the numbers of nodes, applications and live containers, what all nodes have, and what is used
  abbrev pub cluster_report : Flat K → ClusterReport K
  cluster_report cluster = record {
    nodes = length cluster.nodes.present;
    apps = length cluster.apps.active;
    containers = length cluster.nodes.live;
    totals = total_of_nodes cluster;
    used = queue_use cluster root_path;
  }

  abbrev pub cluster_info_reply : Flat K → Reply K
  cluster_info_reply cluster = Reply.ClusterInfo (cluster_report cluster)
