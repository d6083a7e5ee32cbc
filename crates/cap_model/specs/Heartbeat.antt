-- Heartbeat: a node manager reports which containers have ended on it.
use Rattle.std.specs.Prelude.{ℕ, ◌-◌, Bool, List, [], ◌∷◌, Option, Some, length, is_none, unwrap_or, option_and_then, if◌then◌else◌}
use Rattle.cap_base.specs.Cascade.{earliest, holds_of}
use Rattle.cap_model.specs.declared.news.Cause.{Cause}
use Rattle.cap_model.specs.declared.replies.HeartbeatReply.{HeartbeatReply}
use Rattle.cap_model.specs.declared.refusal.Refusal.{Refusal}
use Rattle.cap_model.specs.declared.reply.ReplyWith.TheVariants as Reply
use Rattle.cap_model.specs.News.{Reply}
use Rattle.cap_model.specs.Flat.{Flat, ClusterNode, Container, node_at, containers_on, with_node}
use Rattle.cap_model.specs.ResponseIds.{next_response, is_repeated, is_bad_id}
use Rattle.cap_model.specs.Ending.{named_among, after_ends}

-- the reply before there is one
abbrev pub no_beat : HeartbeatReply
no_beat = record { response = 0; ignored = 0; live = 0 }

-- a node that has answered one more heartbeat, of which so many ends named no container there, with so many live there now
abbrev pub after_beat : ℕ → ℕ → ClusterNode → ClusterNode
after_beat ignored live node = record node {
  response = next_response node.response;
  kept = Some (record { response = next_response node.response; ignored = ignored; live = live });
}

module _ {K : ℕ} where
  -- why a heartbeat is refused
  abbrev pub heartbeat_refusal : Flat K → ℕ → ℕ → Option Refusal
  heartbeat_refusal cluster n id = earliest (
      (holds_of (λ node. is_bad_id node.response node.kept id) (node_at cluster n), Refusal.BadResponseId)
      ∷ (is_none (node_at cluster n), Refusal.UnknownNode)
      ∷ [])

  -- whether it repeats the last processed one
  abbrev pub is_repeated_heartbeat : Flat K → ℕ → ℕ → Bool
  is_repeated_heartbeat cluster n id = holds_of (λ node. is_repeated node.response node.kept id) (node_at cluster n)

  -- the live containers on a node that the report names
  abbrev pub ended_by : Flat K → ℕ → List ℕ → List Container
  ended_by cluster n ended = named_among ended (containers_on cluster.nodes n)

  -- what the node is told: how many of the named ones were not live there, and how many live there now
  abbrev pub beat_of : Flat K → ℕ → ℕ → List ℕ → HeartbeatReply
  beat_of cluster n id ended = record {
    response = next_response id;
    ignored = length ended - length (ended_by cluster n ended);
    live = length (containers_on cluster.nodes n) - length (ended_by cluster n ended);
  }

  -- the cluster after a processed heartbeat: those containers have ended, and the reply is kept
  abbrev pub after_processed_heartbeat : Flat K → ℕ → ℕ → List ℕ → Flat K
  after_processed_heartbeat cluster n id ended =
      let beat = beat_of cluster n id ended in
      with_node n (λ node. record node { response = beat.response; kept = Some beat }) (after_ends Cause.EndedOnNode (ended_by cluster n ended) cluster)

  -- the cluster after a heartbeat that is not refused: a repeated one changes nothing
  abbrev pub after_heartbeat : Flat K → ℕ → ℕ → List ℕ → Flat K
  after_heartbeat cluster n id ended = if is_repeated_heartbeat cluster n id then cluster else after_processed_heartbeat cluster n id ended

  -- its reply is the one that is kept after it
  abbrev pub heartbeat_reply : Flat K → ℕ → ℕ → List ℕ → Reply K
  heartbeat_reply cluster n id ended = Reply.Heartbeat (unwrap_or (option_and_then (λ node. node.kept) (node_at (after_heartbeat cluster n id ended) n)) no_beat)
