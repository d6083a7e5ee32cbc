-- The reply function: what each of the eleven calls is answered, and the cluster after it.
use Rattle.std.specs.Prelude.{◌≡◌, ◌⊎◌, ℕ, Bool, true, false, not, Option, Some, None}
use Rattle.cap_model.specs.declared.request.Request.{Request}
use Rattle.cap_model.specs.declared.refusal.Refusal.{Refusal}
use Rattle.cap_model.specs.declared.reply.ReplyWith.{ReplyWith}
use Rattle.cap_model.specs.declared.reply.ReplyWith.TheVariants as Reply
use Rattle.cap_model.specs.News.{Reply}
use Rattle.cap_model.specs.Flat.{Flat}
use Rattle.cap_model.specs.Submit.{submit_refusal, submit_reply, after_submit}
use Rattle.cap_model.specs.RegisterMaster.{register_master_refusal, register_master_reply, after_register_master}
use Rattle.cap_model.specs.Allocate.{allocate_refusal, allocate_reply, after_allocate, is_repeated_allocate}
use Rattle.cap_model.specs.FinishMaster.{finish_master_refusal, finish_master_reply, after_finish_master}
use Rattle.cap_model.specs.RegisterNode.{register_node_refusal, register_node_reply, after_register_node}
use Rattle.cap_model.specs.Heartbeat.{heartbeat_refusal, heartbeat_reply, after_heartbeat, is_repeated_heartbeat}
use Rattle.cap_model.specs.NodeGone.{node_gone_refusal, node_gone_reply, after_node_gone}
use Rattle.cap_model.specs.QueueCalls.{queue_refusal, queue_info_reply, after_set_queue_state, cluster_info_reply}
use Rattle.cap_model.specs.Refresh.{refresh_refusal, after_refresh}

-- what stands for a refused call, or else what the call gives
abbrev pub refused_or : {A : Type 0} → Option Refusal → (Refusal → A) → A → A
refused_or None refused granted = granted
refused_or (Some refusal) refused granted = refused refusal

module _ {K : ℕ} where
  -- why a call is refused, memory aside: the refusal of the smallest number
  abbrev pub refusal_of : Flat K → Request K → Option Refusal
  refusal_of cluster (Request.Submit path user) = submit_refusal cluster path
  refusal_of cluster (Request.RegisterMaster app) = register_master_refusal cluster app
  refusal_of cluster (Request.Allocate app id asks releases) = allocate_refusal cluster app id asks
  refusal_of cluster (Request.FinishMaster app) = finish_master_refusal cluster app
  refusal_of cluster (Request.RegisterNode host rack total) = register_node_refusal cluster host total
  refusal_of cluster (Request.Heartbeat node id ended) = heartbeat_refusal cluster node id
  refusal_of cluster (Request.NodeGone node) = node_gone_refusal cluster node
  refusal_of cluster (Request.QueueInfo path) = queue_refusal cluster path
  refusal_of cluster (Request.SetQueueState path running) = queue_refusal cluster path
  refusal_of cluster Request.ClusterInfo = None
  refusal_of cluster (Request.Refresh text) = refresh_refusal cluster text

  -- the reply to a call that is not refused
  abbrev pub granted_reply : Flat K → Request K → Reply K
  granted_reply cluster (Request.Submit path user) = submit_reply cluster
  granted_reply cluster (Request.RegisterMaster app) = register_master_reply cluster
  granted_reply cluster (Request.Allocate app id asks releases) = allocate_reply cluster app id asks releases
  granted_reply cluster (Request.FinishMaster app) = finish_master_reply cluster app
  granted_reply cluster (Request.RegisterNode host rack total) = register_node_reply cluster
  granted_reply cluster (Request.Heartbeat node id ended) = heartbeat_reply cluster node id ended
  granted_reply cluster (Request.NodeGone node) = node_gone_reply cluster node
  granted_reply cluster (Request.QueueInfo path) = queue_info_reply cluster path
  granted_reply cluster (Request.SetQueueState path running) = Reply.SetQueueState
  granted_reply cluster Request.ClusterInfo = cluster_info_reply cluster
  granted_reply cluster (Request.Refresh text) = Reply.Refresh

  -- the cluster after a call that is not refused
  abbrev pub granted_cluster : Flat K → Request K → Flat K
  granted_cluster cluster (Request.Submit path user) = after_submit cluster path user
  granted_cluster cluster (Request.RegisterMaster app) = after_register_master cluster app
  granted_cluster cluster (Request.Allocate app id asks releases) = after_allocate cluster app id asks releases
  granted_cluster cluster (Request.FinishMaster app) = after_finish_master cluster app
  granted_cluster cluster (Request.RegisterNode host rack total) = after_register_node cluster host rack total
  granted_cluster cluster (Request.Heartbeat node id ended) = after_heartbeat cluster node id ended
  granted_cluster cluster (Request.NodeGone node) = after_node_gone cluster node
  granted_cluster cluster (Request.QueueInfo path) = cluster
  granted_cluster cluster (Request.SetQueueState path running) = after_set_queue_state cluster path running
  granted_cluster cluster Request.ClusterInfo = cluster
  granted_cluster cluster (Request.Refresh text) = after_refresh cluster text

  -- the reply to a call, memory aside
  abbrev pub reply_to : Flat K → Request K → Reply K
  reply_to cluster request = refused_or (refusal_of cluster request) (λ refusal. Reply.Refused refusal) (granted_reply cluster request)

  -- the cluster after it; a refused call changes nothing
  abbrev pub after_request : Flat K → Request K → Flat K
  after_request cluster request = refused_or (refusal_of cluster request) (λ refusal. cluster) (granted_cluster cluster request)

  -- whether a call may need memory: those that make the cluster grow, where they repeat nothing, and a Refresh, to read its text
  abbrev pub may_grow : Flat K → Request K → Bool
  may_grow cluster (Request.Submit path user) = true
  may_grow cluster (Request.RegisterMaster app) = false
  may_grow cluster (Request.Allocate app id asks releases) = not (is_repeated_allocate cluster app id)
  may_grow cluster (Request.FinishMaster app) = false
  may_grow cluster (Request.RegisterNode host rack total) = true
  may_grow cluster (Request.Heartbeat node id ended) = not (is_repeated_heartbeat cluster node id)
  may_grow cluster (Request.NodeGone node) = true
  may_grow cluster (Request.QueueInfo path) = false
  may_grow cluster (Request.SetQueueState path running) = false
  may_grow cluster Request.ClusterInfo = false
  may_grow cluster (Request.Refresh text) = true

  -- why a call is refused before it wants memory; a Refresh wants some to read its text, whatever is wrong there
  abbrev pub early_refusal : Flat K → Request K → Option Refusal
  early_refusal cluster (Request.Refresh text) = None
  early_refusal cluster request = refusal_of cluster request

  -- a call that may need memory, is not refused before that, and found none
  pub record LacksMemory (cluster : Flat K) (request : Request K) (reply : Reply K) : Type 0 where
    pub grows : may_grow cluster request ≡ true
    pub unrefused : early_refusal cluster request ≡ None
    pub reply_is : reply ≡ Reply.Refused Refusal.NoMemory

  -- the reply and the new cluster are the reply function's: no memory is wanted
  abbrev pub RepliesAlways : Flat K → Request K → Reply K → Flat K → Type 0
  RepliesAlways old request reply new = (reply ≡ reply_to old request) × (new ≡ after_request old request)

  -- The same; or no memory was found, and the cluster is the same.
  abbrev pub Replies : Flat K → Request K → Reply K → Flat K → Type 0
  Replies old request reply new =
      RepliesAlways old request reply new ⊎ (LacksMemory old request reply × (new ≡ old))

  -- the same reply, where what an allocate is answered is taken from what it was
  abbrev pub map_reply : {A B : Type 0} → (A → B) → ReplyWith K A → ReplyWith K B
  map_reply f (Reply.Refused refusal) = Reply.Refused refusal
  map_reply f (Reply.Submit app) = Reply.Submit app
  map_reply f (Reply.RegisterMaster minimum maximum) = Reply.RegisterMaster minimum maximum
  map_reply f (Reply.Allocate reply) = Reply.Allocate (f reply)
  map_reply f (Reply.FinishMaster ended) = Reply.FinishMaster ended
  map_reply f (Reply.RegisterNode node) = Reply.RegisterNode node
  map_reply f (Reply.Heartbeat reply) = Reply.Heartbeat reply
  map_reply f (Reply.NodeGone ended) = Reply.NodeGone ended
  map_reply f (Reply.QueueInfo report) = Reply.QueueInfo report
  map_reply f Reply.SetQueueState = Reply.SetQueueState
  map_reply f (Reply.ClusterInfo report) = Reply.ClusterInfo report
  map_reply f Reply.Refresh = Reply.Refresh
