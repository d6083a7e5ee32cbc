-- NodeGone: a node is declared lost.
use Rattle.std.specs.Prelude.{ℕ, [], ◌∷◌, Option, length, not, is_none, filter, ◌==◌}
use Rattle.cap_base.specs.Cascade.{earliest}
use Rattle.cap_model.specs.declared.news.Cause.{Cause}
use Rattle.cap_model.specs.declared.refusal.Refusal.{Refusal}
use Rattle.cap_model.specs.declared.reply.ReplyWith.TheVariants as Reply
use Rattle.cap_model.specs.News.{Reply}
use Rattle.cap_model.specs.Flat.{Flat, NodeTable, node_at, containers_on, with_reserved}
use Rattle.cap_model.specs.Ending.{after_ends}

-- the table without a node
abbrev pub remove_node : ℕ → NodeTable → NodeTable
remove_node n table = record table { present = filter (λ node. not (node.number == n)) table.present }

module _ {K : ℕ} where
  -- why it is refused
  abbrev pub node_gone_refusal : Flat K → ℕ → Option Refusal
  node_gone_refusal cluster n = earliest ((is_none (node_at cluster n), Refusal.UnknownNode) ∷ [])

  -- the cluster without a node and without its reservation
  abbrev pub without_node : ℕ → Flat K → Flat K
  without_node n cluster =
      let unreserved = with_reserved (filter (λ r. not (r.node == n)) cluster.nodes.reserved) cluster in
      record unreserved { nodes = remove_node n unreserved.nodes }

  -- its containers end in order of number, and it goes
  abbrev pub after_node_gone : Flat K → ℕ → Flat K
  after_node_gone cluster n = without_node n (after_ends Cause.NodeLost (containers_on cluster.nodes n) cluster)

  -- how many of its containers ended
  abbrev pub node_gone_reply : Flat K → ℕ → Reply K
  node_gone_reply cluster n = Reply.NodeGone (length (containers_on cluster.nodes n))
