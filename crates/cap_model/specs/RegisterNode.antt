-- RegisterNode: a node manager joins the cluster.
use Rattle.std.specs.Prelude.{ℕ, ◌+◌, List, [], ◌∷◌, ◌++◌, true, Option, None, length, not, nat_le, bytes_eq}
use Rattle.std.specs.List.{list_any}
use Rattle.cap_vector.specs.Vector.{amount_max, plus, is_zero, is_within}
use Rattle.cap_base.specs.Limits.{number_end, nodes_max}
use Rattle.cap_base.specs.Cascade.{earliest}
use Rattle.cap_base.specs.Amounts.{sum_where}
use Rattle.cap_model.specs.declared.refusal.Refusal.{Refusal}
use Rattle.cap_model.specs.declared.reply.ReplyWith.TheVariants as Reply
use Rattle.cap_model.specs.News.{Reply}
use Rattle.cap_model.specs.Flat.{Flat, ClusterNode, NodeTable}

-- what the nodes have together, of k resources
abbrev pub sum_of_totals : ℕ → List ClusterNode → List ℕ
sum_of_totals k nodes = sum_where k (λ node. true) (λ node. node.total) nodes

-- a node that joins, of this number
abbrev pub new_node : ℕ → List ℕ → List ℕ → List ℕ → ClusterNode
new_node number host rack total = record { number = number; host = host; rack = rack; total = total; response = 0; kept = None }

-- the table with one more node, of the next number
abbrev pub add_node : List ℕ → List ℕ → List ℕ → NodeTable → NodeTable
add_node host rack total table = record table {
  present = table.present ++ new_node table.next_node host rack total ∷ [];
  next_node = table.next_node + 1;
}

module _ {K : ℕ} where
  -- what all nodes have together
  abbrev pub total_of_nodes : Flat K → List ℕ
  total_of_nodes cluster = sum_of_totals K cluster.nodes.present

  -- why a node is refused
  abbrev pub register_node_refusal : Flat K → List ℕ → List ℕ → Option Refusal
  register_node_refusal cluster host total = earliest (
      (list_any (λ node. bytes_eq node.host host) cluster.nodes.present, Refusal.HostTaken)
      ∷ (not (is_within amount_max (plus (total_of_nodes cluster) total)), Refusal.TotalTooLarge)
      ∷ (nat_le nodes_max (length cluster.nodes.present), Refusal.TooManyNodes)
      ∷ (is_zero total, Refusal.ZeroResource)
      ∷ (nat_le number_end cluster.nodes.next_node, Refusal.NumbersSpent)
      ∷ [])

  abbrev pub after_register_node : Flat K → List ℕ → List ℕ → List ℕ → Flat K
  after_register_node cluster host rack total = record cluster { nodes = add_node host rack total cluster.nodes }

  abbrev pub register_node_reply : Flat K → Reply K
  register_node_reply cluster = Reply.RegisterNode cluster.nodes.next_node
