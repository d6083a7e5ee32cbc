-- The first test that holds is the refusal.
use Rattle.cap_trackers.proofs.Prelude.{◌≡◌, ℕ, Bool, List, [], ◌∷◌, length, Option, not, nat_le, bytes_eq, list_any, amount_max, plus, is_within, is_zero, Refusal, HostTaken, TotalTooLarge, TooManyNodes, ZeroResource, NumbersSpent, nodes_max, number_end, earliest, Flat, register_node_refusal, total_of_nodes}

pub refusal_is : {K : ℕ} (cluster : Flat K) (host total : List ℕ) (first : Option Refusal) (taken large many none spent : Bool)
    → first ≡ earliest ((taken, HostTaken) ∷ (large, TotalTooLarge) ∷ (many, TooManyNodes) ∷ (none, ZeroResource) ∷ (spent, NumbersSpent) ∷ [])
    → taken ≡ list_any (λ node. bytes_eq node.host host) cluster.nodes.present
    → large ≡ not (is_within amount_max (plus (total_of_nodes cluster) total))
    → many ≡ nat_le nodes_max (length cluster.nodes.present)
    → none ≡ is_zero total
    → spent ≡ nat_le number_end cluster.nodes.next_node
    → first ≡ register_node_refusal cluster host total
refusal_is cluster host total first taken large many none spent is a b c d e =
    rw (← a, ← b, ← c, ← d, ← e) is
