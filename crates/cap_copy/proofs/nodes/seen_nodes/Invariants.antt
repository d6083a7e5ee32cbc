use Rattle.cap_copy.proofs.Prelude.{◌≡◌, take, vec_len, vec_capacity, length, map, node_seen}
use Rattle.cap_copy.proofs.nodes.seen_nodes.Given as goal

abbrev pub invariant-loop-index : goal.invariant-loop-index
invariant-loop-index g l = record {
  entries : l.seen.items ≡ map (node_seen g.row.K l.nodes) (take l.index l.nodes.present);
  count : vec_len l.seen ≡ l.index;
  room : vec_capacity l.seen ≡ length l.nodes.present;
}
