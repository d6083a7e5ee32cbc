use Rattle.cap_copy.proofs.Prelude.{◌≡◌, [], map, take, vec_len, vec_capacity, length, ask_entries, indexes, AreSeen}
use Rattle.cap_copy.proofs.seen_app.seen_apps.Given as goal

abbrev pub invariant-loop-index : goal.invariant-loop-index
invariant-loop-index g l = record {
  are : AreSeen g.row.K l.tree (take l.index l.waiting) l.asks.items l.seen.items;
  asks : l.asks.items ≡ ask_entries [] (map (λ r. r.app) l.waiting) (indexes l.index);
  count : vec_len l.seen ≡ l.index;
  room : vec_capacity l.seen ≡ length l.waiting;
}
