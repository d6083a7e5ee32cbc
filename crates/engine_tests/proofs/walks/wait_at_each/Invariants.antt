use Rattle.std.proofs.Common.{◌≡◌, ◌≤◌, map, length}
use Rattle.engine_tests.proofs.walks.wait_at_each.Given as goal

abbrev pub invariant-loop-path : goal.invariant-loop-path
invariant-loop-path l = record {
  rows : l.waiting.rows ≡ l.tree;
  waiting : l.waiting.waiting ≡ map (λ place. place.items) l.places.items;
  many : length l.places.items ≡ l.path-index;
  room : length l.paths ≤ l.waiting.room;
}
