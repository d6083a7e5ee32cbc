use Rattle.cap_tree.proofs.Prelude.{◌≡◌, map, take, with_row_of_path}
use Rattle.cap_tree.proofs.tree.QueueTree.set_limits.Given as goal

abbrev pub invariant-loop-row : goal.invariant-loop-row
invariant-loop-row g l = l.self ≡ map (with_row_of_path (take l.row-index l.rows)) l.fn.self
