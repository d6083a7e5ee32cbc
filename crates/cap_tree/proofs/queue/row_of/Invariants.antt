use Rattle.cap_tree.proofs.Prelude.{◌≡◌, bytes_eq, lookup}
use Rattle.std.proofs.Math.ListN.{drop}
use Rattle.cap_tree.proofs.queue.row_of.Given as goal

abbrev pub invariant-loop-index : goal.invariant-loop-index
invariant-loop-index g l = lookup (bytes_eq l.user) (drop l.index l.users.entries) ≡ lookup (bytes_eq l.user) l.users.entries
