use Rattle.std.proofs.Common.{◌≡◌, ◌+◌, length, sum_by, take}
use Rattle.cap_tree.proofs.branch.Branch.+count_down.Given as goal

abbrev pub decreases-count_down : goal.decreases-count_down
decreases-count_down g l = length l.self.now

abbrev pub invariant-loop-i : goal.invariant-loop-i
invariant-loop-i g l = l.left + 1 + sum_by length (take l.i l.self-inside.children.items) ≡ l.count
