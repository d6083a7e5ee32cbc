use Rattle.cap_tree.proofs.Prelude.{◌-◌, length, IsStart}
use Rattle.cap_tree.proofs.Looking.{NoneBefore}
use Rattle.cap_tree.proofs.branch.Branch.+find.Given as goal

abbrev pub decreases-find : goal.decreases-find
decreases-find g l = length l.self.now

abbrev pub invariant-loop-turn : goal.invariant-loop-turn
invariant-loop-turn g l = record { start : IsStart l.position; none : NoneBefore l.below l.self-inside.children.items (l.turn - 1) }
