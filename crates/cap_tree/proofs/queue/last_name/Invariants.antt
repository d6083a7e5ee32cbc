use Rattle.std.proofs.Common.{◌≡◌, ◌≤◌, drop, length, false}
use Rattle.cap_tree.proofs.Names.{has_dot}
use Rattle.cap_tree.proofs.queue.last_name.Given as goal

abbrev pub invariant-loop-start : goal.invariant-loop-start
invariant-loop-start l = record { within : l.start ≤ length l.path; none : has_dot (drop l.start l.path) ≡ false }

abbrev pub decreases-loop-start : goal.decreases-loop-start
decreases-loop-start l = l.start
