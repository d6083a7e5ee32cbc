use Rattle.cap_nodes.proofs.Prelude.{◌≡◌, ◌-◌, filter, slice_get, is_kept_for}
use Rattle.cap_nodes.proofs.Walked.{rest}
use Rattle.cap_nodes.proofs.containers.Containers.nth_for.Given as goal

-- so many of those that are left come before it
abbrev pub invariant-loop-container : goal.invariant-loop-container
invariant-loop-container g l =
    slice_get (filter (is_kept_for l.app l.key) l.self.containers) l.before ≡ slice_get (rest (is_kept_for l.app l.key) l.after l.self.containers) l.left

abbrev pub decreases-loop-container : goal.decreases-loop-container
decreases-loop-container g l = l.self.next - l.after
