use Rattle.cap_config.proofs.Prelude.{◌≡◌, length, maximum}
use Rattle.cap_config.proofs.queues.maximum.Given as goal

-- the path has the maximum of what is left
abbrev pub invariant-loop-parent : goal.invariant-loop-parent
invariant-loop-parent l = maximum l.index.entries.now l.path ≡ maximum l.index.entries.now l.rest

abbrev pub decreases-loop-parent : goal.decreases-loop-parent
decreases-loop-parent l = length l.rest
