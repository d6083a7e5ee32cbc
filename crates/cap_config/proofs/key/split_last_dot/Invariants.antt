use Rattle.cap_config.proofs.Prelude.{◌≡◌, ◌≤◌, length, drop, None, last_dot}
use Rattle.cap_config.proofs.key.split_last_dot.Given as goal

-- no dot from here on
abbrev pub invariant-loop-end : goal.invariant-loop-end
invariant-loop-end l = record {
  within : l.end ≤ length l.bytes;
  none : last_dot (drop l.end l.bytes) ≡ None;
}

abbrev pub decreases-loop-end : goal.decreases-loop-end
decreases-loop-end l = l.end
