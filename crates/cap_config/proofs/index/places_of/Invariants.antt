use Rattle.cap_config.proofs.Prelude.{◌≤◌, length, drop, FindsAll}
use Rattle.cap_config.proofs.index.places_of.Given as goal

-- the entries from here on
abbrev pub invariant-loop-i : goal.invariant-loop-i
invariant-loop-i l = record {
  within : l.i ≤ length l.entries;
  found : FindsAll l.places l.setting (drop l.i l.entries);
}

abbrev pub decreases-loop-i : goal.decreases-loop-i
decreases-loop-i l = l.i
