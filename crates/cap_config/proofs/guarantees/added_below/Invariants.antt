use Rattle.cap_config.proofs.Prelude.{◌≡◌, take, added_below}
use Rattle.cap_config.proofs.guarantees.added_below.Given as goal

-- the sums for the names so far
abbrev pub invariant-loop-name : goal.invariant-loop-name
invariant-loop-name l = l.sums ≡ added_below l.index.entries.now l.path (take l.name-index l.names)
