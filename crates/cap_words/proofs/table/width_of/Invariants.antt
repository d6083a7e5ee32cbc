use Rattle.std.proofs.Common.{◌≡◌, drop}
use Rattle.cap_words.specs.Table.{width_of, widest}
use Rattle.cap_words.proofs.table.width_of.Given as goal

-- the width after the rows so far
abbrev pub invariant-loop-row : goal.invariant-loop-row
invariant-loop-row l = width_of l.column l.rows ≡ widest l.column l.width (drop l.row-index l.rows)
