use Rattle.std.proofs.Common.{◌≡◌, ◌++◌, take}
use Rattle.std.specs.Prelude.{string_bytes}
use Rattle.std.specs.List.{flat_map}
use Rattle.cap_words.specs.Table.{row_words}
use Rattle.cap_words.proofs.table.put_rows.Given as goal

abbrev pub invariant-loop-row : goal.invariant-loop-row
invariant-loop-row l = string_bytes l.words ≡ string_bytes l.initial.words ++ flat_map (row_words l.widths) (take l.row-index l.rows)
