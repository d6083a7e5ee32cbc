-- The table of the queues of settings, and the limits below it.
use Rattle.std.specs.Prelude.{ℕ, ◌-◌, List, [], ◌∷◌, ◌++◌, length, replicate, Option, Some, None, Bool, true, false, codes, decimal, max}
use Rattle.std.specs.List.{flat_map}
use Rattle.cap_vector.specs.Vector.{amount_max}
use Rattle.cap_base.specs.Settings.{QueueRow, Settings}
use Rattle.cap_words.specs.declared.table.Column.{Column}
use Rattle.cap_words.specs.declared.table.Column.TheVariants.{Path, Guarantee, Maximum, Factor}
use Rattle.cap_words.specs.declared.table.Widths.{Widths}
use Rattle.cap_words.specs.Amounts.{amounts_words}

-- the title of a column
abbrev pub title : Column → List ℕ
title Path = codes "queue"
title Guarantee = codes "guarantee"
title Maximum = codes "maximum"
title Factor = codes "user-limit-factor"

abbrev pub maximum_words : Option (List ℕ) → List ℕ
maximum_words (Some most) = amounts_words 0 most
maximum_words None = codes "-"

-- what a queue has in a column
abbrev pub cell_words : Column → QueueRow → List ℕ
cell_words Path row = row.path
cell_words Guarantee row = amounts_words 0 row.guaranteed
cell_words Maximum row = maximum_words row.maximum
cell_words Factor row = decimal row.factor

-- how wide a column is that is this wide before these rows
abbrev pub widest : Column → ℕ → List QueueRow → ℕ
widest column width [] = width
widest column width (row ∷ rows) = widest column (max width (length (cell_words column row))) rows

abbrev pub width_of : Column → List QueueRow → ℕ
width_of column rows = widest column (length (title column)) rows

abbrev pub widths_of : List QueueRow → Widths
widths_of rows = record {
  path = width_of Path rows;
  guarantee = width_of Guarantee rows;
  maximum = width_of Maximum rows;
  factor = width_of Factor rows;
}

-- a cell with blanks up to the width of its column, and two between columns
abbrev pub padded : ℕ → List ℕ → List ℕ
padded width cell = cell ++ replicate (width - length cell) 32 ++ codes "  "

abbrev pub header : Widths → List ℕ
header widths =
    padded widths.path (title Path) ++ padded widths.guarantee (title Guarantee) ++ padded widths.maximum (title Maximum) ++ padded widths.factor (title Factor) ++ codes "state\n"

abbrev pub state_words : Bool → List ℕ
state_words true = codes "RUNNING\n"
state_words false = codes "STOPPED\n"

-- the line of a queue
abbrev pub row_words : Widths → QueueRow → List ℕ
row_words widths row =
    padded widths.path (cell_words Path row)
    ++ padded widths.guarantee (cell_words Guarantee row)
    ++ padded widths.maximum (cell_words Maximum row)
    ++ padded widths.factor (cell_words Factor row)
    ++ state_words row.running

-- the lines of the limits. A minimum allocation of 0 GPUs goes without saying, and a maximum allocation of the most that there may be
unfoldable pub allocation_line : List ℕ → ℕ → List ℕ → List ℕ
allocation_line name unsaid amounts = name ++ amounts_words unsaid amounts ++ codes "\n"

unfoldable pub applications_line : ℕ → List ℕ
applications_line limit = codes "maximum applications: " ++ decimal limit ++ codes "\n"

abbrev pub limits_words : Settings → List ℕ
limits_words settings =
    allocation_line (codes "minimum allocation: ") 0 settings.minimum_allocation
    ++ allocation_line (codes "maximum allocation: ") amount_max settings.maximum_allocation
    ++ applications_line settings.application_limit

-- a header, a line for each queue, and the limits
unfoldable pub table : Settings → List ℕ
table settings =
    header (widths_of settings.queues) ++ flat_map (row_words (widths_of settings.queues)) settings.queues ++ limits_words settings
