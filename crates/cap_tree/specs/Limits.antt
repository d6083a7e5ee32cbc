-- The limit that a change of use in a leaf would pass.
use Rattle.std.specs.Prelude.{ℕ, if◌then◌else◌, List, Option, Some, None}
use Rattle.std.specs.Option.{option_map_or}
use Rattle.cap_base.specs.Cascade.{holds_of}
use Rattle.cap_tree.specs.Spot.{first_failing, item_at, path_at}
use Rattle.cap_tree.specs.Queue.{stays_in_maximum, stays_in_user_limit}
use Rattle.cap_tree.specs.Rows.{Row, rows_to}
use Rattle.cap_tree.specs.declared.over_limit.OverLimit.{OverLimit}
use Rattle.cap_tree.specs.declared.over_limit.OverLimit.TheVariants.{Maximum, User}

-- the least level on the way to a path, counted from the root as 0, whose maximum would be passed
abbrev pub broken_level : List ℕ → List ℕ → List ℕ → List Row → Option ℕ
broken_level path old new rows = first_failing (stays_in_maximum old new) (rows_to path rows)

-- the maximum of that level, or else the user limit of the leaf at the position, or none
abbrev pub over_limit : ℕ → List ℕ → List ℕ → List ℕ → List ℕ → List Row → Option OverLimit
over_limit K position user old new rows =
    option_map_or (λ level. Some (Maximum level)) (broken_level (path_at position rows) old new rows)
    (if holds_of (stays_in_user_limit K user old new) (item_at position rows) then None else Some User)
