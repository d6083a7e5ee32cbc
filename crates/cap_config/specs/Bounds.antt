-- The bounds that the values of a text keep.
use Rattle.std.specs.Prelude.{ℕ, List, [], length, ◌&&◌, ◌==◌, Option, Some, None, Bool, true, nat_le, if◌then◌else◌}
use Rattle.std.specs.List.{list_all}
use Rattle.cap_vector.specs.Vector.{amount_max}
use Rattle.cap_base.specs.Limits.{applications_max, factor_max, resources}
use Rattle.cap_base.specs.declared.properties.setting.Setting.{Setting}
use Rattle.cap_base.specs.declared.properties.setting.Setting.TheVariants.{MaximumApplications, UserLimitFactor}
use Rattle.cap_base.specs.properties.Queues.{same_setting}
use Rattle.cap_base.specs.declared.properties.entry.Entry.{Entry}
use Rattle.cap_base.specs.declared.properties.value.Value.{Value}
use Rattle.cap_base.specs.declared.properties.value.Value.TheVariants.{Names, Amounts, Number, Running}
use Rattle.cap_base.specs.properties.Values.{is_name_under, are_new}

-- whether each name makes a path below this one, and stands once
abbrev pub are_under : Option (List ℕ) → List (List ℕ) → Bool
are_under (Some path) names = list_all (is_name_under path) names && are_new [] names
are_under None names = true

-- the greatest number that a property may set
abbrev pub most_of : Setting → ℕ
most_of setting =
    if same_setting setting MaximumApplications then applications_max else
    if same_setting setting UserLimitFactor then factor_max else amount_max

-- an amount of each resource
abbrev pub has_each : List ℕ → Bool
has_each amounts = length amounts == resources

abbrev pub is_kept : ℕ → Value → Option (List ℕ) → Bool
is_kept most (Names names) queue = are_under queue names
is_kept most (Amounts amounts) queue = has_each amounts
is_kept most (Number n) queue = nat_le n most
is_kept most (Running running) queue = true

-- the names are those of queues with a path, each once, a number is at most the greatest for its setting, and there is an amount of each resource
abbrev pub is_bounded : Entry → Bool
is_bounded entry = is_kept (most_of entry.setting) entry.value entry.queue

abbrev pub are_bounded : List Entry → Bool
are_bounded entries = list_all is_bounded entries
