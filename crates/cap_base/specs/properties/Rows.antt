-- The settings that entries without a fault make.
use Rattle.std.specs.Prelude.{ℕ, zero, suc, List, [], ◌∷◌, Option, Some, None, Bool, true}
use Rattle.std.specs.List.{flat_map}
use Rattle.cap_base.specs.Settings.{QueueRow, Settings}
use Rattle.cap_base.specs.declared.properties.entry.Entry.{Entry}
use Rattle.cap_base.specs.declared.properties.value.Value.{Value}
use Rattle.cap_base.specs.declared.properties.value.Value.TheVariants.{Running}
use Rattle.cap_base.specs.declared.properties.setting.Setting.TheVariants.{UserLimitFactor, State, MaximumApplications}
use Rattle.cap_base.specs.properties.Keys.{root}
use Rattle.cap_base.specs.properties.Queues.{entry_for, guaranteed, maximum, child, names_below}
use Rattle.cap_base.specs.properties.Tests.{number_or, cluster_entry, minimum_allocation, maximum_allocation}

-- the user limit factor of a queue
abbrev pub factor : List Entry → List ℕ → ℕ
factor entries path = number_or (entry_for entries UserLimitFactor path) 1

-- whether a queue's own state is RUNNING
abbrev pub running_in : Value → Bool
running_in (Running running) = running
running_in value = true

abbrev pub running_or : Option Entry → Bool
running_or (Some entry) = running_in entry.value
running_or None = true

abbrev pub is_running : List Entry → List ℕ → Bool
is_running entries path = running_or (entry_for entries State path)

-- the row of a queue
unfoldable pub row_of : List Entry → List ℕ → QueueRow
row_of entries path = record {
  path = path;
  guaranteed = guaranteed entries path;
  maximum = maximum entries path;
  factor = factor entries path;
  running = is_running entries path;
}

-- a queue and those under it on so many levels, each before those under it, siblings in the order of their list
unfoldable pub rows_under : ℕ → List Entry → List ℕ → List QueueRow
rows_under zero entries path = []
rows_under (suc levels) entries path = row_of entries path ∷ flat_map (λ name. rows_under levels entries (child path name)) (names_below entries path)

-- the settings of entries: there are queues on 16 levels
unfoldable pub settings_of : List Entry → Settings
settings_of entries = record {
  queues = rows_under 16 entries root;
  minimum_allocation = minimum_allocation entries;
  maximum_allocation = maximum_allocation entries;
  application_limit = number_or (cluster_entry entries MaximumApplications) 10000;
}
