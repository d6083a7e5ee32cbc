-- The queues that entries set up, and what is set for each.
use Rattle.std.specs.Prelude.{ℕ, List, [], ◌∷◌, ◌++◌, map, find, Option, Some, None, Bool, true, false, ◌&&◌, ◌==◌, if◌then◌else◌}
use Rattle.std.specs.Str.{bytes_eq}
use Rattle.cap_base.specs.Limits.{resources}
use Rattle.cap_vector.specs.Vector.{zeros}
use Rattle.cap_base.specs.declared.properties.entry.Entry.{Entry}
use Rattle.cap_base.specs.declared.properties.value.Value.{Value}
use Rattle.cap_base.specs.declared.properties.value.Value.TheVariants.{Names, Amounts}
use Rattle.cap_base.specs.declared.properties.setting.Setting.{Setting}
use Rattle.cap_base.specs.declared.properties.setting.Setting.TheVariants.{Queues, Capacity, MaximumCapacity, UserLimitFactor, State, MaximumApplications, MinimumMemory, MinimumVcores, MinimumGpu, MaximumMemory, MaximumVcores, MaximumGpu}
use Rattle.cap_base.specs.properties.Keys.{root, is_dot, parts_at_last_dot}
use Rattle.cap_base.specs.properties.Seen.{contains_bytes}
use Rattle.cap_base.specs.Texts.{dot}

abbrev pub setting_number : Setting → ℕ
setting_number Queues = 0
setting_number Capacity = 1
setting_number MaximumCapacity = 2
setting_number UserLimitFactor = 3
setting_number State = 4
setting_number MaximumApplications = 5
setting_number MinimumMemory = 6
setting_number MinimumVcores = 7
setting_number MinimumGpu = 8
setting_number MaximumMemory = 9
setting_number MaximumVcores = 10
setting_number MaximumGpu = 11

abbrev pub same_setting : Setting → Setting → Bool
same_setting a b = setting_number a == setting_number b

-- the queue for which an entry sets a property
abbrev pub path_for : Setting → Entry → Option (List ℕ)
path_for setting entry = if same_setting entry.setting setting then entry.queue else None

abbrev pub is_path_at : Option (List ℕ) → List ℕ → Bool
is_path_at (Some path) q = bytes_eq path q
is_path_at None q = false

abbrev pub is_entry_for : Setting → List ℕ → Entry → Bool
is_entry_for setting q entry = is_path_at (path_for setting entry) q

-- the entry that sets a property for the queue of a path
unfoldable pub entry_for : List Entry → Setting → List ℕ → Option Entry
entry_for entries setting q = find (is_entry_for setting q) entries

-- the path of the queue with this name below another
abbrev pub child : List ℕ → List ℕ → List ℕ
child path name = path ++ dot ∷ name

-- the names that a queue lists
abbrev pub names_in_value : Value → List (List ℕ)
names_in_value (Names names) = names
names_in_value value = []

abbrev pub names_or_none : Option Entry → List (List ℕ)
names_or_none (Some entry) = names_in_value entry.value
names_or_none None = []

abbrev pub names_below : List Entry → List ℕ → List (List ℕ)
names_below entries path = names_or_none (entry_for entries Queues path)

-- the paths above a path, the nearest first: what stands before each of its dots
abbrev pub dot_ends : Bool → List (List ℕ)
dot_ends true = [] ∷ []
dot_ends false = []

unfoldable pub above : List ℕ → List (List ℕ)
above [] = []
above (b ∷ bytes) = map (λ path. b ∷ path) (above bytes) ++ dot_ends (is_dot b)

-- whether the queue above a path, cut at its last dot, lists the name after the dot
abbrev pub is_below : List Entry → Option (List ℕ × List ℕ) → Bool
is_below entries (Some parts) = contains_bytes (names_below entries parts.0) parts.1
is_below entries None = false

-- whether each path but the last is listed by the queue above it, and the last is `root`
abbrev pub leads_to_root : List Entry → List ℕ → List (List ℕ) → Bool
leads_to_root entries path [] = bytes_eq path root
leads_to_root entries path (parent ∷ more) = is_below entries (parts_at_last_dot path) && leads_to_root entries parent more

-- whether a path is a queue of the tree: `root`, or listed by a queue of the tree
abbrev pub is_queue : List Entry → List ℕ → Bool
is_queue entries path = leads_to_root entries path (above path)

-- what an entry has, where there is one
abbrev pub amounts_or : Option (List ℕ) → Value → Option (List ℕ)
amounts_or other (Amounts amounts) = Some amounts
amounts_or other value = other

abbrev pub amounts_at : Option (List ℕ) → Option Entry → Option (List ℕ)
amounts_at other (Some entry) = amounts_or other entry.value
amounts_at other None = other

abbrev pub or_zero : Option (List ℕ) → List ℕ
or_zero (Some amounts) = amounts
or_zero None = zeros resources

-- what a queue is guaranteed
abbrev pub guaranteed : List Entry → List ℕ → List ℕ
guaranteed entries path = or_zero (amounts_at None (entry_for entries Capacity path))

-- up to where a queue may grow: its own maximum, or that of the nearest queue above that has one
abbrev pub nearest_maximum : List Entry → List ℕ → List (List ℕ) → Option (List ℕ)
nearest_maximum entries path [] = amounts_at None (entry_for entries MaximumCapacity path)
nearest_maximum entries path (parent ∷ more) = amounts_at (nearest_maximum entries parent more) (entry_for entries MaximumCapacity path)

abbrev pub maximum : List Entry → List ℕ → Option (List ℕ)
maximum entries path = nearest_maximum entries path (above path)
