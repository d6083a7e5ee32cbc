-- The tests over the whole text: each finds its least line.
use Rattle.std.specs.Prelude.{ℕ, ◌+◌, List, [], ◌∷◌, length, find, Option, Some, None, Bool, true, false, not, ◌&&◌, ◌==◌, nat_lt, max, min, if◌then◌else◌, is_none}
use Rattle.std.specs.List.{list_any, range_with_len, sum_by}
use Rattle.std.specs.Option.{option_map}
use Rattle.std.specs.Str.{bytes_eq}
use Rattle.cap_vector.specs.Vector.{amount, amount_max, by_amount}
use Rattle.cap_base.specs.Limits.{resources}
use Rattle.cap_base.specs.declared.properties.entry.Entry.{Entry}
use Rattle.cap_base.specs.declared.properties.value.Value.{Value}
use Rattle.cap_base.specs.declared.properties.value.Value.TheVariants.{Names, Amounts, Number}
use Rattle.cap_base.specs.declared.properties.setting.Setting.{Setting}
use Rattle.cap_base.specs.declared.properties.setting.Setting.TheVariants.{Queues, Capacity, MaximumCapacity, MinimumMemory, MinimumVcores, MinimumGpu, MaximumMemory, MaximumVcores, MaximumGpu}
use Rattle.cap_base.specs.declared.properties.fault.ConfigFault.{ConfigFault}
use Rattle.cap_base.specs.declared.properties.fault.ConfigFaultKind.{ConfigFaultKind}
use Rattle.cap_base.specs.declared.properties.fault.ConfigFaultKind.TheVariants.{BadValue, NoChild, NoSuchQueue, TooDeep, TooManyQueues, GuaranteeOverMaximum, OverParent}
use Rattle.cap_base.specs.properties.Fault.{fault_at}
use Rattle.cap_base.specs.properties.Keys.{root, names_in, parts_at_last_dot}
use Rattle.cap_base.specs.properties.Queues.{same_setting, entry_for, is_queue, maximum, guaranteed, child}

-- the line of the first entry that passes a test
unfoldable pub line_where : (Entry → Bool) → List Entry → Option ℕ
line_where test entries = option_map (λ entry. entry.line) (find test entries)

-- the entry of a property of the whole cluster
abbrev pub cluster_entry : List Entry → Setting → Option Entry
cluster_entry entries setting = find (λ entry. same_setting entry.setting setting) entries

abbrev pub number_in : ℕ → Value → ℕ
number_in default (Number n) = n
number_in default value = default

-- the number that an entry sets, or the one that stands where there is none
abbrev pub number_or : Option Entry → ℕ → ℕ
number_or (Some entry) default = number_in default entry.value
number_or None default = default

-- the least amounts of a container, and the most
abbrev pub minimum_allocation : List Entry → List ℕ
minimum_allocation entries =
    number_or (cluster_entry entries MinimumMemory) 1024
    ∷ number_or (cluster_entry entries MinimumVcores) 1
    ∷ number_or (cluster_entry entries MinimumGpu) 0
    ∷ []

abbrev pub maximum_allocation : List Entry → List ℕ
maximum_allocation entries =
    number_or (cluster_entry entries MaximumMemory) 8192
    ∷ number_or (cluster_entry entries MaximumVcores) 4
    ∷ number_or (cluster_entry entries MaximumGpu) amount_max
    ∷ []

abbrev pub line_or_zero : Option Entry → ℕ
line_or_zero (Some entry) = entry.line
line_or_zero None = 0

-- a maximum that is less than the minimum: the later line of the two
abbrev pub pair_line : Option Entry → ℕ → Option Entry → ℕ → Option ℕ
pair_line least least_default most most_default =
    if nat_lt (number_or most most_default) (number_or least least_default) then Some (max (line_or_zero least) (line_or_zero most)) else None

abbrev pub lesser : Option ℕ → Option ℕ → Option ℕ
lesser (Some a) (Some b) = Some (min a b)
lesser (Some a) None = Some a
lesser None b = b

unfoldable pub allocation_line : List Entry → Option ℕ
allocation_line entries =
    lesser
    (pair_line (cluster_entry entries MinimumMemory) 1024 (cluster_entry entries MaximumMemory) 8192)
    (lesser
    (pair_line (cluster_entry entries MinimumVcores) 1 (cluster_entry entries MaximumVcores) 4)
    (pair_line (cluster_entry entries MinimumGpu) 0 (cluster_entry entries MaximumGpu) amount_max))

-- a list with no name
abbrev pub is_childless : Value → Bool
is_childless (Names []) = true
is_childless value = false

abbrev pub lists_none : Entry → Bool
lists_none entry = is_childless entry.value

unfoldable pub no_child_line : List Entry → Option ℕ
no_child_line entries = if is_none (entry_for entries Queues root) then Some 0 else line_where lists_none entries

-- an entry for a path that is no queue of the tree
abbrev pub is_astray_at : List Entry → Option (List ℕ) → Bool
is_astray_at entries (Some path) = not (is_queue entries path)
is_astray_at entries None = false

abbrev pub is_astray : List Entry → Entry → Bool
is_astray entries entry = is_astray_at entries entry.queue

abbrev pub no_such_queue_line : List Entry → Option ℕ
no_such_queue_line entries = line_where (is_astray entries) entries

-- how many names a path has
abbrev pub level : List ℕ → ℕ
level path = length (names_in path)

-- a list on a path of 16 names
abbrev pub is_deep : Option (List ℕ) → Value → Bool
is_deep (Some path) (Names names) = level path == 16
is_deep queue value = false

abbrev pub lists_deep : Entry → Bool
lists_deep entry = is_deep entry.queue entry.value

abbrev pub too_deep_line : List Entry → Option ℕ
too_deep_line entries = line_where lists_deep entries

-- how many queues a value lists
abbrev pub listed_by : Value → ℕ
listed_by (Names names) = length names
listed_by value = 0

-- the line up to which there are more than 1,024 queues, with so many before
unfoldable pub line_past : ℕ → List Entry → Option ℕ
line_past count [] = None
line_past count (entry ∷ entries) =
    if nat_lt 1024 (count + listed_by entry.value) then Some entry.line else line_past (count + listed_by entry.value) entries

abbrev pub too_many_line : List Entry → Option ℕ
too_many_line entries = line_past 1 entries

-- whether an amount is more than the other's
abbrev pub exceeds : List ℕ → List ℕ → Bool
exceeds a b = list_any (λ k. nat_lt (amount b k) (amount a k)) (range_with_len 0 resources)

abbrev pub exceeds_limit : List ℕ → Option (List ℕ) → Bool
exceeds_limit amounts (Some most) = exceeds amounts most
exceeds_limit amounts None = false

-- a capacity that does not fit the queue's own or inherited maximum capacity
abbrev pub is_over_limit : List Entry → Option (List ℕ) → Value → Bool
is_over_limit entries (Some path) (Amounts amounts) = exceeds_limit amounts (maximum entries path)
is_over_limit entries queue value = false

abbrev pub is_over_maximum : List Entry → Entry → Bool
is_over_maximum entries entry = same_setting entry.setting Capacity && is_over_limit entries entry.queue entry.value

abbrev pub over_maximum_line : List Entry → Option ℕ
over_maximum_line entries = line_where (is_over_maximum entries) entries

-- a maximum capacity that does not fit that of the queue above
abbrev pub is_over_parts : List Entry → List ℕ → Option (List ℕ × List ℕ) → Bool
is_over_parts entries amounts (Some parts) = exceeds_limit amounts (maximum entries parts.0)
is_over_parts entries amounts None = false

-- the sum of an amount of the capacities of the queues with these names
abbrev pub sum_below : List Entry → List ℕ → List (List ℕ) → ℕ → ℕ
sum_below entries path names k = sum_by (λ name. amount (guaranteed entries (child path name)) k) names

abbrev pub guaranteed_below : List Entry → List ℕ → List (List ℕ) → List ℕ
guaranteed_below entries path names = by_amount resources (sum_below entries path names)

-- under a queue other than root, capacities that add up to more than the queue's own
abbrev pub is_overspent : List Entry → List ℕ → List (List ℕ) → Bool
is_overspent entries path names = not (bytes_eq path root) && exceeds (guaranteed_below entries path names) (guaranteed entries path)

abbrev pub is_over_above : List Entry → Bool → Option (List ℕ) → Value → Bool
is_over_above entries of_maximum (Some path) (Amounts amounts) = of_maximum && is_over_parts entries amounts (parts_at_last_dot path)
is_over_above entries of_maximum (Some path) (Names names) = is_overspent entries path names
is_over_above entries of_maximum queue value = false

abbrev pub is_over_parent : List Entry → Entry → Bool
is_over_parent entries entry = is_over_above entries (same_setting entry.setting MaximumCapacity) entry.queue entry.value

abbrev pub over_parent_line : List Entry → Option ℕ
over_parent_line entries = line_where (is_over_parent entries) entries

-- a fault at a line, if there is one, or else another
abbrev pub or_else : Option ℕ → ConfigFaultKind → Option ConfigFault → Option ConfigFault
or_else (Some line) kind other = Some (fault_at line kind)
or_else None kind other = other

-- the first fault in the bounds of a container, in the shape of the tree and of a capacity over its maximum
unfoldable pub shape_fault : List Entry → Option ConfigFault
shape_fault entries =
    or_else (allocation_line entries) BadValue
    (or_else (no_child_line entries) NoChild
    (or_else (no_such_queue_line entries) NoSuchQueue (or_else (too_deep_line entries) TooDeep (or_else (too_many_line entries) TooManyQueues (or_else (over_maximum_line entries) GuaranteeOverMaximum None)))))

-- the first fault of the whole text
abbrev pub or_fault : Option ConfigFault → Option ConfigFault → Option ConfigFault
or_fault (Some fault) other = Some fault
or_fault None other = other

unfoldable pub whole_fault : List Entry → Option ConfigFault
whole_fault entries = or_fault (shape_fault entries) (or_else (over_parent_line entries) OverParent None)
