-- What a fault is about, beyond its line and its kind.
use Rattle.std.specs.Prelude.{ℕ, ◌-◌, ◌^◌, List, [], ◌∷◌, find, take, slice_index_or, Option, Some, None, Bool, true, false, ◌&&◌, min, if◌then◌else◌, Result, Ok, Err}
use Rattle.std.specs.Str.Lines.{lines}
use Rattle.cap_vector.specs.Vector.{by_amount}
use Rattle.cap_base.specs.Limits.{resources}
use Rattle.cap_base.specs.Texts.{is_text}
use Rattle.cap_config.specs.declared.detail.Detail.{Detail}
use Rattle.cap_config.specs.declared.detail.Detail.TheVariants.{Plain, Earlier, Form, Unlisted, Over}
use Rattle.cap_config.specs.declared.detail.DetailedFault.{DetailedFault}
use Rattle.cap_config.specs.declared.detail.Limit.{Limit}
use Rattle.cap_config.specs.declared.detail.Limit.TheVariants.{MaximumAllocation, OwnMaximum, InheritedMaximum, MaximumAbove, OwnCapacity}
use Rattle.cap_base.specs.declared.properties.entry.Entry.{Entry}
use Rattle.cap_base.specs.declared.properties.key.Key.{Key}
use Rattle.cap_base.specs.declared.properties.value.Value.{Value}
use Rattle.cap_base.specs.declared.properties.value.Value.TheVariants.{Names, Amounts}
use Rattle.cap_base.specs.declared.properties.setting.Setting.TheVariants.{MaximumCapacity}
use Rattle.cap_base.specs.declared.properties.fault.ConfigFault.{ConfigFault}
use Rattle.cap_base.specs.declared.properties.fault.ConfigFaultKind.{ConfigFaultKind}
use Rattle.cap_base.specs.declared.properties.fault.ConfigFaultKind.TheVariants.{Repeated, BadValue, NoSuchQueue, GuaranteeOverMaximum, OverParent, NoMemory}
use Rattle.cap_base.specs.properties.Entries.{key_text, read_lines}
use Rattle.cap_base.specs.properties.Fault.{fault_at}
use Rattle.std.specs.Str.{bytes_eq}
use Rattle.cap_base.specs.properties.Keys.{key_of, parts_at_last_dot, root}
use Rattle.cap_base.specs.properties.Queues.{above, amounts_at, entry_for, guaranteed, is_below, maximum, same_setting}
use Rattle.cap_base.specs.properties.Tests.{is_astray, is_over_maximum, is_over_parent, minimum_allocation, maximum_allocation, sum_below}

-- a fault alone, without its detail
abbrev pub fault_alone : {X : Type 0} → Result X DetailedFault → Result X ConfigFault
fault_alone (Ok x) = Ok x
fault_alone (Err found) = Err found.fault

abbrev pub detailed : ℕ → ConfigFaultKind → Detail → DetailedFault
detailed line kind detail = record { fault = fault_at line kind; detail = detail }

-- want of memory
abbrev pub no_room : DetailedFault
no_room = detailed 0 NoMemory Plain

-- amounts over a limit, if there is one
abbrev pub over_some : Limit → List ℕ → Option (List ℕ) → Detail
over_some limit amounts (Some most) = Over limit amounts most
over_some limit amounts None = Plain

-- a minimum allocation over the maximum allocation
unfoldable pub allocation_detail : List Entry → Detail
allocation_detail entries = Over MaximumAllocation (minimum_allocation entries) (maximum_allocation entries)

-- the first path, from the top on, that is not `root` and not listed by the queue above it: one of these paths above `path`, or else the one before
abbrev pub missing_or : Bool → List ℕ → Option (List ℕ) → Option (List ℕ)
missing_or true path missing = missing
missing_or false path missing = Some path

abbrev pub missing_from : List Entry → List ℕ → Option (List ℕ) → List (List ℕ) → Option (List ℕ)
missing_from entries path missing [] = missing_or (bytes_eq path root) path missing
missing_from entries path missing (parent ∷ more) =
    missing_from entries parent (missing_or (is_below entries (parts_at_last_dot path)) path missing) more

abbrev pub missing_path : List Entry → List ℕ → Option (List ℕ)
missing_path entries path = missing_from entries path None (above path)

unfoldable pub unlisted_at : Option (List ℕ) → Detail
unlisted_at (Some path) = if is_text 255 path then Unlisted path else Plain
unlisted_at None = Plain

abbrev pub unlisted : List Entry → Option (List ℕ) → Detail
unlisted entries (Some path) = unlisted_at (missing_path entries path)
unlisted entries None = Plain

-- a capacity over the maximum capacity of its queue
abbrev pub limit_of : Option (List ℕ) → Limit
limit_of (Some own) = OwnMaximum
limit_of None = InheritedMaximum

unfoldable pub over_own : List Entry → List ℕ → List ℕ → Detail
over_own entries path amounts =
    over_some (limit_of (amounts_at None (entry_for entries MaximumCapacity path))) amounts (maximum entries path)

abbrev pub over_maximum : List Entry → Option (List ℕ) → Value → Detail
over_maximum entries (Some path) (Amounts amounts) = over_own entries path amounts
over_maximum entries queue value = Plain

-- a maximum capacity over that of the queue above
abbrev pub over_above : List Entry → List ℕ → Option (List ℕ × List ℕ) → Detail
over_above entries amounts (Some parts) = over_some MaximumAbove amounts (maximum entries parts.0)
over_above entries amounts None = Plain

-- the sums of the capacities of the queues with these names, each at most the greatest number of 64 bits
abbrev pub capped : ℕ → ℕ
capped n = min n (2 ^ 64 - 1)

abbrev pub added_below : List Entry → List ℕ → List (List ℕ) → List ℕ
added_below entries path names = by_amount resources (λ k. capped (sum_below entries path names k))

abbrev pub over_capacity : List Entry → List ℕ → List (List ℕ) → Detail
over_capacity entries path names = Over OwnCapacity (added_below entries path names) (guaranteed entries path)

abbrev pub over_parent : List Entry → Option (List ℕ) → Value → Detail
over_parent entries (Some path) (Amounts amounts) = over_above entries amounts (parts_at_last_dot path)
over_parent entries (Some path) (Names names) = over_capacity entries path names
over_parent entries queue value = Plain

-- what the entry is about that was found
abbrev pub of_entry : (Entry → Detail) → Option Entry → Detail
of_entry about (Some entry) = about entry
of_entry about None = Plain

-- what a fault of the whole text is about: the first entry that fails the test, or the bounds of a container
abbrev pub whole_detail : List Entry → ConfigFaultKind → Detail
whole_detail entries BadValue = allocation_detail entries
whole_detail entries NoSuchQueue = of_entry (λ entry. unlisted entries entry.queue) (find (is_astray entries) entries)
whole_detail entries GuaranteeOverMaximum = of_entry (λ entry. over_maximum entries entry.queue entry.value) (find (is_over_maximum entries) entries)
whole_detail entries OverParent = of_entry (λ entry. over_parent entries entry.queue entry.value) (find (is_over_parent entries) entries)
whole_detail entries _ = Plain

-- what a fault of a line is about, after lines that set these entries: the one with the same key, or the property of its key
abbrev pub same_queue : Option (List ℕ) → Option (List ℕ) → Bool
same_queue (Some a) (Some b) = bytes_eq a b
same_queue None None = true
same_queue a b = false

abbrev pub has_key : Key → Entry → Bool
has_key key entry = same_setting entry.setting key.setting && same_queue entry.queue key.queue

abbrev pub earlier : List Entry → Key → Detail
earlier entries key = of_entry (λ entry. Earlier entry.line) (find (has_key key) entries)

abbrev pub line_detail : List Entry → ConfigFaultKind → Option Key → Detail
line_detail entries Repeated (Some key) = earlier entries key
line_detail entries BadValue (Some key) = Form key.setting
line_detail entries _ key = Plain

abbrev pub entries_in : Result (List Entry) ConfigFault → List Entry
entries_in (Ok entries) = entries
entries_in (Err fault) = []

-- what a fault is about at its line, after what the lines before set
unfoldable pub detail_at : List (List ℕ) → ConfigFault → Detail
detail_at lines fault =
    line_detail (entries_in (read_lines (take (fault.line - 1) lines))) fault.kind (key_of (key_text (slice_index_or lines (fault.line - 1) [])))

abbrev pub detail_after : List (List ℕ) → ConfigFault → Result (List Entry) ConfigFault → Detail
detail_after lines fault (Ok entries) = whole_detail entries fault.kind
detail_after lines fault (Err other) = detail_at lines fault

-- what the first fault of a text is about
unfoldable pub detail_in : List ℕ → ConfigFault → Detail
detail_in text fault = detail_after (lines text) fault (read_lines (lines text))
