-- The values of property lines.
use Rattle.std.specs.Prelude.{ℕ, ◌+◌, ◌-◌, List, [], ◌∷◌, ◌++◌, length, take, drop, map, find, Option, Some, None, Bool, true, false, not, ◌&&◌, ◌==◌, nat_le, nat_eq, if◌then◌else◌, codes, option_and_then, slice_index}
use Rattle.std.specs.List.{list_all, slice_split, starts_with}
use Rattle.std.specs.Str.{bytes_eq}
use Rattle.cap_base.specs.Texts.{is_text}
use Rattle.cap_vector.specs.Vector.{amount_max, is_within}
use Rattle.cap_base.specs.declared.properties.value.Value.{Value}
use Rattle.cap_base.specs.declared.properties.value.Value.TheVariants.{Names, Amounts, Number, Running}
use Rattle.cap_base.specs.declared.properties.key.Key.{Key}
use Rattle.cap_base.specs.declared.properties.setting.Setting.{Setting}
use Rattle.cap_base.specs.declared.properties.setting.Setting.TheVariants.{Queues, Capacity, MaximumCapacity, UserLimitFactor, State, MaximumApplications, MinimumMemory, MinimumVcores, MinimumGpu, MaximumMemory, MaximumVcores, MaximumGpu}
use Rattle.cap_text.specs.Pieces.{trimmed_bytes}
use Rattle.cap_text.specs.Numbers.{number_of}
use Rattle.cap_base.specs.properties.Keys.{is_name}
use Rattle.cap_base.specs.properties.Seen.{contains_bytes}

-- what stands between commas, without the spaces round it
abbrev pub pieces_of : List ℕ → List (List ℕ)
pieces_of bytes = map trimmed_bytes (slice_split (λ b. b == 44) bytes)

-- the names of a list; an empty one has none
unfoldable pub names_of : List ℕ → List (List ℕ)
names_of [] = []
names_of (b ∷ bytes) = pieces_of (b ∷ bytes)

-- the greatest number of digits that a number may have
abbrev pub digits_max : ℕ
digits_max = 13

-- a number between two
unfoldable pub number_within : ℕ → ℕ → List ℕ → Option Value
number_within least most bytes = option_and_then (λ n. if nat_le least n && nat_le n most then Some (Number n) else None) (number_of digits_max bytes)

unfoldable pub state_of : List ℕ → Option Value
state_of bytes =
    if bytes_eq bytes (codes "RUNNING") then Some (Running true) else
    if bytes_eq bytes (codes "STOPPED") then Some (Running false) else None

-- what stands between brackets
unfoldable pub in_brackets : List ℕ → Option (List ℕ)
in_brackets bytes =
    if (nat_le 2 (length bytes) && (slice_index bytes 0 == 91)) && (slice_index bytes (length bytes - 1) == 93)
    then Some (take (length bytes - 2) (drop 1 bytes))
    else None

-- the number after a name, in the first piece that begins with it
unfoldable pub part : List ℕ → List (List ℕ) → Option ℕ
part name pieces = option_and_then (λ piece. number_of digits_max (drop (length name) piece)) (find (λ piece. starts_with nat_eq piece name) pieces)

-- the GPUs of a resource in so many pieces: where it names some they are the third piece, and else there are two pieces and no GPU
unfoldable pub gpus_in : ℕ → Option ℕ → Option ℕ
gpus_in count (Some gpus) = if count == 3 then Some gpus else None
gpus_in count None = if count == 2 then Some 0 else None

-- a resource of three amounts, each at most the greatest
unfoldable pub resource : Option ℕ → Option ℕ → Option ℕ → Option (List ℕ)
resource (Some memory) (Some vcores) (Some gpus) =
    if is_within amount_max (memory ∷ vcores ∷ gpus ∷ []) then Some (memory ∷ vcores ∷ gpus ∷ []) else None
resource memory vcores gpus = None

-- memory, vcores and perhaps GPUs, in any order
unfoldable pub amounts_in : List (List ℕ) → Option (List ℕ)
amounts_in pieces =
    resource (part (codes "memory=") pieces) (part (codes "vcores=") pieces) (gpus_in (length pieces) (part (codes "yarn.io/gpu=") pieces))

unfoldable pub amounts_of : List ℕ → Option (List ℕ)
amounts_of bytes = option_and_then (λ inner. amounts_in (pieces_of inner)) (in_brackets bytes)

-- a name for a queue below this path: with the path and a dot before it there are at most 255 bytes
abbrev pub is_name_under : List ℕ → List ℕ → Bool
is_name_under path name = (is_text 64 name && is_name name) && nat_le (length path + 1 + length name) 255

-- the name of a queue below this path
unfoldable pub name_under : List ℕ → List ℕ → Option (List ℕ)
name_under path name = if is_name_under path name then Some name else None

-- whether a list may go on with this name
abbrev pub is_next : List ℕ → List (List ℕ) → List ℕ → Bool
is_next path before name = is_name_under path name && not (contains_bytes before name)

-- whether no name stands a second time, or among those before
abbrev pub are_new : List (List ℕ) → List (List ℕ) → Bool
are_new before [] = true
are_new before (name ∷ names) = not (contains_bytes before name) && are_new (before ++ name ∷ []) names

-- the names of a list for the queue of this path
unfoldable pub names_for : List ℕ → List ℕ → Option (List (List ℕ))
names_for path bytes = if list_all (is_name_under path) (names_of bytes) && are_new [] (names_of bytes) then Some (names_of bytes) else None

abbrev pub as_names : Option (List (List ℕ)) → Option Value
as_names (Some names) = Some (Names names)
as_names None = None

abbrev pub as_amounts : Option (List ℕ) → Option Value
as_amounts (Some amounts) = Some (Amounts amounts)
as_amounts None = None

abbrev pub listed_names : Option (List ℕ) → List ℕ → Option Value
listed_names (Some path) bytes = as_names (names_for path bytes)
listed_names None bytes = None

-- the value that bytes give a property
unfoldable pub value_at : Option (List ℕ) → Setting → List ℕ → Option Value
value_at queue Queues bytes = listed_names queue bytes
value_at queue Capacity bytes = as_amounts (amounts_of bytes)
value_at queue MaximumCapacity bytes = as_amounts (amounts_of bytes)
value_at queue UserLimitFactor bytes = number_within 1 1000 bytes
value_at queue State bytes = state_of bytes
value_at queue MaximumApplications bytes = number_within 1 1000000 bytes
value_at queue MinimumMemory bytes = number_within 1 amount_max bytes
value_at queue MinimumVcores bytes = number_within 1 amount_max bytes
value_at queue MinimumGpu bytes = number_within 0 amount_max bytes
value_at queue MaximumMemory bytes = number_within 1 amount_max bytes
value_at queue MaximumVcores bytes = number_within 1 amount_max bytes
value_at queue MaximumGpu bytes = number_within 0 amount_max bytes

abbrev pub value_of : Key → List ℕ → Option Value
value_of key bytes = value_at key.queue key.setting bytes
