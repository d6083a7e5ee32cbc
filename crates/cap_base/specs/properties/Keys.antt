-- The keys of property lines.
use Rattle.std.specs.Prelude.{ℕ, ◌+◌, List, [], ◌∷◌, ◌++◌, length, take, drop, find, Option, Some, None, Bool, true, false, not, ◌&&◌, ◌||◌, ◌==◌, nat_lt, nat_le, nat_eq, if◌then◌else◌, codes}
use Rattle.std.specs.List.{list_all, slice_split, starts_with}
use Rattle.std.specs.Str.{bytes_eq}
use Rattle.cap_base.specs.Texts.{is_text, dot}
use Rattle.cap_base.specs.declared.properties.key.Key.{Key}
use Rattle.cap_base.specs.declared.properties.setting.Setting.{Setting}
use Rattle.cap_base.specs.declared.properties.setting.Setting.TheVariants.{Queues, Capacity, MaximumCapacity, UserLimitFactor, State, MaximumApplications, MinimumMemory, MinimumVcores, MinimumGpu, MaximumMemory, MaximumVcores, MaximumGpu}

-- how a property is written: the whole key of one of the cluster, the end of the key of one of a queue
unfoldable pub spelling : Setting → List ℕ
spelling Queues = codes "queues"
spelling Capacity = codes "capacity"
spelling MaximumCapacity = codes "maximum-capacity"
spelling UserLimitFactor = codes "user-limit-factor"
spelling State = codes "state"
spelling MaximumApplications = codes "yarn.scheduler.capacity.maximum-applications"
spelling MinimumMemory = codes "yarn.scheduler.minimum-allocation-mb"
spelling MinimumVcores = codes "yarn.scheduler.minimum-allocation-vcores"
spelling MinimumGpu = codes "yarn.resource-types.yarn.io/gpu.minimum-allocation"
spelling MaximumMemory = codes "yarn.scheduler.maximum-allocation-mb"
spelling MaximumVcores = codes "yarn.scheduler.maximum-allocation-vcores"
spelling MaximumGpu = codes "yarn.resource-types.yarn.io/gpu.maximum-allocation"

abbrev pub cluster_settings : List Setting
cluster_settings = MaximumApplications ∷ MinimumMemory ∷ MinimumVcores ∷ MinimumGpu ∷ MaximumMemory ∷ MaximumVcores ∷ MaximumGpu ∷ []

abbrev pub queue_settings : List Setting
queue_settings = Queues ∷ Capacity ∷ MaximumCapacity ∷ UserLimitFactor ∷ State ∷ []

-- the property of a list that these bytes spell
unfoldable pub setting_named : List Setting → List ℕ → Option Setting
setting_named settings bytes = find (λ setting. bytes_eq bytes (spelling setting)) settings

-- what the key of a queue begins with
unfoldable pub prefix : List ℕ
prefix = codes "yarn.scheduler.capacity."

unfoldable pub root : List ℕ
root = codes "root"

-- `root` takes its queues and its state alone
abbrev pub is_of_root : Setting → Bool
is_of_root Queues = true
is_of_root State = true
is_of_root _ = false

abbrev pub takes : List ℕ → Setting → Bool
takes path setting = not (bytes_eq path root) || is_of_root setting

-- a letter, a digit, `_` or `-`
abbrev pub is_name_byte : ℕ → Bool
is_name_byte b =
    ((nat_le 97 b && nat_le b 122) || (nat_le 65 b && nat_le b 90)) || (((nat_le 48 b && nat_le b 57) || (b == 95)) || (b == 45))

-- 1 to 64 of them
unfoldable pub is_name : List ℕ → Bool
is_name bytes = (nat_lt 0 (length bytes) && nat_le (length bytes) 64) && list_all is_name_byte bytes

abbrev pub is_dot : ℕ → Bool
is_dot b = b == dot

-- the names of a path
abbrev pub names_in : List ℕ → List (List ℕ)
names_in path = slice_split is_dot path

-- names joined by dots, the first of them `root`, in at most 255 bytes
unfoldable pub path_of : List ℕ → Option (List ℕ)
path_of bytes =
    if (is_text 255 bytes && (bytes_eq bytes root || starts_with nat_eq bytes (root ++ dot ∷ []))) && list_all is_name (names_in bytes)
    then Some bytes
    else None

-- where the last dot is
abbrev pub dot_or : Bool → Option ℕ → Option ℕ
dot_or first (Some i) = Some (i + 1)
dot_or first None = if first then Some 0 else None

abbrev pub last_dot : List ℕ → Option ℕ
last_dot [] = None
last_dot (b ∷ bytes) = dot_or (is_dot b) (last_dot bytes)

-- what stands before a place, and what after it
abbrev pub parts_round : Option ℕ → List ℕ → Option (List ℕ × List ℕ)
parts_round (Some i) bytes = Some (take i bytes, drop (i + 1) bytes)
parts_round None bytes = None

-- what stands before the last dot, and what after it
unfoldable pub parts_at_last_dot : List ℕ → Option (List ℕ × List ℕ)
parts_at_last_dot bytes = parts_round (last_dot bytes) bytes

-- the key of a path and the property that the end of a key spells
abbrev pub key_on : List ℕ → Option Setting → Option (List ℕ) → Option Key
key_on bytes (Some setting) (Some path) = if takes bytes setting then Some (record { queue = Some path; setting = setting }) else None
key_on bytes setting path = None

unfoldable pub key_at : List ℕ → Option Setting → Option Key
key_at bytes setting = key_on bytes setting (path_of bytes)

abbrev pub key_of_parts : Option (List ℕ × List ℕ) → Option Key
key_of_parts (Some parts) = key_at parts.0 (setting_named queue_settings parts.1)
key_of_parts None = None

-- the key of a queue, taken apart at its last dot
unfoldable pub queue_key : List ℕ → Option Key
queue_key bytes = if starts_with nat_eq bytes prefix then key_of_parts (parts_at_last_dot (drop (length prefix) bytes)) else None

abbrev pub key_or : List ℕ → Option Setting → Option Key
key_or bytes (Some setting) = Some (record { queue = None; setting = setting })
key_or bytes None = queue_key bytes

-- the key that bytes spell
unfoldable pub key_of : List ℕ → Option Key
key_of bytes = key_or bytes (setting_named cluster_settings bytes)
