-- The words for a fault of the settings.
use Rattle.std.specs.Prelude.{◌≡◌, ℕ, List, [], ◌++◌, Option, Some, None, codes, decimal, ◌==◌, if◌then◌else◌}
use Rattle.cap_vector.specs.Vector.{amount}
use Rattle.cap_config.specs.declared.detail.Detail.{Detail}
use Rattle.cap_config.specs.declared.detail.Detail.TheVariants.{Plain, Earlier, Form, Unlisted, Over}
use Rattle.cap_config.specs.declared.detail.DetailedFault.{DetailedFault}
use Rattle.cap_config.specs.declared.detail.Limit.{Limit}
use Rattle.cap_config.specs.declared.detail.Limit.TheVariants.{MaximumAllocation, OwnMaximum, InheritedMaximum, MaximumAbove, OwnCapacity}
use Rattle.cap_base.specs.declared.properties.setting.Setting.{Setting}
use Rattle.cap_base.specs.declared.properties.setting.Setting.TheVariants.{Queues, Capacity, MaximumCapacity, UserLimitFactor, State, MaximumApplications, MinimumMemory, MinimumVcores, MinimumGpu, MaximumMemory, MaximumVcores, MaximumGpu}
use Rattle.cap_config.specs.LineKeys.{line_key}
use Rattle.cap_words.specs.Amounts.{over_words}

-- the line of a fault, where there is one
abbrev pub line_words : ℕ → List ℕ
line_words line = if line == 0 then [] else codes "line " ++ decimal line ++ codes ": "

-- the key of that line, where it has one
abbrev pub key_words : Option (List ℕ) → List ℕ
key_words (Some key) = key ++ codes ": "
key_words None = []

unfoldable pub heading : List ℕ → ℕ → List ℕ
heading text line = line_words line ++ key_words (line_key text line)

-- what a value of a property must be
unfoldable pub form_words : Setting → List ℕ
form_words Queues = codes "the value must be names with commas between them, each of 1 to 64 letters, digits, _ or -, none of them twice, and no queue's path over 255 bytes"
form_words Capacity = codes "the value must be [memory=N,vcores=N] or [memory=N,vcores=N,yarn.io/gpu=N], each N a number from 0 to 1099511627776"
form_words MaximumCapacity = codes "the value must be [memory=N,vcores=N] or [memory=N,vcores=N,yarn.io/gpu=N], each N a number from 0 to 1099511627776"
form_words UserLimitFactor = codes "the value must be a number from 1 to 1000"
form_words State = codes "the value must be RUNNING or STOPPED"
form_words MaximumApplications = codes "the value must be a number from 1 to 1000000"
form_words MinimumMemory = codes "the value must be a number from 1 to 1099511627776"
form_words MinimumVcores = codes "the value must be a number from 1 to 1099511627776"
form_words MinimumGpu = codes "the value must be a number from 0 to 1099511627776"
form_words MaximumMemory = codes "the value must be a number from 1 to 1099511627776"
form_words MaximumVcores = codes "the value must be a number from 1 to 1099511627776"
form_words MaximumGpu = codes "the value must be a number from 0 to 1099511627776"

-- what is over a limit
unfoldable pub limit_words : Limit → List ℕ
limit_words MaximumAllocation = codes "the minimum allocation is more than the maximum"
limit_words OwnMaximum = codes "more than the queue's maximum-capacity"
limit_words InheritedMaximum = codes "more than the maximum-capacity that the queue inherits"
limit_words MaximumAbove = codes "more than the maximum-capacity of the queue above"
limit_words OwnCapacity = codes "the capacities of the queues below add up to more than the queue's capacity"

-- each amount that is over
unfoldable pub each_over : List ℕ → List ℕ → List ℕ
each_over amounts most =
    over_words (codes ", memory ") (amount amounts 0) (amount most 0)
    ++ over_words (codes ", vcores ") (amount amounts 1) (amount most 1)
    ++ over_words (codes ", yarn.io/gpu ") (amount amounts 2) (amount most 2)

-- what there is to say of a fault, and general words where there is nothing beyond its kind
abbrev pub detail_words : List ℕ → Detail → List ℕ
detail_words general Plain = general
detail_words general (Earlier line) = codes "line " ++ decimal line ++ codes " sets the same property: keep one of the two lines"
detail_words general (Form setting) = form_words setting
detail_words general (Unlisted path) = path ++ codes " is not listed by the .queues line of the queue above it"
detail_words general (Over limit amounts most) = limit_words limit ++ each_over amounts most

-- the words for a fault of a text: its line, its key and what there is to say of it, or else some general words
abbrev pub Describes : List ℕ → DetailedFault → List ℕ → Type 0
Describes text found words = (general : List ℕ) × (words ≡ heading text found.fault.line ++ detail_words general found.detail)
