-- Laws of the definitions: what they say of every text.
use Rattle.std.specs.Prelude.{◌≡◌, ◌≢◌, ◌↔◌, ◌≤◌, ℕ, List, None, Some, Ok, Bool, true, false, IfSome, IsSome, count_by, length, if◌then◌else◌}
use Rattle.std.specs.List.{All}
use Rattle.std.specs.Str.{bytes_eq}
use Rattle.std.specs.Str.Lines.{lines}
use Rattle.cap_base.specs.Limits.{resources}
use Rattle.cap_base.specs.Settings.{QueueRow, Settings}
use Rattle.cap_base.specs.declared.properties.entry.Entry.{Entry}
use Rattle.cap_base.specs.declared.properties.fault.ConfigFault.{ConfigFault}
use Rattle.cap_base.specs.declared.properties.fault.ConfigFaultKind.TheVariants.{NoMemory}
use Rattle.cap_base.specs.properties.Keys.{root}
use Rattle.cap_base.specs.properties.Seen.{contains_bytes}
use Rattle.cap_base.specs.properties.Queues.{is_queue, names_below, child, guaranteed, maximum}
use Rattle.cap_base.specs.properties.Entries.{read_lines}
use Rattle.cap_base.specs.properties.Tests.{whole_fault, level, exceeds, exceeds_limit, guaranteed_below}
use Rattle.cap_base.specs.properties.Rows.{settings_of}
use Rattle.cap_base.specs.properties.First.{first_fault, settings_in}

-- a text has settings exactly where it has no fault: each has one of the two, and not both
abbrev pub HasOneAnswer : Type 0
HasOneAnswer = (text : List ℕ) → (first_fault text ≡ None) ↔ IsSome (settings_in text)

-- a set of paths has `root`, and the queues that its members list
pub record HasListed (entries : List Entry) (has : List ℕ → Bool) : Type 0 where
  pub top : has root ≡ true
  pub below : (path name : List ℕ) → has path ≡ true → contains_bytes (names_below entries path) name ≡ true → has (child path name) ≡ true

-- the queues that the lines of a text set up are such a set, and are in each such set
abbrev pub QueuesAreLeast : Type 0
QueuesAreLeast =
    (text : List ℕ) (entries : List Entry) → read_lines (lines text) ≡ Ok entries →
    HasListed entries (is_queue entries) × ((has : List ℕ → Bool) → HasListed entries has → (path : List ℕ) → is_queue entries path ≡ true → has path ≡ true)

-- in a text with no fault no queue is below level 16, that of `root` being 1
abbrev pub QueuesAreNotTooDeep : Type 0
QueuesAreNotTooDeep =
    (text : List ℕ) (entries : List Entry) → read_lines (lines text) ≡ Ok entries → whole_fault entries ≡ None → (path : List ℕ) → is_queue entries path ≡ true → level path ≤ 16

-- its settings have one row for each queue, and none for another path
abbrev pub RowsAreQueues : Type 0
RowsAreQueues =
    (text : List ℕ) (entries : List Entry) → read_lines (lines text) ≡ Ok entries → whole_fault entries ≡ None →
    (path : List ℕ) → count_by (λ row. bytes_eq row.path path) (settings_of entries).queues ≡ (if is_queue entries path then 1 else 0)

-- there are at most 1,024 rows
abbrev pub RowsAreFew : Type 0
RowsAreFew = (text : List ℕ) (entries : List Entry) → read_lines (lines text) ≡ Ok entries → whole_fault entries ≡ None → length (settings_of entries).queues ≤ 1024

-- each queue's capacity fits its maximum, own or inherited
abbrev pub GuaranteeFitsMaximum : Type 0
GuaranteeFitsMaximum =
    (text : List ℕ) (entries : List Entry) → read_lines (lines text) ≡ Ok entries → whole_fault entries ≡ None → (path : List ℕ) → exceeds_limit (guaranteed entries path) (maximum entries path) ≡ false

-- a maximum fits that of the queue above, where that has one
abbrev pub MaximumFitsParent : Type 0
MaximumFitsParent =
    (text : List ℕ) (entries : List Entry) → read_lines (lines text) ≡ Ok entries → whole_fault entries ≡ None →
    (path name most : List ℕ) → contains_bytes (names_below entries path) name ≡ true → maximum entries (child path name) ≡ Some most → exceeds_limit most (maximum entries path) ≡ false

-- the capacities of the queues below one other than `root` add up to no more than its own
abbrev pub ChildrenFitParent : Type 0
ChildrenFitParent =
    (text : List ℕ) (entries : List Entry) → read_lines (lines text) ≡ Ok entries → whole_fault entries ≡ None →
    (path : List ℕ) → bytes_eq path root ≡ false → exceeds (guaranteed_below entries path (names_below entries path)) (guaranteed entries path) ≡ false

-- the line of a first fault is 0 or one of the text's lines
abbrev pub FaultsAreInLines : Type 0
FaultsAreInLines = (text : List ℕ) (fault : ConfigFault) → first_fault text ≡ Some fault → fault.line ≤ length (lines text)

-- a text has at most as many lines as bytes
abbrev pub LinesAreFew : Type 0
LinesAreFew = (text : List ℕ) → length (lines text) ≤ length text

-- a first fault is one of the text: it is never want of memory
abbrev pub FaultsAreOfText : Type 0
FaultsAreOfText = (text : List ℕ) (fault : ConfigFault) → first_fault text ≡ Some fault → fault.kind ≢ NoMemory

-- the vectors of a queue have so many amounts: its guarantee, and its maximum where it has one
pub record QueueHasAmounts (k : ℕ) (q : QueueRow) : Type 0 where
  pub guaranteed : length q.guaranteed ≡ k
  pub maximum : IfSome q.maximum (λ most. length most ≡ k)

-- the vectors of settings have so many amounts: those of each queue, and the bounds of a container
pub record HasAmounts (k : ℕ) (settings : Settings) : Type 0 where
  pub queues : All (QueueHasAmounts k) settings.queues
  pub minimum_allocation : length settings.minimum_allocation ≡ k
  pub maximum_allocation : length settings.maximum_allocation ≡ k

-- the settings of a text have an amount of each resource
abbrev pub SettingsHaveAmounts : Type 0
SettingsHaveAmounts = (text : List ℕ) (settings : Settings) → settings_in text ≡ Some settings → HasAmounts resources settings
