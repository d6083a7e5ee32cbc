-- What an index finds.
use Rattle.std.specs.Prelude.{◌≡◌, ℕ, List, find, Option, Some, None}
use Rattle.std.specs.BTreeMap.{BTreeMap, get_by}
use Rattle.std.specs.Cmp.Lexicographic.{slice_cmp}
use Rattle.std.specs.Ordering.{nat_cmp}
use denote.Ref.{Bor}
use Rattle.cap_config.specs.declared.index.Index.{Index}
use Rattle.cap_base.specs.declared.properties.entry.Entry.{Entry}
use Rattle.cap_base.specs.declared.properties.setting.Setting.{Setting}
use Rattle.cap_base.specs.declared.properties.setting.Setting.TheVariants.{Queues, Capacity, MaximumCapacity, UserLimitFactor, State}
use Rattle.cap_base.specs.properties.Queues.{is_entry_for}

-- what a map from paths to entries has at a path
abbrev pub pointed_entry : Option (Bor Entry) → Option Entry
pointed_entry (Some entry) = Some entry.now
pointed_entry None = None

abbrev pub entry_at : BTreeMap (Bor (List ℕ)) (Bor Entry) → List ℕ → Option Entry
entry_at places q = pointed_entry (get_by (λ k. slice_cmp nat_cmp q k.now) places)

-- the map has each entry of a property at its path
abbrev pub FindsAll : BTreeMap (Bor (List ℕ)) (Bor Entry) → Setting → List Entry → Type 0
FindsAll places setting entries = (q : List ℕ) → entry_at places q ≡ find (is_entry_for setting q) entries

-- each map of the index has the entries of its property
pub record IsIndex (index : Index) : Type 0 where
  pub queues : FindsAll index.queues Queues index.entries.now
  pub capacity : FindsAll index.capacity Capacity index.entries.now
  pub maximum_capacity : FindsAll index.maximum_capacity MaximumCapacity index.entries.now
  pub user_limit_factor : FindsAll index.user_limit_factor UserLimitFactor index.entries.now
  pub state : FindsAll index.state State index.entries.now
