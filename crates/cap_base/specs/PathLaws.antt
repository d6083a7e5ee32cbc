-- Laws of paths, and of lists of queues.
use Rattle.std.specs.Prelude.{◌≡◌, ◌↔◌, ◌⊎◌, ℕ, ◌+◌, true, List, map, filter, ◌∷◌, ◌++◌}
use Rattle.std.specs.List.{range_with_len}
use Rattle.cap_base.specs.Texts.{dot}
use Rattle.cap_base.specs.Settings.{QueueRow}
use Rattle.cap_base.specs.Listing.{IsListing}
use Rattle.cap_base.specs.Paths.{is_under}
use Rattle.cap_base.specs.Trees.{IsTree, StandBelow, depth, has_path, is_tree}

-- a queue is in or under another exactly where it has the other's path or a path that begins with it and a dot
abbrev pub UnderByPath : Type 0
UnderByPath = (path queue : List ℕ) → (is_under path queue ≡ true) ↔ ((queue ≡ path) ⊎ ((rest : List ℕ) × (queue ≡ path ++ dot ∷ rest)))

-- whether queues are a tree is told by the test
abbrev pub TreesAreTested : Type 0
TreesAreTested = (queues : List QueueRow) → (is_tree queues ≡ true) ↔ IsTree queues

-- in a tree where each queue stands before those under it, the queues that lead to one of them are one of each level, in order, from 0 on:
-- the place of a queue among them is its level
abbrev pub LevelsInOrder : Type 0
LevelsInOrder =
    (queues : List QueueRow) (leaf : List ℕ) → IsTree queues → StandBelow queues → has_path queues leaf ≡ true →
    map (λ q. depth q.path) (filter (λ q. is_under q.path leaf) queues) ≡ range_with_len 0 (depth leaf + 1)

-- in queues listed from the root each stands before those under it
abbrev pub ListingsStandBelow : Type 0
ListingsStandBelow = (queues : List QueueRow) → IsListing queues → StandBelow queues
