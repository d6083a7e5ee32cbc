-- The list of a cluster's queues: each queue before those under it, the children of one queue one after the other.
use Rattle.std.specs.Prelude.{◌≡◌, ℕ, ◌≤◌, true, List, [], ◌∷◌}
use Rattle.std.specs.List.{All}
use Rattle.cap_base.specs.Limits.{depth_max, factor_max}
use Rattle.cap_base.specs.Settings.{QueueRow}
use Rattle.cap_base.specs.Paths.{is_under, is_child_of, root_path}
use Rattle.cap_base.specs.Trees.{IsTree, depth}

-- a queue may come after the one of the first path: it is its child, or a child of a queue above it
pub record MayFollow (before path : List ℕ) : Type 0 where
  pub parent : List ℕ
  pub child : is_child_of parent path ≡ true
  pub above : is_under parent before ≡ true

-- each queue of a list may come after the one before it
abbrev pub IsListed : List ℕ → List QueueRow → Type 0
IsListed before [] = Unit {0}
IsListed before (q ∷ queues) = MayFollow before q.path × IsListed q.path queues

-- the list begins with the root, and each queue after it may come after the one before it
abbrev pub IsListedFromRoot : List QueueRow → Type 0
IsListedFromRoot [] = ⊥
IsListedFromRoot (q ∷ queues) = (q.path ≡ root_path) × IsListed root_path queues

-- the queues of settings: a tree, listed from the root, on at most 16 levels
pub record IsListing (queues : List QueueRow) : Type 0 where
  pub tree : IsTree queues
  pub listed : IsListedFromRoot queues
  pub levels : All (λ q. depth q.path ≤ depth_max) queues
  pub factors : All (λ q. q.factor ≤ factor_max) queues
