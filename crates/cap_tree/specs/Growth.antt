-- A tree of queues that grows by one queue after the other.
use Rattle.std.specs.Prelude.{◌≡◌, ℕ, ◌++◌, ◌∷◌, true, List, length}
use Rattle.std.specs.List.{All}
use Rattle.cap_base.specs.Settings.{QueueRow}
use Rattle.cap_base.specs.Trees.{HasDistinctPaths, has_path, depth}
use Rattle.cap_base.specs.Listing.{IsListed}
use Rattle.cap_base.specs.Members.{IsIn}
use Rattle.cap_tree.specs.Spot.{last_position}
use Rattle.cap_tree.specs.Queue.{IsUnused}
use Rattle.cap_tree.specs.Rows.{Row, PositionsArePaths, HasLastName, queues_of}
use Rattle.cap_base.specs.Texts.{dot}

-- with each path all its beginnings before a dot are there
abbrev pub IsClosed : List QueueRow → Type 0
IsClosed qs = All (λ q. (front rest : List ℕ) → q.path ≡ front ++ dot ∷ rest → has_path qs front ≡ true) qs

-- a tree with nothing in it, to which these rows may be added one after the other
pub record IsGrowing (K : ℕ) (rows : List Row) (todo : List QueueRow) : Type 0 where
  pub last : Row
  pub member : IsIn last rows
  pub last_is : last_position rows ≡ last.position
  pub listed : IsListed last.path todo
  pub distinct : HasDistinctPaths (queues_of rows ++ todo)
  pub closed : IsClosed (queues_of rows)
  pub paths : PositionsArePaths rows
  pub depths : All (λ r. length r.position ≡ depth r.path) rows
  pub unused : All (λ r. IsUnused K r.item) rows
  pub names : All HasLastName rows
