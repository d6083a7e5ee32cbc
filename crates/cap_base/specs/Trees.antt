-- Lists of queues that are trees.
use Rattle.std.specs.Prelude.{◌≡◌, ℕ, Bool, true, false, not, ◌&&◌, is_some, if◌then◌else◌, List, [], ◌∷◌, ◌++◌, map, find, count_by, ◌==◌, bytes_eq}
use Rattle.std.specs.List.{All, list_any, list_all}
use Rattle.cap_base.specs.Texts.{dot}
use Rattle.cap_base.specs.Settings.{QueueRow}
use Rattle.cap_base.specs.Paths.{is_under}

-- no path stands in a list of queues twice
abbrev pub HasDistinctPaths : List QueueRow → Type 0
HasDistinctPaths [] = Unit {0}
HasDistinctPaths (q ∷ queues) = (list_any (λ r. bytes_eq r.path q.path) queues ≡ false) × HasDistinctPaths queues

-- whether a queue of that path is there
abbrev pub has_path : List QueueRow → List ℕ → Bool
has_path queues path = is_some (find (λ r. bytes_eq r.path path) queues)

-- whether two lists of queues have the same paths: each that stands in the one stands in the other
abbrev pub has_same_paths : List QueueRow → List QueueRow → Bool
has_same_paths these those = list_all (λ q. has_path those q.path) these && list_all (λ q. has_path these q.path) those

-- queues that are a tree: no path stands there twice, and where a path is there, so is each beginning of it that ends before a dot
pub record IsTree (queues : List QueueRow) : Type 0 where
  pub distinct : HasDistinctPaths queues
  pub above : All (λ q. (front rest : List ℕ) → q.path ≡ front ++ dot ∷ rest → has_path queues front ≡ true) queues

-- each queue of a list stands before those under it
abbrev pub StandBelow : List QueueRow → Type 0
StandBelow [] = Unit {0}
StandBelow (q ∷ queues) = (list_any (λ r. is_under r.path q.path) queues ≡ false) × StandBelow queues

-- how far down a queue is: the dots of its path
abbrev pub depth : List ℕ → ℕ
depth path = count_by (λ b. b == dot) path

-- the beginnings of a path that end before a dot
abbrev pub fronts : List ℕ → List (List ℕ)
fronts [] = []
fronts (b ∷ path) =
    let longer = map (λ front. b ∷ front) (fronts path) in
    if b == dot then [] ∷ longer else longer

-- whether no path stands in a list of queues twice
abbrev pub has_distinct_paths : List QueueRow → Bool
has_distinct_paths [] = true
has_distinct_paths (q ∷ queues) = not (list_any (λ r. bytes_eq r.path q.path) queues) && has_distinct_paths queues

-- whether queues are a tree
abbrev pub is_tree : List QueueRow → Bool
is_tree queues = has_distinct_paths queues && list_all (λ q. list_all (has_path queues) (fronts q.path)) queues
