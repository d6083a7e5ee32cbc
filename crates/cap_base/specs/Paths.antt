-- Dotted paths.
use Rattle.std.specs.Prelude.{ℕ, Bool, List, [], ◌∷◌, ◌==◌, bytes_eq, codes, if◌then◌else◌, nat_eq, ◌||◌, ◌++◌}
use Rattle.std.specs.List.{starts_with, list_any}
use Rattle.cap_base.specs.Texts.{dot}

-- whether a queue is the one of this path, or stands under it
abbrev pub is_under : List ℕ → List ℕ → Bool
is_under path queue = bytes_eq path queue || starts_with nat_eq queue (path ++ dot ∷ [])

-- the last name of a dotted path
abbrev pub name_of : List ℕ → List ℕ
name_of [] = []
name_of (b ∷ path) = if list_any (λ x. x == dot) (b ∷ path) then name_of path else b ∷ path

-- whether a queue is a child of another
abbrev pub is_child_of : List ℕ → List ℕ → Bool
is_child_of parent queue = bytes_eq queue (parent ++ dot ∷ name_of queue)

-- the path of the queue above all others
abbrev pub root_path : List ℕ
root_path = codes "root"
