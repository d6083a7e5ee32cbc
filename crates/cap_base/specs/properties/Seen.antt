-- Byte strings that were seen.
use Rattle.std.specs.Prelude.{◌≡◌, ℕ, List, Bool, is_some}
use Rattle.std.specs.HashMap.{HashMap, get_by}
use Rattle.std.specs.Str.{bytes_eq}
use Rattle.std.specs.List.{list_any}
use denote.Ref.{Bor}

-- whether these bytes are among the keys
abbrev pub has : {X S : Type 0} → HashMap (Bor (List ℕ)) X S → List ℕ → Bool
has seen q = is_some (get_by (λ k. bytes_eq q k.now) seen)

-- whether these bytes are in a list
abbrev pub contains_bytes : List (List ℕ) → List ℕ → Bool
contains_bytes keys q = list_any (λ key. bytes_eq key q) keys

-- the keys are these byte strings
abbrev pub HasAll : {X S : Type 0} → HashMap (Bor (List ℕ)) X S → List (List ℕ) → Type 0
HasAll seen keys = (q : List ℕ) → has seen q ≡ contains_bytes keys q
