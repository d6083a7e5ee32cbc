-- How many things have each key.
use Rattle.std.specs.Prelude.{◌≡◌, ℕ, zero, suc, Bool, List, Option, None, Some, if◌then◌else◌, count_by, ◌==◌, ◌&&◌}
use Rattle.std.specs.Option.{option_map_or}
use Rattle.std.specs.Map.{lookup}
use Rattle.cap_model.specs.Flat.{Container}
use Rattle.cap_model.specs.declared.ask.Key.{Key}
use Rattle.cap_nodes.specs.declared.app_key.AppKey.{AppKey}

-- a count that is kept only where there are some
abbrev pub some_count : ℕ → Option ℕ
some_count zero = None
some_count (suc n) = Some (suc n)

module _ {Q : Type 0} (same : Q → Q → Bool) where
  -- how many have a key, by what is kept
  abbrev pub count_in : List (Q × ℕ) → Q → ℕ
  count_in entries q = option_map_or (λ n. n) (lookup (same q) entries) 0

  -- a key has this count in place of the old
  abbrev pub HasCount : Q → ℕ → List (Q × ℕ) → List (Q × ℕ) → Type 0
  HasCount key count old new = (q : Q) → lookup (same q) new ≡ (if same key q then some_count count else lookup (same q) old)

  -- each key has as many as there are items of it
  abbrev pub AreCounted : {X : Type 0} → (X → Q) → List (Q × ℕ) → List X → Type 0
  AreCounted key entries xs = (q : Q) → lookup (same q) entries ≡ some_count (count_by (λ x. same (key x) q) xs)

-- a key of an application, that of a container, and whether two are the same
abbrev pub app_key : ℕ → Key → AppKey
app_key app key = record { app = app; priority = key.priority; request = key.request }

abbrev pub app_key_of : Container → AppKey
app_key_of c = app_key c.app c.key

abbrev pub same_app_key : AppKey → AppKey → Bool
same_app_key a b = a.app == b.app && (a.priority == b.priority && a.request == b.request)
