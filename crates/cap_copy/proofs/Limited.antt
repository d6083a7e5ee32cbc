-- All limits on the way to a queue are met where no queue on it fails, and the leaf's limit of a user is met.
use Rattle.cap_copy.proofs.Prelude.{◌≡◌, ℕ, Bool, true, false, List, sym, ◌∙◌, ap, ◌&&◌, Option, is_some, not, amounts_exchanged, holds_of, fits_user_limit, along, first_failing, item_at, IsPosition, Queue, stays_in_maximum, Row, PositionsArePaths, stays_in_limits}
use Rattle.cap_tree.proofs.RowPaths.{none_fails}

module _ (used position old new : List ℕ) (rows : List Row) (paths : PositionsArePaths rows) (there : IsPosition rows position) where
  abbrev fits_leaf : Queue → Bool
  fits_leaf q = fits_user_limit q.factor q.guaranteed (amounts_exchanged old new used)

  module _ (level : Option ℕ) (is : level ≡ first_failing (stays_in_maximum old new) (along position rows)) where
    limits_are : not (is_some level) && holds_of fits_leaf (item_at position rows) ≡ stays_in_limits used old new position rows
    limits_are = ap (λ b. b && holds_of fits_leaf (item_at position rows)) (ap (λ o. not (is_some o)) is ∙ none_fails (stays_in_maximum old new) position rows paths there)

    pub one_fails : is_some level ≡ true → false ≡ stays_in_limits used old new position rows
    one_fails e = ap (λ b. not b && holds_of fits_leaf (item_at position rows)) (sym e) ∙ limits_are

    pub leaf_decides : is_some level ≡ false → (b : Bool) → b ≡ holds_of fits_leaf (item_at position rows) → b ≡ stays_in_limits used old new position rows
    leaf_decides e b h = h ∙ ap (λ c. not c && holds_of fits_leaf (item_at position rows)) (sym e) ∙ limits_are
