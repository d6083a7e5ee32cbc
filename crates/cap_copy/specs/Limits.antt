-- The limits of an application, by the rows of a tree.
use Rattle.std.specs.Prelude.{ℕ, Bool, ◌&&◌, List}
use Rattle.std.specs.List.{list_all}
use Rattle.cap_vector.specs.Vector.{amounts_exchanged}
use Rattle.cap_base.specs.Cascade.{holds_of}
use Rattle.cap_base.specs.LimitTests.{fits_user_limit}
use Rattle.cap_tree.specs.Queue.{stays_in_maximum}
use Rattle.cap_tree.specs.Rows.{Row, items_to}
use Rattle.cap_tree.specs.Spot.{item_at, path_at}

-- whether the queues on the way to a position stay within their maximums, and one who uses so much there within the user limit of the leaf
abbrev pub stays_in_limits : (used old new position : List ℕ) → List Row → Bool
stays_in_limits used old new position rows =
    list_all (stays_in_maximum old new) (items_to (path_at position rows) rows)
    && holds_of (λ q. fits_user_limit q.factor q.guaranteed (amounts_exchanged old new used)) (item_at position rows)
