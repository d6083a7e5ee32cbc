-- What changes of a present node: how, and when it may.
use Rattle.std.specs.Prelude.{◌≡◌, ℕ, length}
use Rattle.cap_vector.specs.Vector.{plus}
use Rattle.cap_nodes.specs.declared.change.Change.{Change}
use Rattle.cap_nodes.specs.declared.change.Change.TheVariants.{Hold, Lift, Reserve, Unreserve}
use Rattle.cap_nodes.specs.Loads.{CanHold, HasOne, Load, held_less, held_more, reserved_load, unreserved_load}

abbrev pub changed_by : {K : ℕ} → Change K → Load → Load
changed_by (Hold resource) = held_more resource.now
changed_by (Lift resource) = held_less resource.now
changed_by (Reserve reservation) = reserved_load reservation.now
changed_by Unreserve = unreserved_load

abbrev pub MayChange : {K : ℕ} → Change K → Load → Type 0
MayChange (Hold resource) p = CanHold resource.now p
MayChange (Lift resource) p = HasOne resource.now p
MayChange (Reserve reservation) p = Unit {0}
MayChange Unreserve p = Unit {0}

-- what it holds with one more container is an amount of each resource
abbrev pub Counts : {K : ℕ} → Change K → Load → Type 0
Counts {K} (Hold resource) p = length (plus p.held resource.now) ≡ K
Counts (Lift resource) p = Unit {0}
Counts (Reserve reservation) p = Unit {0}
Counts Unreserve p = Unit {0}
