-- Ends of the same lanes.
use Rattle.std.specs.Prelude.{◌≡◌, List, [], ◌∷◌}
use Rattle.cap_lanes.specs.Sides.{WorkerSide}

-- each worker's end is of the lanes that it was of before
abbrev pub SameLanes : List WorkerSide → List WorkerSide → Type 0
SameLanes [] [] = Unit {0}
SameLanes [] (e ∷ es) = ⊥
SameLanes (p ∷ ps) [] = ⊥
SameLanes (p ∷ ps) (e ∷ es) = (e.lanes ≡ p.lanes) × SameLanes ps es
