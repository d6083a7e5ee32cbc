-- What is counted of a queue and of all under it: the use of a resource, active applications, or those that wait.
use Rattle.std.specs.Prelude.{ℕ, ◌+◌, ◌-◌, ◌≤◌, ◌⊎◌}
use Rattle.cap_vector.specs.Vector.{sum_max}

pub data Measure : Type 0 where
  uses : ℕ → Measure
  active : Measure
  waiting : Measure

-- the most that is counted
abbrev pub most : Measure → ℕ
most (Measure.uses k) = sum_max
most Measure.active = 18446744073709551615
most Measure.waiting = 18446744073709551615

-- where old goes away and new comes, it grows no more, or stays within the most
abbrev pub StaysBounded : (stored old new bound : ℕ) → Type 0
StaysBounded stored old new bound = (new ≤ old) ⊎ ((stored - old) + new ≤ bound)

-- where an old count goes away and a new one comes, each number of what is stored grows no more, or stays within the most
abbrev pub MayChange : (stored old new : Measure → ℕ) → Type 0
MayChange stored old new = (m : Measure) → StaysBounded (stored m) (old m) (new m) (most m)

-- one more or less of those that wait, and nothing else
abbrev pub one_waiting : Measure → ℕ
one_waiting (Measure.uses k) = 0
one_waiting Measure.active = 0
one_waiting Measure.waiting = 1
