-- Rounding a vector of amounts up.
use Rattle.std.specs.Prelude.{ℕ, ◌+◌, ◌-◌, ◌*◌, ◌/◌, min, max, List, ◌==◌, if◌then◌else◌}
use Rattle.cap_vector.specs.Vector.{amount, by_amount}

-- the least multiple of the step that is at least the amount and at least the step; a step of 0 raises nothing
abbrev pub raised_amount : ℕ → ℕ → ℕ
raised_amount x step = if step == 0 then x else ((max x 1 + (step - 1)) / step) * step

-- each of K amounts raised to a multiple of its step, then cut to the most there may be
abbrev pub round_up : ℕ → List ℕ → List ℕ → List ℕ → List ℕ
round_up K v step most = by_amount K (λ k. min (raised_amount (amount v k) (amount step k)) (amount most k))
