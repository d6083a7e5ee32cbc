-- What is counted of a queue or of a user in it, and how a part of it moves.
use Rattle.std.specs.Prelude.{ℕ, ◌+◌, ◌-◌, ◌≤◌, Bool, ◌==◌, ◌&&◌, List}
use Rattle.cap_vector.specs.Vector.{amount, amounts_exchanged, is_zero, zeros}
use Rattle.cap_tree.specs.Measure.{Measure, MayChange}

-- what is used, and how many applications are active
pub record Count : Type 0 where
  pub used : List ℕ
  pub active : ℕ

abbrev pub of_count : Count → Measure → ℕ
of_count c (Measure.uses k) = amount c.used k
of_count c Measure.active = c.active
of_count c Measure.waiting = 0

-- nothing of K resources, one active application that uses nothing, and use alone
abbrev pub zero_count : ℕ → Count
zero_count K = record { used = zeros K; active = 0 }

abbrev pub one_app : ℕ → Count
one_app K = record { used = zeros K; active = 1 }

abbrev pub use_alone : List ℕ → Count
use_alone used = record { used = used; active = 0 }

abbrev pub is_zero_count : Count → Bool
is_zero_count c = c.active == 0 && is_zero c.used

-- one count fits another
abbrev pub IsPart : Count → Count → Type 0
IsPart part c = (m : Measure) → of_count part m ≤ of_count c m

-- with an old part taken away and a new one added
abbrev pub count_moved : Count → Count → Count → Count
count_moved old new c = record { used = amounts_exchanged old.used new.used c.used; active = (c.active - old.active) + new.active }

-- where an old part is taken away and a new one added, it does not grow, or stays within the most
abbrev pub MayMove : Count → Count → Count → Type 0
MayMove old new c = MayChange (of_count c) (of_count old) (of_count new)
