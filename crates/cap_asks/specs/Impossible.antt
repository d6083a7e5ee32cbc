-- Which asks are marked as impossible: no node that is present could take one, not even one that is empty.
use Rattle.std.specs.Prelude.{◌≡◌, ◌⊎◌, ℕ, ◌<◌, ◌≤◌, Bool, true, false, ◌&&◌, ◌||◌, List, [], ◌∷◌, Some, length, bytes_eq, if◌then◌else◌}
use Rattle.std.specs.List.{slice_get, sum_by}
use Rattle.cap_base.specs.Amounts.{fits}
use Rattle.cap_base.specs.Members.{IsIn}
use Rattle.cap_base.specs.Texts.{star}
use Rattle.cap_model.specs.Asks.{Ask}

-- marks, and how many more fit with no memory
pub record HeldMarks : Type 0 where
  pub marks : List Bool
  pub room : ℕ

-- how many are set
abbrev pub marks_in : List Bool → ℕ
marks_in marks = sum_by (λ mark. if mark then 1 else 0) marks

-- each from an index on is set, up to another
pub record AreMarkedBetween (marks : List Bool) (from to : ℕ) : Type 0 where
  pub later : from ≤ to
  pub within : to ≤ length marks
  pub set : (index : ℕ) → from ≤ index → index < to → slice_get marks index ≡ Some true

-- what an ask wants, and where
pub record Want : Type 0 where
  pub place : List ℕ
  pub resource : List ℕ

abbrev pub want_of : Ask → Want
want_of ask = record { place = ask.place; resource = ask.resource }

-- what those asks want whose marks are set
abbrev pub wants_marked : List Bool → List Ask → List Want
wants_marked [] asks = []
wants_marked (mark ∷ marks) [] = []
wants_marked (mark ∷ marks) (ask ∷ asks) = if mark then want_of ask ∷ wants_marked marks asks else wants_marked marks asks

-- each of these wants is one of those
abbrev pub AreAmong : List Want → List Want → Type 0
AreAmong these those = (want : Want) → IsIn want these → IsIn want those

-- or that of an ask, where it is impossible
abbrev pub AreAmongOr : Ask → Bool → List Want → List Want → Type 0
AreAmongOr ask impossible these those = (want : Want) → IsIn want these → IsIn want those ⊎ ((impossible ≡ true) × (want ≡ want_of ask))

-- whether a node of this host, rack and total could take what is wanted
abbrev pub could_take : Want → (host rack total : List ℕ) → Bool
could_take want host rack total = (bytes_eq want.place (star ∷ []) || bytes_eq want.place host || bytes_eq want.place rack) && fits want.resource total

-- each of these wants is one of those, and the node could not take it
abbrev pub AreLeftBy : (host rack total : List ℕ) → List Want → List Want → Type 0
AreLeftBy host rack total these those = (want : Want) → IsIn want these → IsIn want those × (could_take want host rack total ≡ false)

-- from an index on, before another, each ask wants one of those
pub record WantAmong (those : List Want) (asks : List Ask) (from to : ℕ) : Type 0 where
  pub later : from ≤ to
  pub within : to ≤ length asks
  pub among : (index : ℕ) (ask : Ask) → from ≤ index → index < to → slice_get asks index ≡ Some ask → IsIn (want_of ask) those
