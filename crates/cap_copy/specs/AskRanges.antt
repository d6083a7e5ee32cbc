-- Where the asks of each application lie among all asks of a snapshot.
use Rattle.std.specs.Prelude.{◌≡◌, ℕ, ◌<◌, ◌≤◌, List, Option, Some, None, length}
use Rattle.std.specs.List.{slice_get}
use Rattle.cap_copy.specs.declared.ranges.AskRange.{AskRange}
use Rattle.cap_copy.specs.AskEntry.{AskEntry}

-- an ask at an index lies in the range of its application
pub record LiesIn (ranges : List AskRange) (e : AskEntry) (j : ℕ) : Type 0 where
  pub range : AskRange
  pub at : slice_get ranges e.index ≡ Some range
  pub app : range.app ≡ e.app
  pub from : range.start ≤ j
  pub to : j < range.end

-- all asks lie in the ranges of their applications, and no range goes beyond the last ask
pub record AreRanges (asks : List AskEntry) (ranges : List AskRange) : Type 0 where
  pub ends : (i : ℕ) (b : AskRange) → slice_get ranges i ≡ Some b → (b.start ≤ b.end) × (b.end ≤ length asks)
  pub each : (j : ℕ) (e : AskEntry) → j < length asks → slice_get asks j ≡ Some e → LiesIn ranges e j

-- ranges in order of application number
abbrev pub AreApart : List AskRange → Type 0
AreApart ranges = (i j : ℕ) (b d : AskRange) → i < j → slice_get ranges i ≡ Some b → slice_get ranges j ≡ Some d → b.app < d.app

-- the index of the range of an application, where there is one
abbrev pub IsIndexOf : ℕ → List AskRange → Option ℕ → Type 0
IsIndexOf app ranges None = (i : ℕ) (b : AskRange) → slice_get ranges i ≡ Some b → b.app ≡ app → ⊥
IsIndexOf app ranges (Some index) = (range : AskRange) × (slice_get ranges index ≡ Some range) × (range.app ≡ app)

-- and that range
abbrev pub IsRangeOf : ℕ → List AskRange → Option AskRange → Type 0
IsRangeOf app ranges None = IsIndexOf app ranges None
IsRangeOf app ranges (Some range) = ((i : ℕ) × (slice_get ranges i ≡ Some range)) × ((i : ℕ) (b : AskRange) → slice_get ranges i ≡ Some b → b.app ≡ app → b ≡ range)

-- all asks of an application lie from an index on, up to another
abbrev pub AreInside : List AskEntry → ℕ → ℕ → ℕ → Type 0
AreInside asks app start end = (j : ℕ) (e : AskEntry) → slice_get asks j ≡ Some e → e.app ≡ app → (start ≤ j) × (j < end)
