-- What callers see of the ends of the lanes, and what is said of it.
use Rattle.std.specs.Prelude.{◌≡◌, ℕ, ◌+◌, ◌<◌, ◌==◌, Bool, true, false, List, [], ◌∷◌, ◌++◌, map, slice_get, Some, if◌then◌else◌}
use Rattle.atomic_table.specs.Seated.{TableId}
use Rattle.atomic_table.specs.declared.badge.Badge.{Badge}
use Rattle.crossbeam_channel.specs.declared.flavors.array.Key.{Key}
use Rattle.cap_model.specs.Admission.{NodeProposal}
use Rattle.cap_lanes.specs.declared.item.Item.{Item}
use Rattle.cap_lanes.specs.declared.view.Lane.{Lane}
use Rattle.cap_lanes.specs.Items.{proposals}

-- which lanes these are
pub record LanesId : Type 0 where
  pub table : TableId
  pub key : Badge (Key Item)

-- what is seen of a worker's end: which lanes it is of, the worker's number, and what it put
pub record WorkerSide : Type 0 where
  pub lanes : LanesId
  pub worker : ℕ
  pub put : List NodeProposal

-- what is seen of the committer's end: which lanes it is of, the proposals that it took, and of which workers it took the end
pub record CommitterSide : Type 0 where
  pub lanes : LanesId
  pub taken : List (ℕ × NodeProposal)
  pub over : List Bool

abbrev pub worker_side : LanesId → ℕ → List NodeProposal → WorkerSide
worker_side z n ps = record { lanes = z; worker = n; put = ps }

-- eight workers that put nothing
abbrev pub eight_workers : LanesId → List WorkerSide
eight_workers z = map (λ n. worker_side z n []) (0 ∷ 1 ∷ 2 ∷ 3 ∷ 4 ∷ 5 ∷ 6 ∷ 7 ∷ [])

-- a worker's end after one proposal more
abbrev pub after_put : WorkerSide → NodeProposal → WorkerSide
after_put s p = worker_side s.lanes s.worker (s.put ++ p ∷ [])

-- all of these are of the same lanes
abbrev pub AllOf : LanesId → List WorkerSide → Type 0
AllOf z [] = Unit {0}
AllOf z (e ∷ es) = (e.lanes ≡ z) × AllOf z es

-- what a worker put, among these
abbrev pub put_by : ℕ → List WorkerSide → List NodeProposal
put_by w [] = []
put_by w (e ∷ es) = (if e.worker == w then e.put else []) ++ put_by w es

-- how many of these are the worker's
abbrev pub ends_of : ℕ → List WorkerSide → ℕ
ends_of w [] = 0
ends_of w (e ∷ es) = (if e.worker == w then 1 else 0) + ends_of w es

-- the end of none of the eight was taken; the ends of all were
abbrev pub NoneOver : List Bool → Type 0
NoneOver over = (w : ℕ) → w < 8 → slice_get over w ≡ Some false

abbrev pub AllOver : List Bool → Type 0
AllOver over = (w : ℕ) → w < 8 → slice_get over w ≡ Some true

-- an end that was taken stays taken
abbrev pub StayOver : List Bool → List Bool → Type 0
StayOver old new = (w : ℕ) → slice_get old w ≡ Some true → slice_get new w ≡ Some true

-- this was taken next: a proposal of one of the eight, whose end was not taken before
abbrev pub IsNext : List Bool → List (ℕ × NodeProposal) → List (ℕ × NodeProposal) → ℕ × NodeProposal → Type 0
IsNext over old new r = (new ≡ old ++ r ∷ []) × (r.0 < 8) × (slice_get over r.0 ≡ Some false)

abbrev pub IsTakenNext : CommitterSide → CommitterSide → ℕ × NodeProposal → Type 0
IsTakenNext old new r = IsNext old.over old.taken new.taken r

-- what each lane holds is what its worker put
abbrev pub Alike : List Lane → List WorkerSide → Type 0
Alike [] [] = Unit {0}
Alike [] (e ∷ es) = ⊥
Alike (l ∷ ls) [] = ⊥
Alike (l ∷ ls) (e ∷ es) = (l.worker ≡ e.worker) × (proposals l.put ≡ e.put) × Alike ls es
