-- A tree of queues as a snapshot keeps it, and what waits at them.
use Rattle.std.specs.Prelude.{◌≡◌, ℕ, ◌+◌, ◌-◌, ◌<◌, ◌≤◌, ◌==◌, Bool, true, false, if◌then◌else◌, List, [], ◌∷◌, length, map, Option, Some, None, slice_index_or}
use Rattle.std.specs.List.{slice_get}
use Rattle.std.specs.FinMap as finite
use Rattle.std.specs.Ordering.{on}
use Rattle.std.specs.declared.cmp.Ordering.{Ordering}
use Rattle.cap_vector.specs.declared.fullness.Share.{Share}
use Rattle.cap_tree.specs.Queue.{AreSharesOf, Queue}
use Rattle.cap_tree.specs.Rows.{Row, AreRows}
use Rattle.cap_tree.specs.Service.{queue_cmp}
use Rattle.cap_tree.specs.Spot.{Spot, made_of}
use Rattle.cap_tree.specs.Walk.{AreMarked, mark_at}

-- a queue, and the marks of what waits there
pub record SeenQueue : Type 0 where
  pub queue : Queue
  pub first : ℕ
  pub last : ℕ
  pub waits : Bool

-- the queue that was copied, the first of these
abbrev pub queue_in : List (Queue × ℕ) → Queue
queue_in [] = record { name = []; guaranteed = []; maximum = None; factor = 0; running = false; used = []; active = 0; users = finite.empty; waiting = []; waits = 0 }
queue_in (source ∷ sources) = source.0

-- what is kept of a queue is what it holds, with the shares of its use
pub record IsSeen (q : Queue) (name guaranteed : List ℕ) (maximum : Option (List ℕ)) (factor : ℕ) (used : List ℕ) (kept : List Share) : Type 0 where
  pub name_is : name ≡ q.name
  pub guaranteed_is : guaranteed ≡ q.guaranteed
  pub maximum_is : maximum ≡ q.maximum
  pub factor_is : factor ≡ q.factor
  pub used_is : used ≡ q.used
  pub shares_are : AreSharesOf q.used q.guaranteed kept

-- at first nothing waits at a queue
abbrev pub not_waiting : Queue → SeenQueue
not_waiting q = record { queue = q; first = 0; last = 0; waits = false }

-- something waits below a queue; what has that mark waits at it
abbrev pub waiting_below : SeenQueue → SeenQueue
waiting_below q = record q { waits = true }

abbrev pub waiting_at : ℕ → SeenQueue → SeenQueue
waiting_at mark q = record q { first = if q.first == 0 then mark else q.first; last = mark; waits = true }

-- they are served as the queues are
abbrev pub seen_cmp : SeenQueue → SeenQueue → Ordering
seen_cmp = on (λ q. q.queue) queue_cmp

-- the rows of a tree, and where what waits in it does so, by index; so many may wait
pub record SeenRows : Type 0 where
  pub rows : List Row
  pub waiting : List (List ℕ)
  pub room : ℕ

-- the rows of the queues that were copied
abbrev pub rows_seen : List (Spot SeenQueue) → List Row
rows_seen ss = map (made_of (λ q. q.queue)) ss

-- a mark is 1 + the least index, from a number on, of what waits at a position, 0 where nothing does so
pub record IsFirstFrom (waiting : List (List ℕ)) (position : List ℕ) (from mark : ℕ) : Type 0 where
  pub least : (j : ℕ) → from ≤ j → slice_get waiting j ≡ Some position → (1 ≤ mark) × (mark ≤ j + 1)
  pub there : 1 ≤ mark → (from < mark) × (slice_get waiting (mark - 1) ≡ Some position)

-- the same of the greatest index
pub record IsLast (waiting : List (List ℕ)) (position : List ℕ) (mark : ℕ) : Type 0 where
  pub most : (j : ℕ) → slice_get waiting j ≡ Some position → j < mark
  pub there : 1 ≤ mark → slice_get waiting (mark - 1) ≡ Some position

-- the marks of the queues are those of what waits, and the links lead from each to the next at the same queue
pub record IsSeenTree (ss : List (Spot SeenQueue)) (waiting : List (List ℕ)) (links : List ℕ) : Type 0 where
  pub rows_are : AreRows (rows_seen ss)
  pub firsts : (p : List ℕ) → IsFirstFrom waiting p 0 (mark_at (λ q. q.first) p ss)
  pub lasts : (p : List ℕ) → IsLast waiting p (mark_at (λ q. q.last) p ss)
  pub marked : AreMarked (λ q. q.first) (λ q. q.waits) ss
  pub linked : (i : ℕ) (p : List ℕ) → slice_get waiting i ≡ Some p → IsFirstFrom waiting p (i + 1) (slice_index_or links i 0)
  pub many : length links ≡ length waiting
