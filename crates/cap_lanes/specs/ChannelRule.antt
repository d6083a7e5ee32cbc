-- The rule of the channel: what each worker has put is what was taken of it, and then what the channel holds of it.
use Rattle.std.specs.Prelude.{◌≡◌, ℕ, zero, suc, ◌+◌, ◌<◌, ◌≤◌, ◌==◌, Bool, true, false, List, [], ◌∷◌, ◌++◌, length, if◌then◌else◌}
use mathlib.Core.Option.{some}
use lib.ListN.{get_elem?}
use Rattle.cap_lanes.specs.declared.item.Message.{Message}
use Rattle.cap_lanes.specs.declared.item.Item.{Item}
use Rattle.cap_lanes.specs.declared.view.Lane.{Lane}
use Rattle.cap_lanes.specs.declared.view.View.{View}
use Rattle.cap_lanes.specs.Items.{messages_of, is_over, EndsLast}

abbrev pub lane : ℕ → List Message → Lane
lane n xs = record { worker = n; put = xs }

abbrev pub view_of : Bool → List Item → List Lane → View
view_of t xs ls = record { takes = t; took = xs; lanes = ls }

-- the committer's pass, which also has the lanes that have come back; a worker's pass; and a spent one
abbrev pub taker : List Item → List Lane → View
taker xs ls = view_of true xs ls

abbrev pub sender : Lane → View
sender l = view_of false [] (l ∷ [])

abbrev pub nobody : View
nobody = view_of false [] []

-- k lanes, numbered from n, in which nothing was put
abbrev pub fresh : ℕ → ℕ → List Lane
fresh n zero = []
fresh n (suc k) = lane n [] ∷ fresh (suc n) k

abbrev pub first_view : View
first_view = taker [] (fresh 0 8)

abbrev pub rest_of : List Lane → List Lane
rest_of [] = []
rest_of (l ∷ ls) = ls

abbrev pub head_of : List Lane → List Lane
head_of [] = []
head_of (l ∷ ls) = l ∷ []

abbrev pub without_first : View → View
without_first v = view_of v.takes v.took (rest_of v.lanes)

abbrev pub only_first : View → View
only_first v = view_of false [] (head_of v.lanes)

abbrev pub with_guest : View → View → View
with_guest v w = view_of v.takes v.took (v.lanes ++ w.lanes)

-- what the worker put is what was taken of it, and then what the channel holds of it
pub record Fits (got items : List Item) (l : Lane) : Type 0 where
  pub put : l.put ≡ messages_of l.worker got ++ messages_of l.worker items
  pub below : l.worker < 8

abbrev pub AllFit : List Item → List Item → List Lane → Type 0
AllFit got items [] = Unit {0}
AllFit got items (l ∷ ls) = Fits got items l × AllFit got items ls

-- how often a worker is among these
abbrev pub times : ℕ → List Lane → ℕ
times n [] = 0
times n (l ∷ ls) = (if l.worker == n then 1 else 0) + times n ls

abbrev pub total : ℕ → List View → ℕ
total n [] = 0
total n (v ∷ vs) = times n v.lanes + total n vs

-- each item is of one of the eight
abbrev pub WorkersBelow : List Item → Type 0
WorkersBelow [] = Unit {0}
WorkersBelow (x ∷ xs) = (x.worker < 8) × WorkersBelow xs

-- what holds of all that was taken and all that the channel holds: nothing comes after a worker's end
pub record Sound (got items : List Item) : Type 0 where
  pub taken : WorkersBelow got
  pub held : WorkersBelow items
  pub lanes : (n : ℕ) → EndsLast (messages_of n got ++ messages_of n items)
  pub room : length items ≤ 1024

-- what a pass knows is so: the committer's is one pass, and knows all that was taken
pub record Knows (taker_at : ℕ) (got items : List Item) (by : ℕ) (v : View) : Type 0 where
  pub takes : v.takes ≡ true → (by ≡ taker_at) × (v.took ≡ got)
  pub fits : AllFit got items v.lanes

-- the rule: what was taken is known to one pass, and no worker has two lanes
pub record Holds (items : List Item) (views : List View) : Type 0 where
  pub taker_at : ℕ
  pub got : List Item
  pub sound : Sound got items
  pub knows : (by : ℕ) (v : View) → get_elem? views by ≡ some v → Knows taker_at got items by v
  pub once : (n : ℕ) → total n views ≤ 1

-- a message joins the first lane
abbrev pub more_put : Message → List Lane → List Lane
more_put x [] = []
more_put x (l ∷ ls) = lane l.worker (l.put ++ x ∷ []) ∷ ls

-- a worker's pass after it put an item
abbrev pub IsPut : View → Item → View → Type 0
IsPut v x w = w ≡ view_of v.takes v.took (more_put x.message v.lanes)

-- what the committer's pass tells of what the channel holds
pub record Tally (got items : List Item) (ls : List Lane) : Type 0 where
  pub sound : Sound got items
  pub fits : AllFit got items ls
  pub once : (n : ℕ) → times n ls ≤ 1

abbrev pub Tells : View → List Item → Type 0
Tells v items = Tally v.took items v.lanes

-- the committer's pass after it took an item, which is of a worker whose end was not taken before; and what the channel holds then
abbrev pub IsTaken : View → Item → View → Type 0
IsTaken v x w =
    (w ≡ view_of v.takes (v.took ++ x ∷ []) v.lanes)
    × (x.worker < 8)
    × (is_over (messages_of x.worker v.took) ≡ false)
    × ((rest : List Item) × Tally (v.took ++ x ∷ []) rest v.lanes)

-- the lane of a worker's pass
abbrev pub first_of : List Lane → Lane
first_of [] = lane 0 []
first_of (l ∷ ls) = l

abbrev pub lane_of : View → Lane
lane_of v = first_of v.lanes

-- what a worker put, among these
abbrev pub puts_by : ℕ → List Lane → List Message
puts_by w [] = []
puts_by w (l ∷ ls) = (if l.worker == w then l.put else []) ++ puts_by w ls
