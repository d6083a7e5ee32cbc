-- What the ends of the lanes keep.
use Rattle.std.specs.Prelude.{◌≡◌, ℕ, ◌<◌, ◌≤◌, Bool, true, false, List, [], ◌∷◌, ◌++◌, slice_get, Some}
use Rattle.atomic_table.specs.declared.badge.Badge.{Badge}
use Rattle.crossbeam_channel.specs.declared.flavors.array.Key.{Key}
use Rattle.crossbeam_channel.specs.declared.flavors.array.Doing.{Doing}
use Rattle.crossbeam_channel.specs.declared.flavors.array.Rows.{Rows}
use Rattle.crossbeam_channel.specs.Claims.{Pass, view, IsSeatAt}
use Rattle.crossbeam_channel.specs.Ends.{ruled_capacity}
use Rattle.cap_model.specs.Admission.{NodeProposal}
use Rattle.cap_lanes.specs.declared.item.Item.{Item}
use Rattle.cap_lanes.specs.declared.view.Lane.{Lane}
use Rattle.cap_lanes.specs.declared.view.View.{View}
use Rattle.cap_lanes.specs.Items.{messages_of, is_over, proposals, puts_in, tagged}
use Rattle.cap_lanes.specs.ChannelRule.{sender, taker, lane_of, puts_by}
use Rattle.cap_lanes.specs.Sides.{LanesId, WorkerSide, Alike}

-- what the worker of a pass put
abbrev pub put_in : Pass Item View → List NodeProposal
put_in p = proposals (lane_of (view p)).put

-- the proposals that were taken, each with its worker's number
abbrev pub taken_in : Pass Item View → List (ℕ × NodeProposal)
taken_in p = puts_in (view p).took

-- a pass is still of the same channel
abbrev pub SameSeat : Pass Item View → Pass Item View → Type 0
SameSeat old new = (new.table_id ≡ old.table_id) × (new.me.0.of ≡ old.me.0.of)

-- each flag says whether the worker's end was taken
abbrev pub Flags : List Bool → List Item → Type 0
Flags over took = (w : ℕ) → w < 8 → slice_get over w ≡ Some (is_over (messages_of w took))

-- the ends of all eight workers were taken
abbrev pub AllEnded : List Item → Type 0
AllEnded took = (w : ℕ) → w < 8 → is_over (messages_of w took) ≡ true

-- one end of the channel
abbrev pub ChannelEnd : Type 0 → Type 0 → Type 0 → Type 0 → Type 0
ChannelEnd Q M L A = Rows (Badge (Key Item)) (Doing Item View) Q M (Key Item) L A

module _ {Q M L A : Type 0} (c : ChannelEnd Q M L A) where
  abbrev pub lanes_id : LanesId
  lanes_id = record { table = c.stamps.shared.table_id; key = c.stamps.shared.key }

  -- the pass of a worker
  pub record IsSender (n : ℕ) (pass : Pass Item View) : Type 0 where
    pub seat : IsSeatAt c pass
    pub room : ruled_capacity c ≤ 1024
    pub sends : view pass ≡ sender (lane_of (view pass))
    pub worker : (lane_of (view pass)).worker ≡ n
    pub below : n < 8

  -- before its end, and after it
  pub record IsOpen (n : ℕ) (pass : Pass Item View) : Type 0 where
    pub is : IsSender n pass
    pub is_open : is_over (lane_of (view pass)).put ≡ false

  pub record IsShut (n : ℕ) (pass : Pass Item View) : Type 0 where
    pub is : IsSender n pass
    pub is_shut : is_over (lane_of (view pass)).put ≡ true

-- the committer's end: its pass is of both ends of the channel, and there is room for all that the channel may hold
module _ {Q M L A Q' M' L' A' : Type 0} (back : ChannelEnd Q M L A) (front : ChannelEnd Q' M' L' A') where
  pub record IsCommitter (pass : Pass Item View) (over : List Bool) (left : List (ℕ × NodeProposal)) (room : ℕ) : Type 0 where
    pub back_seat : IsSeatAt back pass
    pub front_seat : IsSeatAt front pass
    pub takes : view pass ≡ taker (view pass).took []
    pub flags : Flags over (view pass).took
    pub empty : left ≡ []
    pub roomy : 1024 ≤ room

-- the pass took over the lane of this worker
abbrev pub HasLaneOf : WorkerSide → Pass Item View → Pass Item View → Type 0
HasLaneOf e old new =
    (l : Lane)
    × (view new ≡ taker (view old).took ((view old).lanes ++ l ∷ []))
    × (l.worker ≡ e.worker)
    × (proposals l.put ≡ e.put)

-- the pass took over the lanes of these workers
abbrev pub HasLanesOf : List WorkerSide → Pass Item View → Pass Item View → Type 0
HasLanesOf es old new = (ls : List Lane) × (view new ≡ taker (view old).took ls) × Alike ls es

-- what a worker put is what was taken of it before the lanes were closed, and then what is left of it
abbrev pub AreAllIn : ℕ → Pass Item View → List (ℕ × NodeProposal) → Type 0
AreAllIn w pass left = tagged w (taken_in pass) ++ tagged w left ≡ proposals (puts_by w (view pass).lanes)
