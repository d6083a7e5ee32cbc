-- What the types of this crate keep.
use Rattle.std.specs.Prelude.{◌≡◌, ℕ, ◌<◌, ◌≤◌, List, [], length}
use Rattle.atomic_table.specs.Table.{Me}
use Rattle.atomic_table.specs.Seated.{TableId}
use Rattle.cap_base.specs.Limits.{resources}
use Rattle.cap_model.specs.Flat.{Flat}
use Rattle.cap_shared.specs.declared.entry.Entry.{Entry}
use Rattle.cap_shared.specs.declared.entry.Receipt.{Receipt}
use Rattle.cap_shared.specs.declared.history.Mark.{Mark}
use Rattle.cap_shared.specs.declared.history.Sitting.{Sitting}
use Rattle.cap_shared.specs.declared.history.View.{View}
use Rattle.cap_shared.specs.Journal.{Replays, receipts_in, Rises, NotesHold, TagsBelow}
use Rattle.cap_shared.specs.WordRule.{keeper, sitting_of, IsSitter}

-- a seat: its number, its receipts, and the pass that knows all that it was answered
pub record IsSeat (table : TableId) (opening : Flat resources) (limit seats number : ℕ) (receipts : List Receipt) (at : TableId) (me : Me Mark View) : Type 0 where
  pub same : at ≡ table
  pub sits : IsSitter me
  pub number_is : number ≡ (sitting_of me.0).seat
  pub below : number < seats
  pub receipts_are : receipts ≡ receipts_in (sitting_of me.0).past
  pub rises : Rises 0 (sitting_of me.0).past
  pub notes : NotesHold opening limit (sitting_of me.0).past

-- the journal and the cluster under the lock, with the pass that knows the journal
pub record IsDesk (table : TableId) (opening : Flat resources) (limit seats : ℕ) (cluster : Flat resources) (log : List Entry) (at : TableId) (me : Me Mark View) (bound room : ℕ) : Type 0 where
  pub same : at ≡ table
  pub keeps : me ≡ (keeper log, [])
  pub run : Replays opening log cluster
  pub tags : TagsBelow seats log
  pub limit_is : bound ≡ limit
  pub fits : length log ≤ bound
  pub room_is : bound ≤ room

-- what is seen of the desk: the cluster and the journal
pub record Content : Type 0 where
  pub cluster : Flat resources
  pub log : List Entry

-- what is seen of a seat that has been closed
pub record Report : Type 0 where
  pub number : ℕ
  pub receipts : List Receipt

abbrev pub report_of : Sitting → Report
report_of s = record { number = s.seat; receipts = receipts_in s.past }
