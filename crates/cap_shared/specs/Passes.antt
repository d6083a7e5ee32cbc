-- What a step under the lock needs of the passes, and does to them.
use Rattle.std.specs.Prelude.{◌≡◌, ◌<◌, List, [], ◌∷◌, ◌++◌}
use Rattle.atomic_table.specs.declared.shared.Seat.{Seat}
use Rattle.atomic_table.specs.Seated.{TableId}
use Rattle.cap_shared.specs.declared.entry.Entry.{Entry}
use Rattle.cap_shared.specs.declared.entry.Receipt.{Receipt}
use Rattle.cap_shared.specs.declared.history.NotedAnswer.{NotedAnswer}
use Rattle.cap_shared.specs.declared.history.Mark.{Mark}
use Rattle.cap_shared.specs.declared.history.Moment.{Moment}
use Rattle.cap_shared.specs.declared.history.Moment.TheVariants.{Entered, Noted}
use Rattle.cap_shared.specs.declared.history.View.{View}
use Rattle.cap_shared.specs.WordRule.{keeper, sitter, sitting, sitting_of, IsSitter, Fits}

abbrev pub Pass : Type 0
Pass = Seat Mark View

-- the pass that keeps this journal, and that of a seat, are of the word's table
pub record AreHere (table : TableId) (log : List Entry) (desk seat : Pass) : Type 0 where
  pub word : 0 < table.words
  pub desk_table : desk.table_id ≡ table
  pub seat_table : seat.table_id ≡ table
  pub keeps : desk.me ≡ (keeper log, [])
  pub sits : IsSitter seat.me

-- The journal is this now, and the seat, which fitted the journal before, was answered one moment more.
pub record HasMoment (before after : List Entry) (moment : Moment) (desk_old desk_new seat_old seat_new : Pass) : Type 0 where
  pub desk_table : desk_new.table_id ≡ desk_old.table_id
  pub seat_table : seat_new.table_id ≡ seat_old.table_id
  pub keeps : desk_new.me ≡ (keeper after, [])
  pub sits : seat_new.me ≡ (sitter (sitting (sitting_of seat_old.me.0).seat ((sitting_of seat_old.me.0).past ++ moment ∷ [])), [])
  pub fits : Fits before (sitting_of seat_old.me.0)

-- Neither pass knows anything else than before, and the seat fits the journal.
pub record IsCompared (log : List Entry) (desk_old desk_new seat_old seat_new : Pass) : Type 0 where
  pub desk_table : desk_new.table_id ≡ desk_old.table_id
  pub seat_table : seat_new.table_id ≡ seat_old.table_id
  pub keeps : desk_new.me ≡ desk_old.me
  pub sits : seat_new.me ≡ seat_old.me
  pub fits : Fits log (sitting_of seat_old.me.0)

abbrev pub IsNoted : List Entry → NotedAnswer → Pass → Pass → Pass → Pass → Type 0
IsNoted log answer desk_old desk_new seat_old seat_new = HasMoment log log (Noted log answer) desk_old desk_new seat_old seat_new

abbrev pub IsEntered : List Entry → Entry → Receipt → Pass → Pass → Pass → Pass → Type 0
IsEntered log entry receipt desk_old desk_new seat_old seat_new = HasMoment log (log ++ entry ∷ []) (Entered receipt) desk_old desk_new seat_old seat_new
