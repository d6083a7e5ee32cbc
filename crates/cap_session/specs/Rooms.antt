-- The room that replies take.
use Rattle.std.specs.Prelude.{ℕ, ◌+◌, List, Ok, Err}
use Rattle.std.specs.List.{sum_by}
use Rattle.cap_grammar.specs.Spelling.{kind_of, room_of}
use Rattle.cap_session.specs.Asked.{ReadResult}
use Rattle.cap_session.specs.Session.{OpenRequest}

-- the frame of a reply to a request of this kind: its length, and what is asked for when it is written
abbrev pub kind_room : ℕ → ℕ
kind_room kind = 4 + room_of kind

abbrev pub open_room : OpenRequest → ℕ
open_room o = kind_room (kind_of o.request)

-- the frames of the replies to all of them
abbrev pub rooms : List OpenRequest → ℕ
rooms asked = sum_by open_room asked

-- of the reply to what was read, if it is a request
abbrev pub read_room : ReadResult → ℕ
read_room (Ok x) = kind_room (kind_of x.1)
read_room (Err e) = 0
