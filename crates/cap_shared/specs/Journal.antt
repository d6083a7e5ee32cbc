-- Journals, what of a journal is a seat's, and what holds of all that a seat was answered.
use Rattle.std.specs.Prelude.{◌≡◌, ℕ, suc, ◌<◌, ◌≤◌, ◌==◌, List, [], ◌∷◌, length, map, if◌then◌else◌, Some}
use Rattle.cap_base.specs.Limits.{resources}
use Rattle.cap_model.specs.Flat.{Flat}
use Rattle.cap_model.specs.Sight.{sight_of}
use Rattle.cap_model.specs.Admission.{IsAdmissible, reason_of}
use Rattle.cap_model.specs.Events.{after_event, Run}
use Rattle.cap_model.specs.declared.event.Event.{Event}
use Rattle.cap_model.specs.declared.event.Event.TheVariants as event
use Rattle.cap_shared.specs.declared.entry.Entry.{Entry}
use Rattle.cap_shared.specs.declared.entry.Receipt.{Receipt}
use Rattle.cap_shared.specs.declared.entry.Receipt.TheVariants as receipt
use Rattle.cap_shared.specs.declared.history.NotedAnswer.{NotedAnswer}
use Rattle.cap_shared.specs.declared.history.NotedAnswer.TheVariants.{Rejected, SealedCall, SealedCommit, NoMemory, Copied}
use Rattle.cap_shared.specs.declared.history.Moment.{Moment}
use Rattle.cap_shared.specs.declared.history.Moment.TheVariants.{Entered, Noted}
use Rattle.cap_shared.specs.declared.history.Sitting.{Sitting}

abbrev pub events_in : List Entry → List (Event resources)
events_in entries = map (λ e. e.event) entries

-- the events of the entries lead from old to new, one step each
abbrev pub Replays : Flat resources → List Entry → Flat resources → Type 0
Replays old entries new = Run old (events_in entries) new

-- the cluster after these entries, one event after the other; where they lead to a cluster, it is this one
abbrev pub state_after : Flat resources → List Entry → Flat resources
state_after old [] = old
state_after old (e ∷ es) = state_after (after_event old e.event) es

-- the receipt for an event that is entered at a position
abbrev pub receipt_for : ℕ → Event resources → Receipt
receipt_for n (event.Call by request reply) = receipt.Call n request reply
receipt_for n (event.Grant container) = receipt.Commit n (event.Grant container)
receipt_for n (event.Reserve reservation) = receipt.Commit n (event.Reserve reservation)

-- the receipts for the entries of a seat, each with its position, counted from n
abbrev pub seat_entries : ℕ → ℕ → List Entry → List Receipt
seat_entries seat n [] = []
seat_entries seat n (e ∷ es) = if e.seat == seat then (receipt_for n e.event ∷ seat_entries seat (suc n) es) else (seat_entries seat (suc n) es)

-- the receipts among what a seat was answered
abbrev pub receipts_in : List Moment → List Receipt
receipts_in [] = []
receipts_in (Entered r ∷ ms) = r ∷ receipts_in ms
receipts_in (Noted es a ∷ ms) = receipts_in ms

abbrev pub position_of : Receipt → ℕ
position_of (receipt.Call n request reply) = n
position_of (receipt.Commit n event) = n

-- how long the journal was before a moment, and after it
abbrev pub start_of : Moment → ℕ
start_of (Entered r) = position_of r
start_of (Noted es a) = length es

abbrev pub end_of : Moment → ℕ
end_of (Entered r) = suc (position_of r)
end_of (Noted es a) = length es

-- how long the journal was after the last of these moments, n where there is none
abbrev pub end_after : ℕ → List Moment → ℕ
end_after n [] = n
end_after n (m ∷ ms) = end_after (end_of m) ms

-- the first moment found a journal of at least n entries, and each other one at least as long as the one before left it
abbrev pub Rises : ℕ → List Moment → Type 0
Rises n [] = Unit {0}
Rises n (m ∷ ms) = (n ≤ start_of m) × Rises (end_of m) ms

-- What an answer without an entry says of the cluster as it was after the entries of then: a proposal is rejected for that reason, or is
-- admissible; or it says that the journal was full.
abbrev pub NoteHolds : ℕ → List Entry → Flat resources → NotedAnswer → Type 0
NoteHolds limit es cluster (Rejected p reason) = reason_of (sight_of cluster) p ≡ Some reason
NoteHolds limit es cluster (SealedCall request) = length es ≡ limit
NoteHolds limit es cluster (SealedCommit p) = length es ≡ limit
NoteHolds limit es cluster (NoMemory p) = IsAdmissible (sight_of cluster) p
NoteHolds limit es cluster Copied = Unit {0}

-- the entries of each note lead from the opening to the state after them, of which the note holds
abbrev pub NotesHold : Flat resources → ℕ → List Moment → Type 0
NotesHold opening limit [] = Unit {0}
NotesHold opening limit (Entered r ∷ ms) = NotesHold opening limit ms
NotesHold opening limit (Noted es a ∷ ms) = Replays opening es (state_after opening es) × NoteHolds limit es (state_after opening es) a × NotesHold opening limit ms

-- a call is by the seat that made its entry
abbrev pub IsBy : ℕ → Event resources → Type 0
IsBy seat (event.Call by request reply) = by ≡ seat
IsBy seat (event.Grant container) = Unit {0}
IsBy seat (event.Reserve reservation) = Unit {0}

-- each entry is of a seat below n, and so is its call
abbrev pub TagsBelow : ℕ → List Entry → Type 0
TagsBelow n [] = Unit {0}
TagsBelow n (e ∷ es) = ((e.seat < n) × IsBy e.seat e.event) × TagsBelow n es

-- what each seat was answered stands in order of the journal, and its notes hold
abbrev pub AllHonest : Flat resources → ℕ → List Sitting → Type 0
AllHonest opening limit [] = Unit {0}
AllHonest opening limit (s ∷ ss) = (Rises 0 s.past × NotesHold opening limit s.past) × AllHonest opening limit ss
