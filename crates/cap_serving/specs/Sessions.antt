-- What serving a session does.
use Rattle.std.specs.Prelude.{◌≡◌, ◌⊎◌, ℕ, ◌+◌, List, [], ◌∷◌, ◌++◌, length, Option, Some, None, false}
use Rattle.std.specs.Io.KnownBytes.{Appends, Consumes}
use Rattle.cap_base.specs.Limits.{resources}
use Rattle.cap_model.specs.declared.request.Request.{Request}
use Rattle.cap_model.specs.declared.reply.ReplyWith.TheVariants as reply
use Rattle.cap_model.specs.declared.refusal.Refusal.TheVariants as refusal
use Rattle.cap_model.specs.Events.{is_no_memory}
use Rattle.cap_frames.specs.Stream.{rest, fault, IsStream}
use Rattle.cap_session.specs.Answers.{Call, tail_answer}
use Rattle.cap_session.specs.Counted.{StreamState, one_failure, one_quiet, one_end}
use Rattle.cap_session.specs.Session.{SessionState, open_requests, Continues}
use Rattle.cap_session.specs.declared.session.SessionCause.TheVariants as causes
use Rattle.cap_session.specs.declared.counted.Sent.{Sent}
use Rattle.cap_session.specs.declared.counted.Sent.TheVariants as sents
use Rattle.cap_shared.specs.Calls.{HasMore}
use Rattle.cap_shared.specs.declared.entry.Entry.{Entry}
use Rattle.cap_shared.specs.declared.entry.Receipt.TheVariants as receipt
use Rattle.cap_shared.specs.declared.history.NotedAnswer.TheVariants as answer
use Rattle.cap_shared.specs.declared.history.Moment.{Moment}
use Rattle.cap_shared.specs.declared.history.Moment.TheVariants.{Entered, Noted}
use Rattle.cap_shared.specs.declared.history.Sitting.{Sitting}
use Rattle.cap_serving.specs.declared.sessions.EndCause.{EndCause}
use Rattle.cap_serving.specs.declared.sessions.EndCause.TheVariants as ends
use Rattle.cap_serving.specs.declared.sessions.Pause.{Pause}
use Rattle.cap_serving.specs.declared.sessions.Pause.TheVariants as pauses

-- ---- what was answered

-- The calls are, in order, the receipts, none of which says that no memory was found; a call that is answered so has no receipt.
pub data HaveReceipts : List (Call resources) → List Moment → Type 0 where
  none_made : HaveReceipts [] []
  made : {call : Call resources} {calls : List (Call resources)} {moments : List Moment} {at : ℕ} → is_no_memory call.reply ≡ false → HaveReceipts calls moments → HaveReceipts (call ∷ calls) (Entered (receipt.Call at call.request call.reply) ∷ moments)
  starved : {request : Request resources} {calls : List (Call resources)} {moments : List Moment} → HaveReceipts calls moments → HaveReceipts (record { request = request; reply = reply.Refused refusal.NoMemory } ∷ calls) moments

-- Some of the payloads that were not answered yet were, by calls of the seat, and last came these bytes. The seat has a receipt for each of these
-- calls that found memory, and was answered nothing else but the note.
pub record Serves (old new : SessionState) (before after : Sitting) (last : List ℕ) (note : List Moment) : Type 0 where
  pub more : List ℕ
  pub calls : List (Call resources)
  pub moments : List Moment
  pub continues : Continues old new more calls last
  pub receipts : HaveReceipts calls moments
  pub seat : HasMore before after (moments ++ note)

-- all payloads are answered, less than a frame is left, and the session goes on
pub record IsAtRest (s : SessionState) : Type 0 where
  pub left : List ℕ
  pub stream : IsStream s.fed s.answered (rest left)
  pub none_open : s.opens ≡ []
  pub goes_on : s.ended ≡ None

-- all payloads were answered
pub record ServesAll (old new : SessionState) (before after : Sitting) : Type 0 where
  pub serves : Serves old new before after [] []
  pub at_rest : IsAtRest new

-- all payloads were answered, and then a length that no frame has
pub record ServesToFault (old new : SessionState) (before after : Sitting) : Type 0 where
  pub left : List ℕ
  pub stream : IsStream new.fed new.answered (fault left)
  pub serves : Serves old new before after (tail_answer (fault left)) []

-- all payloads before the open request were answered, for which the journal was full; the session goes on
pub record IsSealed (limit : ℕ) (request : Request resources) (old new : SessionState) (before after : Sitting) : Type 0 where
  pub entries : List Entry
  pub full : length entries ≡ limit
  pub serves : Serves old new before after [] (Noted entries (answer.SealedCall request) ∷ [])
  pub waits : open_requests new.opens ≡ request ∷ []
  pub goes_on : new.ended ≡ None

-- all payloads were answered before a request for which the journal was full
abbrev pub ServesToFull : ℕ → SessionState → SessionState → Sitting → Sitting → Type 0
ServesToFull limit old new before after =
    (request : Request resources) × (entries : List Entry) × (length entries ≡ limit) × Serves old new before after [] (Noted entries (answer.SealedCall request) ∷ [])

-- What serving a session answered, by the cause of its end.
abbrev pub IsServed : ℕ → SessionState → SessionState → Sitting → Sitting → EndCause → Type 0
IsServed limit old new before after ends.InputEnded = ServesAll old new before after
IsServed limit old new before after ends.Quiet = ServesAll old new before after
IsServed limit old new before after ends.ReadFault = ServesAll old new before after
IsServed limit old new before after ends.WriteFault = Serves old new before after [] [] ⊎ (ServesToFault old new before after ⊎ ServesToFull limit old new before after)
IsServed limit old new before after ends.Faulted = ServesToFault old new before after
IsServed limit old new before after (ends.Sealed request) = IsSealed limit request old new before after
IsServed limit old new before after ends.NoMemory = Serves old new before after [] []

-- a round of serving: the session is served on, or it was served so
abbrev pub IsRound : ℕ → SessionState → SessionState → Sitting → Sitting → Option EndCause → Type 0
IsRound limit old new before after None = Serves old new before after [] [] × (new.opens ≡ []) × (new.ended ≡ None)
IsRound limit old new before after (Some cause) = IsServed limit old new before after cause

-- the answers to all that was fed
abbrev pub IsPause : ℕ → SessionState → SessionState → Sitting → Sitting → Pause → Type 0
IsPause limit old new before after pauses.Need = ServesAll old new before after
IsPause limit old new before after (pauses.Sealed request) = IsSealed limit request old new before after
IsPause limit old new before after (pauses.Ended causes.BadLength) = ServesToFault old new before after
IsPause limit old new before after (pauses.Ended causes.NoMemory) = Serves old new before after [] []
IsPause limit old new before after (pauses.Ended causes.WriteFault) = ⊥

-- ---- what was read

-- after so many reads that gave these bytes
abbrev pub after_reads : StreamState → ℕ → List ℕ → StreamState
after_reads s count bytes = record s { reads = s.reads + count; given = s.given ++ bytes }

-- what a reader counted at an end
abbrev pub reader_at : Option EndCause → StreamState → StreamState
reader_at None s = s
reader_at (Some ends.InputEnded) s = one_end s
reader_at (Some ends.Quiet) s = one_quiet s
reader_at (Some ends.ReadFault) s = one_failure s
reader_at (Some ends.WriteFault) s = s
reader_at (Some ends.Faulted) s = s
reader_at (Some (ends.Sealed request)) s = s
reader_at (Some ends.NoMemory) s = s

-- bytes that were read and not fed: only where memory was refused for them
abbrev pub IsLost : Option EndCause → List ℕ → Type 0
IsLost None lost = lost ≡ []
IsLost (Some ends.InputEnded) lost = lost ≡ []
IsLost (Some ends.Quiet) lost = lost ≡ []
IsLost (Some ends.ReadFault) lost = lost ≡ []
IsLost (Some ends.WriteFault) lost = lost ≡ []
IsLost (Some ends.Faulted) lost = lost ≡ []
IsLost (Some (ends.Sealed request)) lost = lost ≡ []
IsLost (Some ends.NoMemory) lost = Unit {0}

-- The bytes that were fed are those that the reader gave; it found its end, was quiet or failed exactly where that is the cause of the end.
pub record IsRead (end : Option EndCause) (old new : StreamState) (left rest : Option (List ℕ)) (before after : List ℕ) : Type 0 where
  pub reads : ℕ
  pub more : List ℕ
  pub lost : List ℕ
  pub state : new ≡ reader_at end (after_reads old reads (more ++ lost))
  pub consumes : Consumes left rest (more ++ lost)
  pub fed : after ≡ before ++ more
  pub is_lost : IsLost end lost

-- ---- what was written

-- what a writer counted at an end
abbrev pub writer_at : Option EndCause → StreamState → StreamState
writer_at None s = s
writer_at (Some ends.InputEnded) s = s
writer_at (Some ends.Quiet) s = s
writer_at (Some ends.ReadFault) s = s
writer_at (Some ends.WriteFault) s = one_failure s
writer_at (Some ends.Faulted) s = s
writer_at (Some (ends.Sealed request)) s = s
writer_at (Some ends.NoMemory) s = s

-- The bytes that the writer took are those that went out of the session; it failed exactly where that is the cause of the end.
pub record IsWritten (end : Option EndCause) (old new : StreamState) (had has : Option (List ℕ)) (before after out : List ℕ) : Type 0 where
  pub state : new ≡ writer_at end (record old { taken = old.taken ++ out })
  pub appends : Appends had has out
  pub sent : after ≡ before ++ out

-- all that was answered went out, unless the writer failed or the session is served on
abbrev pub IsWrittenOut : Option EndCause → List ℕ → Type 0
IsWrittenOut None unsent = Unit {0}
IsWrittenOut (Some ends.InputEnded) unsent = unsent ≡ []
IsWrittenOut (Some ends.Quiet) unsent = unsent ≡ []
IsWrittenOut (Some ends.ReadFault) unsent = unsent ≡ []
IsWrittenOut (Some ends.WriteFault) unsent = Unit {0}
IsWrittenOut (Some ends.Faulted) unsent = unsent ≡ []
IsWrittenOut (Some (ends.Sealed request)) unsent = unsent ≡ []
IsWrittenOut (Some ends.NoMemory) unsent = unsent ≡ []

-- ---- the steps of a round

-- this cause, or that the writer failed
abbrev pub end_of : EndCause → Sent → EndCause
end_of cause (sents.All n) = cause
end_of cause (sents.Fault n) = ends.WriteFault

-- one read, and what came was fed
abbrev pub ReadsOn : SessionState → SessionState → Option EndCause → Type 0
ReadsOn old new None = new ≡ record old { fed = new.fed }
ReadsOn old new (Some ends.InputEnded) = new ≡ old
ReadsOn old new (Some ends.Quiet) = new ≡ old
ReadsOn old new (Some ends.ReadFault) = new ≡ old
ReadsOn old new (Some ends.NoMemory) = new ≡ record old { ended = Some causes.NoMemory }
ReadsOn old new (Some ends.WriteFault) = ⊥
ReadsOn old new (Some ends.Faulted) = ⊥
ReadsOn old new (Some (ends.Sealed request)) = ⊥

-- after a write: one read, unless the writer failed
abbrev pub GoesOn : Sent → SessionState → SessionState → Option EndCause → Type 0
GoesOn (sents.All n) old new end = ReadsOn old new end
GoesOn (sents.Fault n) old new end = (new ≡ old) × (end ≡ Some ends.WriteFault)
