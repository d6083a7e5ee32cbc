-- What answering requests does, and what feeding a connection does.
use Rattle.std.specs.Prelude.{◌≡◌, ◌≢◌, ◌⊎◌, ℕ, List, [], ◌∷◌, ◌++◌, Some, None}
use Rattle.cap_base.specs.Limits.{resources}
use Rattle.cap_model.specs.declared.request.Request.{Request}
use Rattle.cap_model.specs.declared.event.Event.{Event}
use Rattle.cap_model.specs.Flat.{Flat}
use Rattle.cap_model.specs.Events.{Run}
use Rattle.cap_frames.specs.Stream.{rest, fault, IsStream, IsBytes}
use Rattle.cap_session.specs.declared.session.SessionCause.{SessionCause}
use Rattle.cap_session.specs.declared.session.SessionCause.TheVariants as causes
use Rattle.cap_session.specs.Answers.{Call, tail_answer}
use Rattle.cap_session.specs.Session.{SessionState, OpenRequest, Continues, IsSession}
use Rattle.cap_world.specs.declared.connection.Standing.{Standing}
use Rattle.cap_world.specs.declared.connection.Standing.TheVariants as standings
use Rattle.cap_world.specs.Answers.{as_events}
use Rattle.cap_world.specs.Connection.{Connection}

-- this request is the first that is open
abbrev pub IsOpenFor : Request resources → List OpenRequest → Type 0
IsOpenFor request [] = ⊥
IsOpenFor request (o ∷ opens) = o.request ≡ request

-- how a connection stands whose session has ended
abbrev pub standing_of : SessionCause → Standing
standing_of causes.BadLength = standings.Faulted
standing_of causes.NoMemory = standings.Starved
standing_of causes.WriteFault = standings.Starved

-- What it did to feed these bytes to a session and answer requests of it: one call a request, the calls as events of the connection, the
-- cluster's run over them, and last these bytes, which answer no payload.
pub record Serves (by : ℕ) (more : List ℕ) (old new : SessionState) (from to : Flat resources) (before after : List (Event resources)) (last : List ℕ) : Type 0 where
  pub calls : List (Call resources)
  pub continues : Continues old new more calls last
  pub events : after ≡ before ++ as_events by calls
  pub run : Run from (as_events by calls) to

-- How the session is where a connection stands so, and what was answered last: it waits for more of a frame, or a length came that no frame
-- has, or memory was refused.
abbrev pub StandsAfter : Standing → SessionState → List ℕ → Type 0
StandsAfter standings.Open s last = (s.ended ≡ None) × (s.opens ≡ []) × (last ≡ []) × ((left : List ℕ) × IsStream s.fed s.answered (rest left))
StandsAfter standings.Faulted s last = (s.ended ≡ Some causes.BadLength) × (last ≡ tail_answer (fault []))
StandsAfter standings.Starved s last = (s.ended ≢ Some causes.BadLength) × (last ≡ [])
StandsAfter standings.Ended s last = ⊥

-- the requests of a session were answered, as far as they came, and its connection stands so then
pub record IsServed (by : ℕ) (standing : Standing) (old new : SessionState) (from to : Flat resources) (before after : List (Event resources)) : Type 0 where
  pub last : List ℕ
  pub serves : Serves by [] old new from to before after last
  pub stands : StandsAfter standing new last
  pub session : IsSession new
  pub sent : new.sent ≡ old.sent

-- What a piece did to an open connection: all of it was taken, or none of it for want of memory, and the requests that it completed were
-- answered.
pub record Feeds (by : ℕ) (piece : List ℕ) (from to : Flat resources) (before after : List (Event resources)) (old new : Connection) : Type 0 where
  pub more : List ℕ
  pub last : List ℕ
  pub fits : IsBytes piece
  pub taken : (more ≡ piece) ⊎ ((more ≡ []) × (new.standing ≡ standings.Starved))
  pub serves : Serves by more old.session new.session from to before after last
  pub stands : StandsAfter new.standing new.session last
  pub session : IsSession new.session
  pub sent : new.session.sent ≡ []
