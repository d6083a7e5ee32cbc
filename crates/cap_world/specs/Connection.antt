-- A connection, as far as anybody can see it.
use Rattle.std.specs.Prelude.{◌≡◌, ℕ, List, [], Bool, true, false, None}
use Rattle.cap_base.specs.Limits.{resources}
use Rattle.cap_frames.specs.Stream.{rest, fault}
use Rattle.cap_session.specs.Answers.{Call}
use Rattle.cap_session.specs.Session.{SessionState, new_session}
use Rattle.cap_world.specs.declared.connection.Standing.{Standing}
use Rattle.cap_world.specs.declared.connection.Standing.TheVariants as standings
use Rattle.cap_world.specs.Answers.{AnswersAll, AnswersSome}

-- how it stands, and its session: the bytes of the pieces that it took are those that the session was fed, and all that it was answered is unsent
pub record Connection : Type 0 where
  pub standing : Standing
  pub session : SessionState

-- a connection that was opened just now
abbrev pub new_connection : Connection
new_connection = record { standing = standings.Open; session = new_session }

abbrev pub is_open_standing : Standing → Bool
is_open_standing standings.Open = true
is_open_standing standings.Ended = false
is_open_standing standings.Faulted = false
is_open_standing standings.Starved = false

module _ {K : ℕ} where
  -- What the calls answered for the bytes that a connection took, by how it stands: all payloads, with less than a frame left, while it is
  -- open and after its end; all of them and the fault where a length came that no frame has; a beginning where memory was refused.
  abbrev pub AnswersAs : Standing → List ℕ → List (Call K) → List ℕ → Type 0
  AnswersAs standings.Open taken calls output = (left : List ℕ) × AnswersAll taken (rest left) calls output
  AnswersAs standings.Ended taken calls output = (left : List ℕ) × AnswersAll taken (rest left) calls output
  AnswersAs standings.Faulted taken calls output = (after : List ℕ) × AnswersAll taken (fault after) calls output
  AnswersAs standings.Starved taken calls output = AnswersSome taken calls output

-- the calls are those of its session, and answered the connection so
pub record HasAnswers (calls : List (Call resources)) (connection : Connection) : Type 0 where
  pub made : connection.session.calls ≡ calls
  pub answers : AnswersAs connection.standing connection.session.fed calls connection.session.unsent

-- nothing is written out, and an open connection waits for bytes
pub record WritesNothingOut (standing : Standing) (session : SessionState) : Type 0 where
  pub sent : session.sent ≡ []
  pub ended : standing ≡ standings.Open → session.ended ≡ None
  pub none_open : standing ≡ standings.Open → session.opens ≡ []
