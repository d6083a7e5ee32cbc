-- What a connection is answered for its bytes, and its calls among the events.
use Rattle.std.specs.Prelude.{ℕ, List, ◌++◌, Option, Some, None, map, ◌==◌, if◌then◌else◌}
use Rattle.std.specs.List.{filter_map}
use Rattle.cap_model.specs.declared.request.Request.{Request}
use Rattle.cap_model.specs.News.{Reply}
use Rattle.cap_model.specs.declared.event.Event.{Event}
use Rattle.cap_frames.specs.Stream.{Tail, IsStream}
use Rattle.cap_session.specs.Answers.{Call, Answers, IsAnswered}

module _ {K : ℕ} where
  -- the output answers all payloads of the bytes, and their tail
  abbrev pub AnswersAll : List ℕ → Tail → List (Call K) → List ℕ → Type 0
  AnswersAll taken tail calls output = (payloads : List (List ℕ)) × IsStream taken payloads tail × IsAnswered payloads tail calls output

  -- the output answers a beginning of the payloads of the bytes, and no tail
  abbrev pub AnswersSome : List ℕ → List (Call K) → List ℕ → Type 0
  AnswersSome taken calls output = (payloads later : List (List ℕ)) × (tail : Tail) × IsStream taken (payloads ++ later) tail × Answers payloads calls output

  abbrev pub call_event : ℕ → Request K → Reply K → Event K
  call_event by request reply = Event.Call by request reply

  -- the calls as events of the connection
  abbrev pub as_events : ℕ → List (Call K) → List (Event K)
  as_events by calls = map (λ call. call_event by call.request call.reply) calls

  -- the call of an event, where it is the connection's
  abbrev pub call_by : ℕ → Event K → Option (Call K)
  call_by c (Event.Call by request reply) = if by == c then Some (record { request = request; reply = reply }) else None
  call_by c (Event.Grant container) = None
  call_by c (Event.Reserve reservation) = None

  -- the connection's calls among the events, in order
  abbrev pub calls_by : ℕ → List (Event K) → List (Call K)
  calls_by c events = filter_map (call_by c) events
