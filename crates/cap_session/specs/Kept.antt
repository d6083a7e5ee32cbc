-- What the parts of a session keep.
use Rattle.std.specs.Prelude.{◌≡◌, ℕ, ◌-◌, ◌≤◌, List, [], ◌∷◌, ◌++◌, length, Some, None, Ok, All, flat_map, take}
use Rattle.bytes.specs.Filled.{Filled}
use Rattle.http_server.specs.declared.log.Log.{Log}
use Rattle.cap_base.specs.Limits.{resources}
use Rattle.cap_model.specs.News.{Reply}
use Rattle.cap_frames.specs.History.{IsReading}
use Rattle.cap_grammar.specs.Spelling.{IsRequest}
use Rattle.cap_session.specs.Answers.{Call}
use Rattle.cap_session.specs.Asked.{ReadResult, PayloadLog, payloads_in}
use Rattle.cap_session.specs.Session.{SessionState, OpenRequest, open_payloads, open_requests, HasAnswered}
use Rattle.cap_session.specs.declared.session.SessionCause.TheVariants as causes
use Rattle.cap_session.specs.declared.session.Session.TheInside.{Inside}
use Rattle.cap_session.specs.Rooms.{rooms}

abbrev pub ReplyLog : Type 0
ReplyLog = List (Reply resources × Unit {0})

-- payloads that were answered, with the reply to each that is a request
abbrev pub AnswerLog : Type 0
AnswerLog = List (Log Filled ReadResult × Log (Reply resources) (Unit {0}))

-- the call of a request with a reply
abbrev pub calls_in : PayloadLog → ReplyLog → List (Call resources)
calls_in ((p, Ok x) ∷ []) ((r, u) ∷ []) = record { request = x.1; reply = r } ∷ []
calls_in payloads replies = []

abbrev pub answered_in : AnswerLog → List (List ℕ)
answered_in log = flat_map (λ e. payloads_in e.0.items) log

abbrev pub calls_of : AnswerLog → List (Call resources)
calls_of log = flat_map (λ e. calls_in e.0.items e.1.items) log

-- of the requests that were read and are not answered, those that were handed out
abbrev pub opens_in : Inside → List OpenRequest
opens_in s = take (length s.asked.items - length s.ahead.items) s.asked.items

-- each entry is a buffer before some of its first bytes were written out, and their number
abbrev pub sent_in : List (Filled × ℕ) → List ℕ
sent_in log = flat_map (λ e. take e.1 e.0.items) log

abbrev pub state_inside : Inside → SessionState
state_inside s = record { fed = s.framer.fed; answered = answered_in s.answered.items; opens = opens_in s; calls = calls_of s.answered.items; sent = sent_in s.sent.items; unsent = s.unsent.items; ended = s.ended }

-- its payload spells it
abbrev pub IsRead : OpenRequest → Type 0
IsRead o = IsRequest o.payload o.head o.request

-- The payloads that were given were answered, but for those of the requests that were read, and for one that was lost for want of memory.
pub record IsKept (s : Inside) : Type 0 where
  pub later : List OpenRequest
  pub asked : s.asked.items ≡ opens_in s ++ later
  pub ahead : s.ahead.items ≡ open_requests later
  pub read : All IsRead later
  pub lost : List (List ℕ)
  pub given : s.framer.given ≡ answered_in s.answered.items ++ (open_payloads s.asked.items ++ lost)
  pub reading : IsReading s.framer
  pub none_lost : s.ended ≡ None → lost ≡ []
  pub room : rooms s.asked.items ≤ s.unsent.spare
  pub answers : HasAnswered (state_inside s)
  pub none_open : s.ended ≡ Some causes.BadLength → s.asked.items ≡ []
