-- What was read from payloads.
use Rattle.std.specs.Prelude.{◌≡◌, ℕ, ◌∷◌, List, [], Result, Ok, Err, map}
use Rattle.bytes.specs.Filled.{Filled}
use Rattle.cap_base.specs.Limits.{resources}
use Rattle.cap_model.specs.declared.request.Request.{Request}
use Rattle.cap_model.specs.declared.request.Request.TheVariants as requests
use Rattle.cap_grammar.specs.declared.head.Head.{Head}
use Rattle.cap_grammar.specs.declared.fault.MessageFault.{MessageFault}
use Rattle.cap_grammar.specs.declared.fault.MessageFault.TheVariants as message_faults
use Rattle.cap_grammar.specs.Spelling.{IsRequest, IsNoRequest, kind_of}
use Rattle.cap_session.specs.Session.{OpenRequest}
use Rattle.cap_session.specs.declared.asked.ReplyHead.{ReplyHead}

-- what was read from a payload
abbrev pub ReadResult : Type 0
ReadResult = Result (Head × Request resources) MessageFault

-- payloads with what was read from them
abbrev pub PayloadLog : Type 0
PayloadLog = List (Filled × ReadResult)

abbrev pub payloads_in : PayloadLog → List (List ℕ)
payloads_in payloads = map (λ e. e.0.items) payloads

-- this was read from a payload
abbrev pub IsReadFrom : List ℕ → ReadResult → Type 0
IsReadFrom payload (Ok x) = IsRequest payload x.0 x.1
IsReadFrom payload (Err message_faults.Bad) = IsNoRequest resources payload
IsReadFrom payload (Err message_faults.NoMemory) = Unit {0}

-- a log has one payload, from which this was read
pub record IsOpened (opened : PayloadLog) (read : ReadResult) : Type 0 where
  pub payload : Filled
  pub one : opened ≡ (payload, read) ∷ []
  pub reads : IsReadFrom payload.items read

-- the open request in a log with one payload
abbrev pub first_open : PayloadLog → OpenRequest
first_open ((p, Ok x) ∷ []) = record { payload = p.items; head = x.0; request = x.1 }
first_open opened = record { payload = []; head = record { version = 1; call_id = 0 }; request = requests.ClusterInfo }

-- a log has one payload, which is a request of this head and kind
pub record IsAsked (opened : PayloadLog) (head : ReplyHead) : Type 0 where
  pub request : Request resources
  pub opens : IsOpened opened (Ok (head.of_request, request))
  pub kind : head.kind ≡ kind_of request

-- this head, kind and log are of an open request
pub record HasParts (asked : OpenRequest) (head : ReplyHead) (opened : PayloadLog) : Type 0 where
  pub payload : Filled
  pub one : opened ≡ (payload, Ok (head.of_request, asked.request)) ∷ []
  pub payload_is : asked.payload ≡ payload.items
  pub head_is : asked.head ≡ head.of_request
  pub kind : head.kind ≡ kind_of asked.request
  pub reads : IsRequest asked.payload asked.head asked.request
