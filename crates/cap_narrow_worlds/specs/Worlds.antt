-- Worlds in which nobody speaks of the third resource.
use Rattle.std.specs.Prelude.{◌≡◌, ℕ, List}
use Rattle.std.specs.List.{All}
use Rattle.cap_base.specs.Limits.{resources}
use Rattle.cap_model.specs.declared.request.Request.{Request}
use Rattle.cap_model.specs.declared.event.Event.{Event}
use Rattle.cap_frames.specs.Stream.{Tail, IsStream}
use Rattle.cap_grammar.specs.declared.head.Head.{Head}
use Rattle.cap_grammar.specs.Spelling.{IsRequest}
use Rattle.cap_narrow.specs.Gpus.{RaisesToNoGpu}
use Rattle.cap_world.specs.Hearing.{Attempt, Hearing, unopened, live, over, cut, Hears}

-- a payload that is a request of version 1, or none
abbrev pub IsNotOfVersion2 : List ℕ → Type 0
IsNotOfVersion2 payload = (head : Head) (request : Request resources) → IsRequest payload head request → head.version ≡ 1

-- no payload of these bytes is a request of version 2
abbrev pub HaveNoVersion2 : List ℕ → Type 0
HaveNoVersion2 bytes = (payloads : List (List ℕ)) (tail : Tail) → IsStream bytes payloads tail → All IsNotOfVersion2 payloads

-- none of what a connection heard is one
abbrev pub HeardNoVersion2 : Hearing → Type 0
HeardNoVersion2 unopened = Unit {0}
HeardNoVersion2 (live taken) = HaveNoVersion2 taken
HeardNoVersion2 (over taken) = HaveNoVersion2 taken
HeardNoVersion2 (cut taken) = HaveNoVersion2 taken

-- no connection hears a request of version 2 in these steps, those that were refused memory among them
abbrev pub HearNoVersion2 : List Attempt → Type 0
HearNoVersion2 attempts = (c : ℕ) (heard : Hearing) → Hears c attempts unopened heard → HeardNoVersion2 heard

-- a Refresh whose settings raise an ask to no GPU, or any other request
abbrev pub IsNoRaise : Request resources → Type 0
IsNoRaise (Request.Refresh text) = RaisesToNoGpu text
IsNoRaise other = Unit {0}

-- no Refresh among the events has settings that raise an ask to some GPU
abbrev pub RaisesNone : Event resources → Type 0
RaisesNone (Event.Call by request reply) = IsNoRaise request
RaisesNone other = Unit {0}
