-- The lines of an audit file.
use Rattle.std.specs.Prelude.{ℕ, List, [], ◌∷◌, ◌++◌, length, codes, decimal}
use Rattle.std.specs.List.{flat_map}
use Rattle.hex.specs.Hex.{encode_lower}
use Rattle.cap_vector.specs.Vector.{amount}
use Rattle.cap_base.specs.Limits.{resources}
use Rattle.cap_model.specs.Flat.{Container, Reservation}
use Rattle.cap_model.specs.News.{Reply}
use Rattle.cap_model.specs.declared.event.Event.{Event}
use Rattle.cap_model.specs.declared.event.Event.TheVariants as event
use Rattle.cap_model.specs.declared.request.Request.{Request}
use Rattle.cap_grammar.specs.declared.head.Head.{Head}
use Rattle.cap_grammar.specs.Spelling.{kind_of, request_bytes, reply_bytes}

-- the head of all messages there
abbrev pub head : Head
head = record { version = 2; call_id = 0 }

-- numbers in decimal, a blank before each
abbrev pub blanked : List ℕ → List ℕ
blanked numbers = flat_map (λ n. 32 ∷ decimal n) numbers

-- a property line of the settings
abbrev pub property_words : List ℕ → List ℕ
property_words property = codes "conf " ++ property

-- an epoch of this number begins, and one of so many entries ends
abbrev pub epoch_words : ℕ → List ℕ
epoch_words number = codes "epoch" ++ blanked (number ∷ [])

abbrev pub closed_words : ℕ → List ℕ
closed_words entries = codes "closed" ++ blanked (entries ∷ [])

-- a blank, and a message in hexadecimal
abbrev pub message_words : List ℕ → List ℕ
message_words bytes = 32 ∷ encode_lower bytes

-- a call of a connection, and its reply
abbrev pub call_words : ℕ → Request resources → Reply resources → List ℕ
call_words by request reply = codes "call" ++ blanked (by ∷ []) ++ message_words (request_bytes head request) ++ message_words (reply_bytes head (kind_of request) reply)

-- amounts of memory, vcores and GPUs
abbrev pub amounts : List ℕ → List ℕ
amounts v = amount v 0 ∷ amount v 1 ∷ amount v 2 ∷ []

-- a grant, and a reservation
abbrev pub grant_words : Container → List ℕ
grant_words c = codes "grant" ++ blanked (c.number ∷ c.app ∷ c.key.priority ∷ c.key.request ∷ c.node ∷ amounts c.resource)

abbrev pub reserve_words : Reservation → List ℕ
reserve_words r = codes "reserve" ++ blanked (r.app ∷ r.key.priority ∷ r.key.request ∷ r.node ∷ amounts r.resource)

-- an event
abbrev pub event_words : Event resources → List ℕ
event_words (event.Call by request reply) = call_words by request reply
event_words (event.Grant container) = grant_words container
event_words (event.Reserve reservation) = reserve_words reservation

-- a line with its end
abbrev pub ended : List ℕ → List ℕ
ended words = words ++ 10 ∷ []

-- an epoch of this number and of these events
abbrev pub epoch_text : ℕ → List (Event resources) → List ℕ
epoch_text number events = ended (epoch_words number) ++ flat_map (λ e. ended (event_words e)) events ++ ended (closed_words (length events))
