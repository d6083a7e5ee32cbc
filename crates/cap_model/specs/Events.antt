-- Events of the whole cluster, its steps and runs, and what was ever granted and ended.
use Rattle.std.specs.Prelude.{◌≡◌, ℕ, ◌+◌, ◌-◌, Bool, not, List, [], ◌∷◌, ◌++◌, filter, map, option_map, unwrap_or, flat_map, ◌==◌, if◌then◌else◌}
use Rattle.cap_model.specs.declared.ask.Key.{Key}
use Rattle.cap_model.specs.Asks.{same_key, Ask}
use Rattle.cap_model.specs.News.{Grant, Reply}
use Rattle.cap_model.specs.declared.reply.ReplyWith.TheVariants as Reply
use Rattle.cap_model.specs.declared.refusal.Refusal.{Refusal}
use Rattle.cap_model.specs.Flat.{Flat, Container, NodeTable, Reservation, node_at, with_app, with_reserved}
use Rattle.cap_model.specs.Ending.{is_among}
use Rattle.cap_model.specs.Sight.{sight_of}
use Rattle.cap_model.specs.Admission.{NodeProposal, IsAdmissible}
use Rattle.cap_model.specs.declared.proposal.ProposalKind.{ProposalKind}
use Rattle.cap_model.specs.Replies.{Replies, after_request}
use Rattle.cap_model.specs.declared.event.Event.{Event}

-- the proposals that an event of a grant or of a reservation came from
abbrev pub grant_proposal : Container → NodeProposal
grant_proposal c = record { kind = ProposalKind.Grant; app = c.app; key = c.key; node = c.node; resource = c.resource }

abbrev pub reserve_proposal : Reservation → NodeProposal
reserve_proposal r = record { kind = ProposalKind.Reserve; app = r.app; key = r.key; node = r.node; resource = r.resource }

-- the asks with one container less to want under a key; an ask that comes to 0 goes
abbrev pub take_one : Key → List Ask → List Ask
take_one key asks = filter (λ ask. not (ask.count == 0)) (map (λ (ask : Ask). if same_key ask.key key then record ask { count = ask.count - 1 } else ask) asks)

-- the table with one more live container, whose number is the next
abbrev pub launch : Container → NodeTable → NodeTable
launch c table = record table { live = table.live ++ c ∷ []; next_container = table.next_container + 1 }

-- the table with one more reservation, the last
abbrev pub add_reservation : Reservation → NodeTable → NodeTable
add_reservation r table = record table { reserved = table.reserved ++ r ∷ [] }

module _ {K : ℕ} where
  -- whether a reply says that no memory was found, so that the cluster is the same
  abbrev pub is_no_memory : Reply K → Bool
  is_no_memory (Reply.Refused Refusal.NoMemory) = Bool.true
  is_no_memory _ = Bool.false

  -- the containers that an event granted
  abbrev pub granted_by : Event K → List Container
  granted_by (Event.Grant c) = c ∷ []
  granted_by (Event.Call by request reply) = []
  granted_by (Event.Reserve r) = []

  -- the containers that a run granted
  abbrev pub ever_granted : List (Event K) → List Container
  ever_granted events = flat_map granted_by events

  -- a granted container as its application is to be told of it
  abbrev pub news_of : Flat K → Container → Grant
  news_of cluster c = record {
    container = c.number;
    key = c.key;
    node = c.node;
    host = unwrap_or (option_map (λ node. node.host) (node_at cluster c.node)) [];
    resource = c.resource;
  }

  -- A granted container takes the next number and becomes live; its ask falls by one, the reservation that it replaces goes,
  -- and the grant is added to those not yet told.
  abbrev pub after_grant : Flat K → Container → Flat K
  after_grant cluster c =
      let told = with_app c.app (λ app. record app { asks = take_one c.key app.asks; grants = app.grants ++ news_of cluster c ∷ [] }) cluster in
      let unreserved = with_reserved (filter (λ r. not (r.node == c.node)) told.nodes.reserved) told in
      record unreserved { nodes = launch c unreserved.nodes }

  -- a reservation is added last
  abbrev pub after_reserve : Flat K → Reservation → Flat K
  after_reserve cluster r = record cluster { nodes = add_reservation r cluster.nodes }

  -- One step of the cluster: a call that is answered by the reply function, or an admissible grant of the next container number,
  -- or an admissible reservation.
  abbrev pub Step : Flat K → Event K → Flat K → Type 0
  Step old (Event.Call by request reply) new = Replies old request reply new
  Step old (Event.Grant c) new =
      IsAdmissible (sight_of old) (grant_proposal c) × (c.number ≡ old.nodes.next_container) × (new ≡ after_grant old c)
  Step old (Event.Reserve r) new = IsAdmissible (sight_of old) (reserve_proposal r) × (new ≡ after_reserve old r)

  -- a run: the events lead from old to new, one step each
  abbrev pub Run : Flat K → List (Event K) → Flat K → Type 0
  Run old [] new = old ≡ new
  Run old (event ∷ events) new = (mid : Flat K) × Step old event mid × Run mid events new

  -- the cluster after an event that could be
  abbrev pub after_event : Flat K → Event K → Flat K
  after_event old (Event.Call by request reply) = if is_no_memory reply then old else after_request old request
  after_event old (Event.Grant c) = after_grant old c
  after_event old (Event.Reserve r) = after_reserve old r

  -- the containers that were live before and are not after
  abbrev pub ended_between : Flat K → Flat K → List Container
  ended_between old new = filter (λ c. not (is_among new.nodes.live c)) old.nodes.live

  -- the containers that a run ended, event by event
  abbrev pub ever_ended : Flat K → List (Event K) → List Container
  ever_ended old [] = []
  ever_ended old (event ∷ events) = ended_between old (after_event old event) ++ ever_ended (after_event old event) events
