-- The calls of each connection among events without the third resource, and what they ask for.
use Rattle.cap_narrow_worlds.proofs.Prelude.{◌≡◌, ℕ, Bool, true, false, List, [], ◌∷◌, refl, ap, Some, None, ◌==◌, map, if◌then◌else◌, All, cons_option, eq-eqb, All-nil, All-cons, All-head, All-tail, resources, Request, Event, Call, calls_by, narrow_request, narrow_reply, narrow_event, AsksNone, EventAsksNone, CallsAskNone, refreshes_ask_none, IsNoRaise, RaisesNone}
use Rattle.cap_narrow_worlds.proofs.Spelled.{SpellsNone}

-- a call without the third resource
abbrev pub narrow_call : Call resources → Call 2
narrow_call call = record { request = narrow_request {K = 2} call.request; reply = narrow_reply {K = 2} call.reply }

-- a call spells none of it
abbrev pub CallSpellsNone : Call resources → Type 0
CallSpellsNone call = SpellsNone call.request

-- such a call asks for none of it, if it is no Refresh that raises an ask
asks_none : (request : Request resources) → SpellsNone request → IsNoRaise request → AsksNone {K = 2} request
asks_none (Request.Allocate app id asks releases) spells raises = spells
asks_none (Request.RegisterNode host rack total) spells raises = spells
asks_none (Request.Refresh text) spells raises = refreshes_ask_none text raises
asks_none _ spells raises = tt

-- the calls of a connection, without it
pub calls_narrow : (c : ℕ) (events : List (Event resources)) → calls_by c (map (narrow_event {K = 2}) events) ≡ map narrow_call (calls_by c events)
calls_narrow c [] = refl
calls_narrow c (Event.Call by request reply ∷ events) = one (by == c) (calls_narrow c events)
  where
    call : Call resources
    call = record { request = request; reply = reply }

    one : (b : Bool) → calls_by c (map (narrow_event {K = 2}) events) ≡ map narrow_call (calls_by c events) →
        cons_option (if b then Some (narrow_call call) else None) (calls_by c (map (narrow_event {K = 2}) events)) ≡ map narrow_call (cons_option (if b then Some call else None) (calls_by c events))
    one true rest = ap (λ (calls : List (Call 2)). narrow_call call ∷ calls) rest
    one false rest = rest
calls_narrow c (Event.Grant container ∷ events) = calls_narrow c events
calls_narrow c (Event.Reserve reservation ∷ events) = calls_narrow c events

-- of the calls of a connection the first, where it is there, and the others
first_of : (P : Call resources → Type 0) (b : Bool) (call : Call resources) (calls : List (Call resources)) → b ≡ true → All P (cons_option (if b then Some call else None) calls) → P call
first_of P true call calls is all = All-head P call calls all
first_of P false call calls is all = absurd (cc is)

others_of : (P : Call resources → Type 0) (b : Bool) (call : Call resources) (calls : List (Call resources)) → All P (cons_option (if b then Some call else None) calls) → All P calls
others_of P true call calls all = All-tail P call calls all
others_of P false call calls all = all

-- events ask for none of it where no connection's calls spell any and no Refresh raises an ask
pub events_ask_none : (events : List (Event resources)) → ((c : ℕ) → All CallSpellsNone (calls_by c events)) → All RaisesNone events → CallsAskNone {K = 2} events
events_ask_none [] each raise = All-nil (EventAsksNone {K = 2})
events_ask_none (Event.Call by request reply ∷ events) each raise =
    All-cons (EventAsksNone {K = 2}) (Event.Call by request reply) events
    (asks_none request (first_of CallSpellsNone (by == by) call (calls_by by events) (eq-eqb by by refl) (each by)) (All-head RaisesNone (Event.Call by request reply) events raise))
    (events_ask_none events (λ c. others_of CallSpellsNone (by == c) call (calls_by c events) (each c)) (All-tail RaisesNone (Event.Call by request reply) events raise))
  where
    call : Call resources
    call = record { request = request; reply = reply }
events_ask_none (Event.Grant container ∷ events) each raise =
    All-cons (EventAsksNone {K = 2}) (Event.Grant container) events tt (events_ask_none events each (All-tail RaisesNone (Event.Grant container) events raise))
events_ask_none (Event.Reserve reservation ∷ events) each raise =
    All-cons (EventAsksNone {K = 2}) (Event.Reserve reservation) events tt (events_ask_none events each (All-tail RaisesNone (Event.Reserve reservation) events raise))
