use Rattle.cap_choice.proofs.Prelude.{◌∙◌, ◌≡◌, sym, ap, Option, Some, None, unwrap_or, option_map, option_and_then, Reservation, NodeSight, Ask, ask_at, seen_app, slice_get, Grant}
use Rattle.std.specs.Borrow.{Bor}
use Rattle.cap_choice.proofs.Converting.{granted_there, none_for, refused_there}
use Rattle.cap_choice.proofs.Passing.{node_is}
use Rattle.cap_choice.proofs.Reading.{read}
use Rattle.cap_choice.proofs.choice.conversion.Goals as goal

-- the reservation that was read is the node's
holds : (nodes : Option NodeSight) (node : NodeSight) (result : Option Reservation) (r : Reservation) → result ≡ option_and_then (λ (n : NodeSight). n.reservation) nodes → result ≡ Some r → nodes ≡ Some node → node.reservation ≡ Some r
holds nodes node result r e is at = sym (ap (option_and_then (λ (n : NodeSight). n.reservation)) at) ∙ sym e ∙ is

none_read : (o : Option (Bor Ask)) (x : Option Ask) → option_map (λ (b : Bor Ask). b.now) o ≡ x → o ≡ None → x ≡ None
none_read o x e is = sym e ∙ ap (option_map (λ (b : Bor Ask). b.now)) is

some_read : (o : Option (Bor Ask)) (x : Option Ask) (b : Bor Ask) → option_map (λ (c : Bor Ask). c.now) o ≡ x → o ≡ Some b → x ≡ Some b.now
some_read o x b e is = sym e ∙ ap (option_map (λ (c : Bor Ask). c.now)) is

pub returns-in_default-app_of-clause-reserved : goal.returns-in_default-app_of-clause-reserved
returns-in_default-app_of-clause-reserved g c = λ node at reserved.
    let sight = g.F.Farm.sight c.args.farm.now in
    let r = c.in-Some.reservation in
    let h = holds (slice_get sight.nodes c.args.index) node c.reservation.result r c.reservation.ensures c.in-Some.is at in
    none_for sight c.requires.whole node (node_is sight c.requires.whole c.args.index node at) r h
    (λ app seen. c.app_of.ensures.none c.in_default-app_of.is app r.key (ap (seen_app sight) c.app.ensures ∙ seen))

pub returns-in_default-ask_of-clause-reserved : goal.returns-in_default-ask_of-clause-reserved
returns-in_default-ask_of-clause-reserved g c = λ node at reserved.
    let sight = g.F.Farm.sight c.args.farm.now in
    let r = c.in-Some.reservation in
    let found = g.F.Farm.shown c.args.farm.now c.in-Some-app_of.app in
    let h = holds (slice_get sight.nodes c.args.index) node c.reservation.result r c.reservation.ensures c.in-Some.is at in
    let none = none_read c.ask_of.result (ask_at c.key.result found.asks) c.ask_of.ensures c.in_default-ask_of.is in
    none_for sight c.requires.whole node (node_is sight c.requires.whole c.args.index node at) r h
    (λ app seen.
    let same = ap (λ o. unwrap_or o found) (sym c.in-Some-app_of.ensures.found ∙ ap (seen_app sight) c.app.ensures ∙ seen) in
    (λ i. ask_at (sym c.key.ensures i) (sym same i).asks) ∙ none)

pub returns-then-not-may_convert-clause-reserved : goal.returns-then-not-may_convert-clause-reserved
returns-then-not-may_convert-clause-reserved g c = λ node at reserved.
    let sight = g.F.Farm.sight c.args.farm.now in
    let r = c.in-Some.reservation in
    let found = g.F.Farm.shown c.args.farm.now c.in-Some-app_of.app in
    let ask = c.in-Some-ask_of.ask.now in
    let h = holds (slice_get sight.nodes c.args.index) node c.reservation.result r c.reservation.ensures c.in-Some.is at in
    let seen = sym (ap (seen_app sight) c.app.ensures) ∙ c.in-Some-app_of.ensures.found in
    let asked = sym (ap (λ k. ask_at k found.asks) c.key.ensures) ∙ some_read c.ask_of.result (ask_at c.key.result found.asks) c.in-Some-ask_of.ask c.ask_of.ensures c.in-Some-ask_of.is in
    refused_there sight c.requires.whole node (node_is sight c.requires.whole c.args.index node at) r h found ask seen asked (sym (c.may_convert.ensures node at) ∙ c.if-not-may_convert.true)

pub returns-clause-reserved : goal.returns-clause-reserved
returns-clause-reserved g c = λ node at reserved.
    let sight = g.F.Farm.sight c.args.farm.now in
    let r = c.in-Some.reservation in
    let found = g.F.Farm.shown c.args.farm.now c.in-Some-app_of.app in
    let ask = c.in-Some-ask_of.ask.now in
    let h = holds (slice_get sight.nodes c.args.index) node c.reservation.result r c.reservation.ensures c.in-Some.is at in
    let seen = sym (ap (seen_app sight) c.app.ensures) ∙ c.in-Some-app_of.ensures.found in
    let asked = sym (ap (λ k. ask_at k found.asks) c.key.ensures) ∙ some_read c.ask_of.result (ask_at c.key.result found.asks) c.in-Some-ask_of.ask c.ask_of.ensures c.in-Some-ask_of.is in
    let number = read (λ (n : NodeSight). n.number) (slice_get sight.nodes c.args.index) node c.number.result c.number.ensures at in
    ap (λ p. Some p) (c.proposal.ensures ∙ (λ i. record { kind = Grant; app = c.app_number.ensures i; key = ask.key; node = sym number i; resource = ask.resource }))
    ∙ granted_there sight c.requires.whole node (node_is sight c.requires.whole c.args.index node at) r h found ask seen asked (sym (c.may_convert.ensures node at) ∙ c.if-not-may_convert.false)
