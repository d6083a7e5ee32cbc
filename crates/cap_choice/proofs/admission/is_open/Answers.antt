use Rattle.cap_choice.proofs.Prelude.{◌∙◌, sym, slice_get, may_hold, still_wanted}
use Rattle.cap_choice.proofs.Admitting.{closed_unheld, closed_unwanted, open_is}
use Rattle.cap_choice.proofs.Reading.{offer_at, read}
use Rattle.cap_choice.proofs.admission.is_open.Goals as goal

pub returns-then-wanted-eq0-clause-closed : goal.returns-then-wanted-eq0-clause-closed
returns-then-wanted-eq0-clause-closed g c = λ closed.
    let sight = g.F.Farm.sight c.args.farm.now in
    let app = g.F.Farm.shown c.args.farm.now c.args.app in
    let is = offer_at sight app c.args.index c.args.ask.now c.requires.seen c.requires.at in
    closed_unwanted sight c.requires.whole (record { app = app; ask = c.args.ask.now }) is c.wanted.result (read (still_wanted sight app.number) (slice_get app.asks c.args.index) c.args.ask.now c.wanted.result c.wanted.ensures c.requires.at) c.if-wanted-eq0.true

pub returns-clause-closed : goal.returns-clause-closed
returns-clause-closed g c = λ closed.
    let sight = g.F.Farm.sight c.args.farm.now in
    let app = g.F.Farm.shown c.args.farm.now c.args.app in
    let is = offer_at sight app c.args.index c.args.ask.now c.requires.seen c.requires.at in
    closed_unheld sight c.requires.whole (record { app = app; ask = c.args.ask.now }) is
    ((λ i. may_hold sight app (sym c.zero.ensures i) (sym c.resource.ensures i)) ∙ sym c.may_hold.ensures ∙ closed)

pub returns-clause-admits : goal.returns-clause-admits
returns-clause-admits g c = λ admits.
    let sight = g.F.Farm.sight c.args.farm.now in
    let app = g.F.Farm.shown c.args.farm.now c.args.app in
    let is = offer_at sight app c.args.index c.args.ask.now c.requires.seen c.requires.at in
    open_is sight c.requires.whole (record { app = app; ask = c.args.ask.now }) is c.wanted.result (read (still_wanted sight app.number) (slice_get app.asks c.args.index) c.args.ask.now c.wanted.result c.wanted.ensures c.requires.at) c.if-wanted-eq0.false
    ((λ i. may_hold sight app (sym c.zero.ensures i) (sym c.resource.ensures i)) ∙ sym c.may_hold.ensures ∙ admits)
