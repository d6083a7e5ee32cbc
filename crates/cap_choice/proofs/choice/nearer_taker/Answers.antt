use Rattle.cap_choice.proofs.Prelude.{◌∙◌, ◌≡◌, sym, subst, arith, length, Some, NodeSight, IsFirstTaker, Offer, ComesUpTo, node_after, slice_get}
use Rattle.cap_choice.proofs.Passing.{closed_passed, fewer, node_at, none_passed, unfit_passed}
use Rattle.cap_choice.proofs.Reading.{offer_at, read}
use Rattle.cap_choice.proofs.Walking.{all_asks, all_shut, ask_passed, ask_taken, impossible_passed, no_asks, nothing_nearer}
use Rattle.cap_choice.proofs.choice.nearer_taker.Goals as goal

pub loop-from-init : goal.loop-from-init
loop-from-init g c =
    let sight = g.F.Farm.sight c.args.farm.now in
    (omega arith, no_asks sight c.requires.whole c.args.first (g.F.Farm.shown c.args.farm.now c.args.app) c.requires.waits c.args.nearest.turn c.args.nearest.proposal c.requires.nearest)

pub returns-then-is_shut : goal.returns-then-is_shut
returns-then-is_shut g c =
    let sight = g.F.Farm.sight c.args.farm.now in
    all_shut sight c.requires.whole c.args.first (g.F.Farm.shown c.args.farm.now c.args.app) c.requires.waits c.args.nearest.turn c.args.nearest.proposal (c.is_shut.ensures c.if-is_shut.true) c.requires.nearest

pub returns-then-nearest-least : goal.returns-then-nearest-least
returns-then-nearest-least g c =
    let sight = g.F.Farm.sight c.args.farm.now in
    let app = g.F.Farm.shown c.args.farm.now c.args.app in
    nothing_nearer sight c.requires.whole c.args.first (ComesUpTo sight app c.loop-from.from) (ComesUpTo sight app (length app.asks)) c.args.least c.loop-from.nearest.turn c.loop-from.nearest.proposal c.requires.least c.if-nearest-least.true c.loop-from.invariant.1

pub returns-then-index-asks : goal.returns-then-index-asks
returns-then-index-asks g c =
    let sight = g.F.Farm.sight c.args.farm.now in
    let app = g.F.Farm.shown c.args.farm.now c.args.app in
    let index = c.next_possible-index.result in
    let near = impossible_passed sight c.requires.whole c.args.first app c.requires.waits c.loop-from.from index c.loop-from.nearest.turn c.loop-from.nearest.proposal c.next_possible-index.ensures c.loop-from.invariant.1 in
    all_asks sight c.requires.whole c.args.first app c.requires.waits index c.loop-from.nearest.turn c.loop-from.nearest.proposal (omega (arith, c.if-index-asks.true, c.ask_count-asks.ensures)) near

pub loop-from-preserved-then-begin-nearest : goal.loop-from-preserved-then-begin-nearest
loop-from-preserved-then-begin-nearest g c =
    let sight = g.F.Farm.sight c.args.farm.now in
    let app = g.F.Farm.shown c.args.farm.now c.args.app in
    let index = c.next_possible-index.result in
    let ask = c.ask-ask.result.now in
    let o : Offer = record { app = app; ask = ask } in
    let is = offer_at sight app index ask c.requires.waits.found c.ask-ask.ensures in
    let near = impossible_passed sight c.requires.whole c.args.first app c.requires.waits c.loop-from.from index c.loop-from.nearest.turn c.loop-from.nearest.proposal c.next_possible-index.ensures c.loop-from.invariant.1 in
    let passed = unfit_passed sight c.requires.whole c.args.first o is 0 c.next_fit-begin.result c.next_fit-begin.ensures (none_passed sight c.requires.whole c.args.first o is) in (
      omega (arith, c.if-index-asks.false, c.ask_count-asks.ensures),
      ask_passed sight c.requires.whole c.args.first app c.requires.waits index ask c.ask-ask.ensures c.loop-from.nearest.turn c.loop-from.nearest.proposal
          (fewer sight c.requires.whole c.args.first o is c.loop-from.nearest.turn c.next_fit-begin.result c.if-begin-nearest.true passed) near,
    )

pub loop-from-preserved-then-not-is_open : goal.loop-from-preserved-then-not-is_open
loop-from-preserved-then-not-is_open g c =
    let sight = g.F.Farm.sight c.args.farm.now in
    let app = g.F.Farm.shown c.args.farm.now c.args.app in
    let index = c.next_possible-index.result in
    let ask = c.ask-ask.result.now in
    let is = offer_at sight app index ask c.requires.waits.found c.ask-ask.ensures in
    let near = impossible_passed sight c.requires.whole c.args.first app c.requires.waits c.loop-from.from index c.loop-from.nearest.turn c.loop-from.nearest.proposal c.next_possible-index.ensures c.loop-from.invariant.1 in (
      omega (arith, c.if-index-asks.false, c.ask_count-asks.ensures),
      ask_passed sight c.requires.whole c.args.first app c.requires.waits index ask c.ask-ask.ensures c.loop-from.nearest.turn c.loop-from.nearest.proposal
          (closed_passed sight c.requires.whole c.args.first (record { app = app; ask = ask }) is c.loop-from.nearest.turn (c.is_open.ensures.closed c.if-not-is_open.true)) near,
    )

pub loop-from-preserved-in_default : goal.loop-from-preserved-in_default
loop-from-preserved-in_default g c =
    let sight = g.F.Farm.sight c.args.farm.now in
    let app = g.F.Farm.shown c.args.farm.now c.args.app in
    let index = c.next_possible-index.result in
    let ask = c.ask-ask.result.now in
    let o : Offer = record { app = app; ask = ask } in
    let near = impossible_passed sight c.requires.whole c.args.first app c.requires.waits c.loop-from.from index c.loop-from.nearest.turn c.loop-from.nearest.proposal c.next_possible-index.ensures c.loop-from.invariant.1 in (
      omega (arith, c.if-index-asks.false, c.ask_count-asks.ensures),
      ask_passed sight c.requires.whole c.args.first app c.requires.waits index ask c.ask-ask.ensures c.loop-from.nearest.turn c.loop-from.nearest.proposal
          (subst (IsFirstTaker sight c.args.first c.loop-from.nearest.turn o) c.in_default.is c.first_taker.ensures) near,
    )

pub loop-from-preserved : goal.loop-from-preserved
loop-from-preserved g c =
    let sight = g.F.Farm.sight c.args.farm.now in
    let app = g.F.Farm.shown c.args.farm.now c.args.app in
    let index = c.next_possible-index.result in
    let ask = c.ask-ask.result.now in
    let o : Offer = record { app = app; ask = ask } in
    let is = offer_at sight app index ask c.requires.waits.found c.ask-ask.ensures in
    let near = impossible_passed sight c.requires.whole c.args.first app c.requires.waits c.loop-from.from index c.loop-from.nearest.turn c.loop-from.nearest.proposal c.next_possible-index.ensures c.loop-from.invariant.1 in
    let taker = subst (IsFirstTaker sight c.args.first c.loop-from.nearest.turn o) c.in-Some.is c.first_taker.ensures in
    let turn = c.in-Some.taker.turn in
    let number : (node : NodeSight) → node_after sight.nodes c.args.first turn ≡ Some node → node.number ≡ c.number-node.result =
    (λ node at. read (λ (n : NodeSight). n.number) (slice_get sight.nodes c.wrapped.result) node c.number-node.result c.number-node.ensures (node_at sight.nodes c.args.first turn c.wrapped.result c.args.count node c.requires.count c.wrapped.ensures.ring at)) in (
      omega (arith, c.if-index-asks.false, c.ask_count-asks.ensures),
      ask_taken sight c.requires.whole c.args.first app c.requires.waits index ask c.ask-ask.ensures is (c.is_open.ensures.admits c.if-not-is_open.false) c.loop-from.nearest.turn turn c.loop-from.nearest.proposal near
          taker.0 taker.1 c.in-Some.taker.kind taker.2 c.proposal.result
          (λ node at. c.proposal.ensures ∙ (λ i. record { kind = c.in-Some.taker.kind; app = c.app_number.ensures i; key = ask.key; node = sym (number node at) i; resource = ask.resource })),
    )

pub first_taker-requires : goal.first_taker-requires
first_taker-requires g c =
    let is = offer_at (g.F.Farm.sight c.args.farm.now) (g.F.Farm.shown c.args.farm.now c.args.app) c.next_possible-index.result c.ask-ask.result.now c.requires.waits.found c.ask-ask.ensures in
    (c.requires.fits.1, (c.requires.fits, (c.requires.whole, (c.requires.count, (c.requires.first, (c.next_fit-begin.ensures, (omega (arith, c.loop-from.invariant.1.within, c.requires.count), is)))))))

pub returns : goal.returns
returns g c =
    let sight = g.F.Farm.sight c.args.farm.now in
    let app = g.F.Farm.shown c.args.farm.now c.args.app in
    all_asks sight c.requires.whole c.args.first app c.requires.waits c.loop-from.from c.loop-from.nearest.turn c.loop-from.nearest.proposal (omega (arith, c.loop-from-test.false, c.ask_count-asks.ensures)) c.loop-from.invariant.1
