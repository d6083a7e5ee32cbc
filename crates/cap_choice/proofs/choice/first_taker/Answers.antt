use Rattle.cap_choice.proofs.Prelude.{◌∙◌, ◌+◌, ◌≡◌, sym, NodeSight, Some, None, Offer, taken_as, node_after}
use Rattle.cap_choice.proofs.Passing.{fewer, node_at, none_passed, one_more_passed, unfit_passed}
use Rattle.cap_choice.proofs.choice.first_taker.Goals as goal

pub loop-turn-init : goal.loop-turn-init
loop-turn-init g c =
    let sight = g.F.Farm.sight c.args.farm.now in
    let o : Offer = record { app = g.F.Farm.shown c.args.farm.now c.args.app; ask = c.args.ask.now } in
    (c.requires.begin.within, unfit_passed sight c.requires.whole c.args.first o c.requires.offer 0 c.args.begin c.requires.begin (none_passed sight c.requires.whole c.args.first o c.requires.offer))

pub returns-in-Some : goal.returns-in-Some
returns-in-Some g c =
    let sight = g.F.Farm.sight c.args.farm.now in (
      c.loop-turn-test.true,
      c.loop-turn.invariant.1,
      λ node at. sym (c.taken_as.ensures node (node_at sight.nodes c.args.first c.loop-turn.turn c.wrapped.result c.args.count node c.requires.count c.wrapped.ensures.ring at)) ∙ c.in-Some.is,
    )

pub loop-turn-preserved : goal.loop-turn-preserved
loop-turn-preserved g c =
    let sight = g.F.Farm.sight c.args.farm.now in
    let o : Offer = record { app = g.F.Farm.shown c.args.farm.now c.args.app; ask = c.args.ask.now } in
    let not : (node : NodeSight) → node_after sight.nodes c.args.first c.loop-turn.turn ≡ Some node → taken_as node c.args.ask.now ≡ None =
    (λ node at. sym (c.taken_as.ensures node (node_at sight.nodes c.args.first c.loop-turn.turn c.wrapped.result c.args.count node c.requires.count c.wrapped.ensures.ring at)) ∙ c.in_default.is) in
    let more = one_more_passed sight c.requires.whole c.args.first o c.requires.offer c.loop-turn.turn not c.loop-turn.invariant.1 in
    (c.next_fit-turn.ensures.within, unfit_passed sight c.requires.whole c.args.first o c.requires.offer (c.loop-turn.turn + 1) c.next_fit-turn.result c.next_fit-turn.ensures more)

pub returns : goal.returns
returns g c =
    let sight = g.F.Farm.sight c.args.farm.now in
    let o : Offer = record { app = g.F.Farm.shown c.args.farm.now c.args.app; ask = c.args.ask.now } in
    fewer sight c.requires.whole c.args.first o c.requires.offer c.args.end c.loop-turn.turn c.loop-turn-test.false c.loop-turn.invariant.1
