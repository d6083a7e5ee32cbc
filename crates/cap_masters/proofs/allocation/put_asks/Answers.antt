use Rattle.cap_masters.proofs.Prelude.{after_asks, take_all, ◌∙◌, ap, arith, ask_in_cluster}
use Rattle.cap_masters.proofs.Processing.{asks_step, room_left}
use Rattle.cap_masters.proofs.allocation.put_asks.Goals as goal

pub loop-ask-preserved : goal.loop-ask-preserved
loop-ask-preserved g c =
    record {
      put = asks_step c.args.app c.loop-ask.ask-index c.args.asks.now c.ask-item.result c.args.cluster.now.flat c.loop-ask.cluster.flat _ c.loop-ask.invariant.put c.loop-ask-test.true c.ask-item.is c.put_ask.ensures.flat;
      room = room_left _ c.args.app c.loop-ask.ask-index _ _ c.loop-ask.invariant.room (c.put_ask.ensures.room.asks c.args.app);
    }

pub put_ask-requires : goal.put_ask-requires
put_ask-requires g c = let room = c.loop-ask.invariant.room in let t = c.loop-ask-test.true in ((search), (search ask_in_cluster, omega (arith, room, t)))

pub returns : goal.returns
returns g c =
    c.loop-ask.invariant.put ∙ ap (λ asks. after_asks c.args.app asks c.args.cluster.now.flat) (take_all c.loop-ask.ask-index c.args.asks.now c.loop-ask-test.false)
