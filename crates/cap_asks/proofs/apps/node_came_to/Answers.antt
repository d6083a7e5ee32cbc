use Rattle.cap_asks.proofs.Prelude.{arith, held_at}
use Rattle.cap_asks.proofs.NodeCame.{after_one, after_vacant, all_seen_after, found_slot, not_there, vacant_slot}
use Rattle.cap_asks.proofs.Slots.{written}
use Rattle.cap_asks.proofs.apps.node_came_to.Goals as goal
use Rattle.cap_asks.proofs.apps.node_came_to.Goals.{then-contains, else-contains}

pub loop-slot-preserved : goal.loop-slot-preserved
loop-slot-preserved g c =
    let host = c.args.host.now in
    let rack = c.args.rack.now in
    let total = c.args.total.now in
    let old = held_at c.args.apps.now in
    elim c.if-contains.branch [
      | then-contains w ↦
          let there = c.contains.ensures.0 w.if-contains.true in
          rw (w.apps-is, w.has_impossible-is)
          (after_one host rack total (held_at c.loop-slot.apps) _ old c.loop-slot.slot c.loop-slot.has_impossible w.has_impossible-has_impossible.result w.deref_mut-app.result.now w.node_came.new.self (found_slot c.loop-slot.apps c.loop-slot.slot w.index_mut.result.now w.deref_mut-app.result.now w.index_mut.ensures.value w.deref_mut-app.ensures.value)
          (written c.loop-slot.apps c.loop-slot.slot _ there) (record { app = w.node_came.ensures.app; account = w.node_came.ensures.account; impossible = w.node_came.ensures.impossible }) w.has_impossible-has_impossible.ensures c.loop-slot.invariant)
      | else-contains w ↦
          rw (w.apps-is, w.has_impossible-is) (after_vacant host rack total (held_at c.loop-slot.apps) old c.loop-slot.slot c.loop-slot.has_impossible (vacant_slot c.loop-slot.apps c.loop-slot.slot (not_there c.loop-slot.apps c.loop-slot.slot c.contains.result c.contains.ensures.1 w.if-contains.false)) c.loop-slot.invariant)
    ]

pub returns : goal.returns
returns g c =
    let test = c.loop-slot-test.false in
    let value = c.capacity-slot-end.ensures.slots in
    all_seen_after c.args.host.now c.args.rack.now c.args.total.now (held_at c.loop-slot.apps) c.args.apps.now c.loop-slot.slot c.loop-slot.has_impossible (omega (arith, test, value)) c.loop-slot.invariant
