use Rattle.cap_tree.proofs.Prelude.{arith, ◌≡◌, ◌∙◌, ◌+◌, length, subst, sym, Some, IsOrderOf, IsPlaceAfter, kid_items, that_pass, HoldsOfItem, false≢true}
use Rattle.cap_tree.proofs.Orders.{kid_item, left_as_it_is, none_in_order, others_of, passing_differ, put_between}
use Rattle.cap_tree.proofs.Service.{failing, passing}
use Rattle.cap_tree.proofs.branch.sort_children.Goals.{then-waits+in-Ok, else-waits}
use Rattle.cap_tree.proofs.branch.sort_children.Goals as goal

pub loop-i-preserved : goal.loop-i-preserved
loop-i-preserved g c =
    let order = g.T.TreeItem.order in
    let waits = g.T.TreeItem.waits in
    let kids = c.args.children.now in
    let k = c.loop-i.i in
    let x = c.top-child.result.now in
    let child = that_pass waits (kid_items kids) in
    let is : kid_items kids k ≡ Some x = kid_item g.T.TreeItem.name kids k c.index-children-i.result x c.loop-i-test.true c.index-children-i.is c.top-child.ensures in
    elim c.if-waits.branch [
      | then-waits+in-Ok w ↦
          let place = w.place_after-last.result in
          let at : child k ≡ Some x = passing waits (kid_items kids) k x is (sym c.waits.ensures ∙ w.if-waits.true) in
          let put : IsPlaceAfter order child x c.loop-i.order.items place = subst (λ is. IsPlaceAfter order child x is place) w.deref.ensures.value w.place_after-last.ensures in
          rw (w.order-is, w.in-Ok.ensures.items)
          (put_between order g.met.T.Served.total child (k + 1) k c.loop-i.order.items (others_of order g.met.T.Served.total child k c.loop-i.order.items c.loop-i.invariant) x at (passing_differ order waits (kid_items kids) c.requires.apart) place put (omega arith))
      | else-waits w ↦ rw w.order-is (left_as_it_is order g.met.T.Served.total child (k + 1) k c.loop-i.order.items (others_of order g.met.T.Served.total child k c.loop-i.order.items c.loop-i.invariant) (λ there. subst (HoldsOfItem (λ _. Unit {0})) (failing waits (kid_items kids) k x is (sym c.waits.ensures ∙ w.if-waits.false)) there))
    ]

pub returns : goal.returns
returns g c =
    let all : c.loop-i.i ≡ length c.args.children.now = omega (arith, c.loop-i.auto.i-end, c.loop-i-test.false) in
    λ room. subst (λ n. IsOrderOf g.T.TreeItem.order (that_pass g.T.TreeItem.waits (kid_items c.args.children.now)) n c.loop-i.order.items) all c.loop-i.invariant

pub loop-i-init : goal.loop-i-init
loop-i-init g c = rw c.clear.ensures.items (none_in_order g.T.TreeItem.order (that_pass g.T.TreeItem.waits (kid_items c.args.children.now)))

pub place_after-last-requires : goal.place_after-last-requires
place_after-last-requires g c = rw c.deref.ensures.value c.loop-i.invariant.sorted

pub returns-in-Err : goal.returns-in-Err
returns-in-Err g c room = absurd (false≢true room)
