use Rattle.cap_tree.proofs.Prelude.{◌≡◌, ◌∙◌, length, subst, sym, Some, HoldsOfItem, IsOrderOfOthers, IsPlaceAfter, IsTakenOut, HasOrderOfOthers, kid_items, that_pass, IsTotalOrder, Ordering, ℕ, List, Option}
use Rattle.cap_tree.proofs.Orders.{kid_item, left_as_it_is, passing_differ, put_between, taken_out}
use Rattle.cap_tree.proofs.Service.{failing, passing}
use Rattle.cap_tree.proofs.branch.move_child.Goals as goal

-- the others are in order, whatever the child is
others : {T : Type 0} (order : T → T → Ordering) → IsTotalOrder order → (child : ℕ → Option T) (count i : ℕ) (old new : List ℕ) → HasOrderOfOthers order child count i old → IsTakenOut i old new → IsOrderOfOthers order child count i new
others order total child count i old new h out = taken_out order total child h.before count i old h.was h.same new out

pub place_after-place-requires : goal.place_after-place-requires
place_after-place-requires g c =
    let child = that_pass g.T.TreeItem.waits (kid_items c.args.children.now) in
    let h = c.requires.others c.if-not-was_sorted.false in
    let o = others g.T.TreeItem.order g.met.T.Served.total child (length c.args.children.now) c.args.index c.args.order.now.items c.take_out-old.new.order.items h c.take_out-old.ensures in
    rw c.deref.ensures.value o.sorted

pub returns-then-not-waits : goal.returns-then-not-waits
returns-then-not-waits g c =
    let waits = g.T.TreeItem.waits in
    let kids = c.args.children.now in
    let x = c.top-child.result.now in
    let is : kid_items kids c.args.index ≡ Some x = kid_item g.T.TreeItem.name kids c.args.index c.index-children-index.result x c.requires.index c.index-children-index.is c.top-child.ensures in
    let none = failing waits (kid_items kids) c.args.index x is (sym c.waits.ensures ∙ c.if-not-waits.true) in
    let h = c.requires.others c.if-not-was_sorted.false in
    let o = others g.T.TreeItem.order g.met.T.Served.total (that_pass waits (kid_items kids)) (length kids) c.args.index c.args.order.now.items c.take_out-old.new.order.items h c.take_out-old.ensures in
    λ t. left_as_it_is g.T.TreeItem.order g.met.T.Served.total (that_pass waits (kid_items kids)) (length kids) c.args.index c.take_out-old.new.order.items o (λ there. subst (HoldsOfItem (λ _. Unit {0})) none there)

pub returns-in-Ok : goal.returns-in-Ok
returns-in-Ok g c =
    let order = g.T.TreeItem.order in
    let waits = g.T.TreeItem.waits in
    let kids = c.args.children.now in
    let x = c.top-child.result.now in
    let child = that_pass waits (kid_items kids) in
    let old = c.take_out-old.new.order.items in
    let is : kid_items kids c.args.index ≡ Some x = kid_item g.T.TreeItem.name kids c.args.index c.index-children-index.result x c.requires.index c.index-children-index.is c.top-child.ensures in
    let at : child c.args.index ≡ Some x = passing waits (kid_items kids) c.args.index x is (sym c.waits.ensures ∙ c.if-not-waits.false) in
    let put : IsPlaceAfter order child x old c.place_after-place.result = subst (λ is. IsPlaceAfter order child x is c.place_after-place.result) c.deref.ensures.value c.place_after-place.ensures in
    let h = c.requires.others c.if-not-was_sorted.false in
    let o = others order g.met.T.Served.total child (length kids) c.args.index c.args.order.now.items old h c.take_out-old.ensures in
    λ t. rw c.in-Ok.ensures.items
    (put_between order g.met.T.Served.total child (length kids) c.args.index old o x at (passing_differ order waits (kid_items kids) c.requires.apart) c.place_after-place.result put c.requires.index)
