use Rattle.cap_tree.proofs.Prelude.{arith, ◌≡◌, ◌∙◌, ◌<◌, false, length, subst, sym, true, is_lt}
use Rattle.cap_tree.proofs.Orders.{entry_within, later_than_middle, not_later_than_middle}
use Rattle.cap_tree.proofs.branch.place_after.Goals as goal

pub loop-low-preserved-then-is_lt : goal.loop-low-preserved-then-is_lt
loop-low-preserved-then-is_lt g c =
    let middle = c.place_within-middle.result in
    let before = c.loop-low.invariant in
    let most = before.within in
    let there = c.place_within-middle.ensures in
    let lt : middle < length c.args.order.now = omega (arith, there, most) in
    record {
      within = omega (arith, lt);
      ordered = omega (arith, there);
      before = before.before;
      after = later_than_middle g.T.TreeItem.order g.met.T.Served.total g.T.TreeItem.name g.T.TreeItem.waits c.args.children.now c.args.order.now c.requires middle lt
          c.args.item.now c.top.result.now c.index-children-order.result c.index-children-order.is c.top.ensures (subst (λ o. is_lt o ≡ true) c.cmp_served.ensures (sym c.is_lt.ensures ∙ c.if-is_lt.true));
    }

pub loop-low-preserved : goal.loop-low-preserved
loop-low-preserved g c =
    let middle = c.place_within-middle.result in
    let before = c.loop-low.invariant in
    let most = before.within in
    let there = c.place_within-middle.ensures in
    let lt : middle < length c.args.order.now = omega (arith, there, most) in
    record {
      within = before.within;
      ordered = omega (arith, there);
      before = not_later_than_middle g.T.TreeItem.order g.met.T.Served.total g.T.TreeItem.name g.T.TreeItem.waits c.args.children.now c.args.order.now c.requires middle lt
          c.args.item.now c.top.result.now c.index-children-order.result c.index-children-order.is c.top.ensures (subst (λ o. is_lt o ≡ false) c.cmp_served.ensures (sym c.is_lt.ensures ∙ c.if-is_lt.false));
      after = before.after;
    }

pub bounds-children-order : goal.bounds-children-order
bounds-children-order g c =
    let most = c.loop-low.invariant.within in
    let there = c.place_within-middle.ensures in
    entry_within g.T.TreeItem.order g.met.T.Served.total g.T.TreeItem.name g.T.TreeItem.waits c.args.children.now c.args.order.now c.requires c.place_within-middle.result (omega (arith, there, most))

pub returns : goal.returns
returns g c =
    let test = c.loop-low-test.false in
    let within = c.loop-low.invariant.within in
    let ordered = c.loop-low.invariant.ordered in
    record {
      within = omega (arith, ordered, within);
      before = c.loop-low.invariant.before;
      after = λ a le lt. c.loop-low.invariant.after a (omega (arith, test, le)) lt;
    }

pub offset_bounds-children-order : goal.offset_bounds-children-order
offset_bounds-children-order g c =
    let most = c.loop-low.invariant.within in
    let there = c.place_within-middle.ensures in
    let within = entry_within g.T.TreeItem.order g.met.T.Served.total g.T.TreeItem.name g.T.TreeItem.waits c.args.children.now c.args.order.now c.requires c.place_within-middle.result (omega (arith, there, most)) in
    omega (arith, within)
