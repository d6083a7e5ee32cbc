use Rattle.cap_tree.proofs.Prelude.{rules, arith, ◌≡◌, None, subst, sym, IsFirstMark}
use Rattle.cap_tree.proofs.Finds.{child-lt}
use Rattle.cap_tree.proofs.Walks.{below_first, first_in, kid_waits, next_marked, next_once, next_within, none_below, own_first, some_below}
use Rattle.cap_tree.proofs.branch.Branch.+first_waiting.Goals as goal

pub returns-then-mark-ne0 : goal.returns-then-mark-ne0
returns-then-mark-ne0 g t c =
    let e = c.mark-mark.ensures in
    let n = c.if-mark-ne0.true in
    subst (IsFirstMark g.T.TreeItem.order g.T.Marked.mark c.args.self.now) (sym e) (own_first g.T.TreeItem.order g.met.T.Served.total g.T.TreeItem.name g.met.T.Served.names c.self.inside.item c.self.inside.children.items c.args.self.now c.self.view_is c.self.invariant.0.trees c.requires.once g.T.Marked.mark g.T.TreeItem.waits c.requires.marked (omega (arith, e, n)))

pub unreachable-requires : goal.unreachable-requires
unreachable-requires g t c =
    let z : g.T.Marked.mark c.self.inside.item ≡ 0 = (let e = c.mark-mark.ensures in let f = c.if-mark-ne0.false in omega (arith, e, f)) in
    some_below g.T.TreeItem.order g.met.T.Served.total g.T.TreeItem.name g.met.T.Served.names c.self.inside.item c.self.inside.children.items c.args.self.now c.self.view_is c.self.invariant.0.trees c.requires.once g.T.Marked.mark g.T.TreeItem.waits c.requires.marked z c.requires.some (none_below g.T.TreeItem.order g.met.T.Served.total g.T.TreeItem.name g.met.T.Served.names c.self.inside.item c.self.inside.children.items c.args.self.now c.self.view_is c.self.invariant.0.trees c.requires.once g.T.Marked.mark g.T.TreeItem.waits c.requires.marked None tt c.in_default.ensures)

pub index-requires : goal.index-requires
index-requires g t c = let w = next_within g.T.TreeItem.order g.met.T.Served.total g.T.TreeItem.name g.met.T.Served.names c.self.inside.item c.self.inside.children.items c.args.self.now c.self.view_is c.self.invariant.0.trees c.requires.once g.T.Marked.mark g.T.TreeItem.waits c.requires.marked None tt c.in-Some.child c.in-Some.ensures in omega (arith, w)

pub first_waiting-requires : goal.first_waiting-requires
first_waiting-requires g t c =
    let kid = c.index.result.now in
    let n = c.in-Some.child in
    let next = c.in-Some.ensures in
    let w = child-lt g.T.TreeItem.name c.self.inside.item c.self.inside.children.items c.args.self.now n kid c.self.view_is (next_within g.T.TreeItem.order g.met.T.Served.total g.T.TreeItem.name g.met.T.Served.names c.self.inside.item c.self.inside.children.items c.args.self.now c.self.view_is c.self.invariant.0.trees c.requires.once g.T.Marked.mark g.T.TreeItem.waits c.requires.marked None tt n next) c.index.ensures in
    λ κs l. (
      search (rules, w),
      (
        search rules,
        (
          search rules,
          (
            next_once g.T.TreeItem.order g.met.T.Served.total g.T.TreeItem.name g.met.T.Served.names c.self.inside.item c.self.inside.children.items c.args.self.now c.self.view_is c.self.invariant.0.trees c.requires.once g.T.Marked.mark g.T.TreeItem.waits c.requires.marked None tt n next kid c.index.ensures,
            (next_marked g.T.TreeItem.order g.met.T.Served.total g.T.TreeItem.name g.met.T.Served.names c.self.inside.item c.self.inside.children.items c.args.self.now c.self.view_is c.self.invariant.0.trees c.requires.once g.T.Marked.mark g.T.TreeItem.waits c.requires.marked None tt n next kid c.index.ensures, kid_waits g.T.TreeItem.order g.met.T.Served.total g.T.TreeItem.name g.met.T.Served.names c.self.inside.item c.self.inside.children.items c.args.self.now c.self.view_is c.self.invariant.0.trees c.requires.once g.T.Marked.mark g.T.TreeItem.waits c.requires.marked None tt n next kid c.index.ensures),
          ),
        ),
      ),
    )

pub returns : goal.returns
returns g t c =
    let z : g.T.Marked.mark c.self.inside.item ≡ 0 = (let e = c.mark-mark.ensures in let f = c.if-mark-ne0.false in omega (arith, e, f)) in
    below_first g.T.TreeItem.order g.met.T.Served.total g.T.TreeItem.name g.met.T.Served.names c.self.inside.item c.self.inside.children.items c.args.self.now c.self.view_is c.self.invariant.0.trees c.requires.once g.T.Marked.mark g.T.TreeItem.waits c.requires.marked z c.first_waiting.result (first_in g.T.TreeItem.order g.met.T.Served.total g.T.TreeItem.name g.met.T.Served.names c.self.inside.item c.self.inside.children.items c.args.self.now c.self.view_is c.self.invariant.0.trees c.requires.once g.T.Marked.mark g.T.TreeItem.waits c.requires.marked None tt c.in-Some.child c.in-Some.ensures c.index.result.now c.index.ensures c.first_waiting.result c.first_waiting.ensures)
