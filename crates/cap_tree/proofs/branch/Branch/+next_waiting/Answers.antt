use Rattle.cap_tree.proofs.Prelude.{rules, arith, ◌≤◌, ◌-◌, length, take, drop, get_or, subst, sym, MatchOption, HasNoMarkAfter, IsMarkAfter, mark_at}
use Rattle.cap_tree.proofs.Spots.{steps-empty, steps-is}
use Rattle.cap_tree.proofs.Walks.{after_all, after_in, at_root, child_marked, child_once, child_there, has_child, waits_above}
use Rattle.cap_tree.proofs.branch.Branch.+next_waiting.Goals as goal

pub index-child-requires : goal.index-child-requires
index-child-requires g t c =
    let there = subst (λ p. 1 ≤ mark_at g.T.Marked.mark p c.args.self.now) (steps-is c.args.after.now c.in-len1-up.len_at_least) c.requires.after in
    let w = has_child g.T.TreeItem.order g.met.T.Served.total g.T.TreeItem.name g.met.T.Served.names c.self.inside.item c.self.inside.children.items c.args.self.now c.self.view_is c.self.invariant.0.trees c.requires.once g.T.Marked.mark g.T.TreeItem.waits c.requires.marked (get_or c.args.after.now 0 0) (take (length c.args.after.now - 1) (drop 1 c.args.after.now)) there in
    omega (arith, w)

pub next_waiting-requires : goal.next_waiting-requires
next_waiting-requires g t c =
    let there = subst (λ p. 1 ≤ mark_at g.T.Marked.mark p c.args.self.now) (steps-is c.args.after.now c.in-len1-up.len_at_least) c.requires.after in
    let kid = c.index-child.result.now in
    λ κs l. (
      search rules,
      (
        search rules,
        (
          search rules,
          (
            child_once g.T.TreeItem.order g.met.T.Served.total g.T.TreeItem.name g.met.T.Served.names c.self.inside.item c.self.inside.children.items c.args.self.now c.self.view_is c.self.invariant.0.trees c.requires.once g.T.Marked.mark g.T.TreeItem.waits c.requires.marked (get_or c.args.after.now 0 0) (take (length c.args.after.now - 1) (drop 1 c.args.after.now)) there kid c.index-child.ensures,
            (child_marked g.T.TreeItem.order g.met.T.Served.total g.T.TreeItem.name g.met.T.Served.names c.self.inside.item c.self.inside.children.items c.args.self.now c.self.view_is c.self.invariant.0.trees c.requires.once g.T.Marked.mark g.T.TreeItem.waits c.requires.marked (get_or c.args.after.now 0 0) (take (length c.args.after.now - 1) (drop 1 c.args.after.now)) there kid c.index-child.ensures, child_there g.T.TreeItem.order g.met.T.Served.total g.T.TreeItem.name g.met.T.Served.names c.self.inside.item c.self.inside.children.items c.args.self.now c.self.view_is c.self.invariant.0.trees c.requires.once g.T.Marked.mark g.T.TreeItem.waits c.requires.marked (get_or c.args.after.now 0 0) (take (length c.args.after.now - 1) (drop 1 c.args.after.now)) there kid c.index-child.ensures),
          ),
        ),
      ),
    )

pub first_below-requires-in-None-clause-after : goal.first_below-requires-in-None-clause-after
first_below-requires-in-None-clause-after g t c =
    let there = subst (λ p. 1 ≤ mark_at g.T.Marked.mark p c.args.self.now) (steps-is c.args.after.now c.in-len1-up.len_at_least) c.requires.after in
    waits_above g.T.TreeItem.order g.met.T.Served.total g.T.TreeItem.name g.met.T.Served.names c.self.inside.item c.self.inside.children.items c.args.self.now c.self.view_is c.self.invariant.0.trees c.requires.once g.T.Marked.mark g.T.TreeItem.waits c.requires.marked (get_or c.args.after.now 0 0) (take (length c.args.after.now - 1) (drop 1 c.args.after.now)) there

pub returns-in-empty : goal.returns-in-empty
returns-in-empty g t c =
    subst (λ p. MatchOption c.first_below.result (HasNoMarkAfter g.T.TreeItem.order g.T.Marked.mark c.args.self.now p) (IsMarkAfter g.T.TreeItem.order g.T.Marked.mark c.args.self.now p)) (sym (steps-empty c.args.after.now c.in-empty.len_below))
    (at_root g.T.TreeItem.order g.met.T.Served.total g.T.TreeItem.name g.met.T.Served.names c.self.inside.item c.self.inside.children.items c.args.self.now c.self.view_is c.self.invariant.0.trees c.requires.once g.T.Marked.mark g.T.TreeItem.waits c.requires.marked c.first_below.result c.first_below.ensures)

pub returns-in-Some : goal.returns-in-Some
returns-in-Some g t c =
    let there = subst (λ p. 1 ≤ mark_at g.T.Marked.mark p c.args.self.now) (steps-is c.args.after.now c.in-len1-up.len_at_least) c.requires.after in
    subst (λ p. IsMarkAfter g.T.TreeItem.order g.T.Marked.mark c.args.self.now p c.in-Some.mark) (sym (steps-is c.args.after.now c.in-len1-up.len_at_least))
    (after_in g.T.TreeItem.order g.met.T.Served.total g.T.TreeItem.name g.met.T.Served.names c.self.inside.item c.self.inside.children.items c.args.self.now c.self.view_is c.self.invariant.0.trees c.requires.once g.T.Marked.mark g.T.TreeItem.waits c.requires.marked (get_or c.args.after.now 0 0) (take (length c.args.after.now - 1) (drop 1 c.args.after.now)) there c.index-child.result.now c.index-child.ensures c.in-Some.mark c.in-Some.ensures)

pub returns-in-None : goal.returns-in-None
returns-in-None g t c =
    let there = subst (λ p. 1 ≤ mark_at g.T.Marked.mark p c.args.self.now) (steps-is c.args.after.now c.in-len1-up.len_at_least) c.requires.after in
    subst (λ p. MatchOption c.first_below-in-None.result (HasNoMarkAfter g.T.TreeItem.order g.T.Marked.mark c.args.self.now p) (IsMarkAfter g.T.TreeItem.order g.T.Marked.mark c.args.self.now p)) (sym (steps-is c.args.after.now c.in-len1-up.len_at_least))
    (after_all g.T.TreeItem.order g.met.T.Served.total g.T.TreeItem.name g.met.T.Served.names c.self.inside.item c.self.inside.children.items c.args.self.now c.self.view_is c.self.invariant.0.trees c.requires.once g.T.Marked.mark g.T.TreeItem.waits c.requires.marked (get_or c.args.after.now 0 0) (take (length c.args.after.now - 1) (drop 1 c.args.after.now)) there c.index-child.result.now c.index-child.ensures c.in-None.ensures c.first_below-in-None.result c.first_below-in-None.ensures)
