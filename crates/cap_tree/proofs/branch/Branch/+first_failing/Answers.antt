use Rattle.std.proofs.Common.{rules, arith, ◌∙◌, ap, true}
use Rattle.cap_tree.proofs.Spots.{in_child}
use Rattle.cap_tree.proofs.Looking.{level_from, failing-root, failing-at_root, failing-in_child}
use Rattle.cap_tree.proofs.branch.Branch.+first_failing.Goals as goal

pub returns-then-not-passes-clause-level : goal.returns-then-not-passes-clause-level
returns-then-not-passes-clause-level g t c =
    failing-root (g.C.Test.passes c.args.test.now) g.T.TreeItem.name c.self.inside.item c.self.inside.children.items c.args.self.now c.args.steps.now c.self.view_is (search rules)

pub index-child-requires : goal.index-child-requires
index-child-requires g t c =
    let into = in_child (λ _. Unit {0}) g.T.TreeItem.name c.self.inside.item c.self.inside.children.items c.args.self.now c.args.steps.now c.self.view_is c.in-len1-up.len_at_least c.requires in
    let w = into.within in
    omega arith

pub first_failing-requires : goal.first_failing-requires
first_failing-requires g t c =
    let into = in_child (λ _. Unit {0}) g.T.TreeItem.name c.self.inside.item c.self.inside.children.items c.args.self.now c.args.steps.now c.self.view_is c.in-len1-up.len_at_least c.requires in
    λ κs l. (search rules, (search rules, (search rules, (search rules, rw c.index-child.ensures (into.holds c.index-child.result.now)))))

pub returns-in-empty-clause-level : goal.returns-in-empty-clause-level
returns-in-empty-clause-level g t c =
    failing-at_root (g.C.Test.passes c.args.test.now) g.T.TreeItem.name c.self.inside.item c.self.inside.children.items c.args.self.now c.args.steps.now c.self.view_is c.in-empty.len_below (search rules)

pub returns-in-None-clause-level : goal.returns-in-None-clause-level
returns-in-None-clause-level g t c =
    let into = in_child (λ _. Unit {0}) g.T.TreeItem.name c.self.inside.item c.self.inside.children.items c.args.self.now c.args.steps.now c.self.view_is c.in-len1-up.len_at_least c.requires in
    ap (level_from (g.C.Test.passes c.args.test.now) true) c.in-None.ensures.level ∙ failing-in_child (g.C.Test.passes c.args.test.now) g.T.TreeItem.name c.self.inside.item c.self.inside.children.items c.args.self.now c.args.steps.now c.index-child.result.now c.self.view_is c.in-len1-up.len_at_least into.within c.index-child.ensures (search rules)

pub returns-in-Some-clause-level : goal.returns-in-Some-clause-level
returns-in-Some-clause-level g t c =
    let into = in_child (λ _. Unit {0}) g.T.TreeItem.name c.self.inside.item c.self.inside.children.items c.args.self.now c.args.steps.now c.self.view_is c.in-len1-up.len_at_least c.requires in
    ap (level_from (g.C.Test.passes c.args.test.now) true) c.in-Some.ensures.level ∙ failing-in_child (g.C.Test.passes c.args.test.now) g.T.TreeItem.name c.self.inside.item c.self.inside.children.items c.args.self.now c.args.steps.now c.index-child.result.now c.self.view_is c.in-len1-up.len_at_least into.within c.index-child.ensures (search rules)
