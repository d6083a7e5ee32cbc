use Rattle.std.proofs.Common.{rules, arith, ◌∙◌}
use Rattle.cap_tree.proofs.Spots.{in_child, as_in_child}
use Rattle.cap_tree.proofs.branch.Branch.+get.Goals as goal

pub index-child-requires : goal.index-child-requires
index-child-requires g t c =
    let into = in_child (λ _. Unit {0}) g.T.TreeItem.name c.self.inside.item c.self.inside.children.items c.args.self.now c.args.steps.now c.self.view_is c.in-len1-up.len_at_least c.requires in
    let w = into.within in
    omega arith

pub get-requires : goal.get-requires
get-requires g t c =
    let into = in_child (λ _. Unit {0}) g.T.TreeItem.name c.self.inside.item c.self.inside.children.items c.args.self.now c.args.steps.now c.self.view_is c.in-len1-up.len_at_least c.requires in
    λ κs l. (search rules, (search rules, (search rules, rw c.index-child.ensures (into.holds c.index-child.result.now))))

pub returns-in-len1-up : goal.returns-in-len1-up
returns-in-len1-up g t c =
    let into = in_child (λ _. Unit {0}) g.T.TreeItem.name c.self.inside.item c.self.inside.children.items c.args.self.now c.args.steps.now c.self.view_is c.in-len1-up.len_at_least c.requires in
    as_in_child g.T.TreeItem.name c.self.inside.item c.self.inside.children.items c.args.self.now c.args.steps.now c.index-child.result.now c.self.view_is c.in-len1-up.len_at_least into.within c.index-child.ensures ∙ c.get.ensures
