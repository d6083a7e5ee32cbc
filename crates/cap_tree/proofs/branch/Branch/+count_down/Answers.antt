use Rattle.std.proofs.Common.{arith, ◌+◌, ◌<◌, ◌∙◌, length, subst}
use Rattle.cap_tree.proofs.Counting.{length-spots, sum_more, sum_some, sum_all}
use Rattle.cap_tree.proofs.branch.Branch.+count_down.Goals as goal

pub returns-then-count-eq0 : goal.returns-then-count-eq0
returns-then-count-eq0 g t c =
    let all = length-spots g.T.TreeItem.name c.self.inside.item c.self.inside.children.items c.args.self.now c.self.view_is in
    omega (arith, all, c.if-count-eq0.true)

pub returns-in_default : goal.returns-in_default
returns-in_default g t c =
    let kids = c.self.inside.children.items in
    let within : c.loop-i.i < length kids = omega arith in
    let all = length-spots g.T.TreeItem.name c.self.inside.item kids c.args.self.now c.self.view_is in
    let more = sum_more kids c.loop-i.i c.index-child.result.now within c.index-child.ensures in
    let most = sum_some kids (c.loop-i.i + 1) in
    let few = c.in_default.ensures in
    omega (arith, all, more, most, few, c.loop-i.invariant)

pub returns : goal.returns
returns g t c =
    let kids = c.self.inside.children.items in
    let all = length-spots g.T.TreeItem.name c.self.inside.item kids c.args.self.now c.self.view_is in
    let whole = sum_all kids c.loop-i.i (omega arith) in
    omega (arith, all, whole, c.loop-i.invariant)

pub loop-i-preserved : goal.loop-i-preserved
loop-i-preserved g t c =
    let kids = c.self.inside.children.items in
    let more = sum_more kids c.loop-i.i c.index-child.result.now (subst (λ n. c.loop-i.i < n) (c.len-children.ensures ∙ c.self.inside.children.ok.0) c.loop-i-test.true) c.index-child.ensures in
    omega (arith, more, c.in-Some.ensures, c.loop-i.invariant)
