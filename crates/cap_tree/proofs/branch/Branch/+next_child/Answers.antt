use Rattle.cap_tree.proofs.Prelude.{rules, arith, ◌≡◌, ◌-◌, ◌∙◌, ap, sym, subst, length, take, drop, get_or, IfSome, MatchOption, HoldsOfItem, HasNoneAfter, IsFirstAfter, children_at}
use Rattle.cap_tree.proofs.Spots.{in_child, steps-is}
use Rattle.cap_tree.proofs.Service.{children_in_child}
use Rattle.cap_tree.proofs.branch.Branch.+next_child.Goals as goal

pub index-child-requires : goal.index-child-requires
index-child-requires g t c =
    let w = (in_child (λ _. Unit {0}) g.T.TreeItem.name c.self.inside.item c.self.inside.children.items c.args.self.now c.args.steps.now c.self.view_is c.in-len1-up.len_at_least c.requires.position).within in
    omega (arith, w)

pub next_child-requires : goal.next_child-requires
next_child-requires g t c =
    let i = get_or c.args.steps.now 0 0 in
    let rest = take (length c.args.steps.now - 1) (drop 1 c.args.steps.now) in
    let kid = c.index-child.result.now in
    let into = in_child (λ _. Unit {0}) g.T.TreeItem.name c.self.inside.item c.self.inside.children.items c.args.self.now c.args.steps.now c.self.view_is c.in-len1-up.len_at_least c.requires.position in
    let same : children_at c.args.steps.now c.args.self.now ≡ children_at rest kid =
    ap (λ s. children_at s c.args.self.now) (steps-is c.args.steps.now c.in-len1-up.len_at_least) ∙ children_in_child g.T.TreeItem.name c.self.inside.item c.self.inside.children.items c.args.self.now c.self.view_is i kid into.within c.index-child.ensures rest in
    let after = subst (λ ch. IfSome c.args.after (λ j. HoldsOfItem (λ _. Unit {0}) (ch j))) same c.requires.after in
    λ κs l. (search rules, (search rules, (search rules, (rw c.index-child.ensures (into.holds kid), after))))

pub returns-in-len1-up : goal.returns-in-len1-up
returns-in-len1-up g t c =
    let i = get_or c.args.steps.now 0 0 in
    let rest = take (length c.args.steps.now - 1) (drop 1 c.args.steps.now) in
    let kid = c.index-child.result.now in
    let into = in_child (λ _. Unit {0}) g.T.TreeItem.name c.self.inside.item c.self.inside.children.items c.args.self.now c.args.steps.now c.self.view_is c.in-len1-up.len_at_least c.requires.position in
    let same : children_at c.args.steps.now c.args.self.now ≡ children_at rest kid =
    ap (λ s. children_at s c.args.self.now) (steps-is c.args.steps.now c.in-len1-up.len_at_least) ∙ children_in_child g.T.TreeItem.name c.self.inside.item c.self.inside.children.items c.args.self.now c.self.view_is i kid into.within c.index-child.ensures rest in
    subst (λ ch. MatchOption c.next_child.result (HasNoneAfter g.T.TreeItem.order ch c.args.after) (IsFirstAfter g.T.TreeItem.order ch c.args.after)) (sym same) c.next_child.ensures
