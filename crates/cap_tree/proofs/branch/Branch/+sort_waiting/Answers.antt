use Rattle.cap_tree.proofs.Prelude.{rules, arith, ◌≡◌, ◌<◌, ◌≤◌, ◌∙◌, ap, length, subst, sym, set, set-get_or, IsBranch, AreApart, IsOrderOf, kid_items, that_pass, spots}
use Rattle.cap_tree.proofs.Finds.{child-lt}
use Rattle.cap_tree.proofs.Orders.{kids_differ}
use Rattle.cap_tree.proofs.Service.{once_in_child}
use Rattle.cap_tree.proofs.branch.Branch.+sort_waiting.Goals as goal

pub sort_waiting-requires : goal.sort_waiting-requires
sort_waiting-requires g t c =
    let kids = c.self.inside.children.items in
    let kid = c.index_mut.result.now in
    let within : c.loop-i.i < length kids = omega (arith, c.loop-i-test.true, c.len-i-end.ensures) in
    let is = subst (λ ks. kid ≡ Rattle.std.proofs.Common.get_or ks c.loop-i.i kid) c.loop-i.invariant.children c.index_mut.ensures.value in
    let w = child-lt g.T.TreeItem.name c.self.inside.item kids c.args.self.now c.loop-i.i kid c.self.view_is within is in
    λ κs l. (search (rules, w), (search rules, (search rules, once_in_child g.T.TreeItem.name c.self.inside.item kids c.args.self.now c.self.view_is c.loop-i.i kid within is c.requires.once)))

pub loop-i-preserved : goal.loop-i-preserved
loop-i-preserved g t c =
    let kids = c.loop-i.self-inside.children.items in
    record {
      item = c.loop-i.invariant.item;
      children = ap (set kids c.loop-i.i) (c.sort_waiting.ensures ∙ c.index_mut.ensures.value) ∙ set-get_or kids c.loop-i.i c.index_mut.result.now ∙ c.loop-i.invariant.children;
    }

pub sort_children-self-inside-requires-clause-apart : goal.sort_children-self-inside-requires-clause-apart
sort_children-self-inside-requires-clause-apart g t c =
    subst (λ ks. AreApart g.T.TreeItem.order (kid_items ks)) (sym (c.deref.ensures.value ∙ c.loop-i.invariant.children))
    (kids_differ g.T.TreeItem.name c.self.inside.item c.self.inside.children.items c.args.self.now c.self.view_is g.T.TreeItem.order g.met.T.Served.total g.met.T.Served.names c.self.invariant.0.trees c.requires.once)

pub invariant_of-self : goal.invariant_of-self
invariant_of-self g t c = (
  subst (λ item. IsBranch g.T.TreeItem.name g.T.TreeItem.stored g.T.TreeItem.own item c.loop-i.self-inside.children.items) (sym c.loop-i.invariant.item)
      (subst (IsBranch g.T.TreeItem.name g.T.TreeItem.stored g.T.TreeItem.own c.self.inside.item) (sym c.loop-i.invariant.children) c.self.invariant.0),
  λ sorted. subst (λ ks. IsOrderOf g.T.TreeItem.order (that_pass g.T.TreeItem.waits (kid_items ks)) (length ks) c.sort_children-self-inside.new.order.items) c.deref.ensures.value (c.sort_children-self-inside.ensures sorted),
)

pub returns : goal.returns
returns g t c = (λ i. spots g.T.TreeItem.name (c.loop-i.invariant.item i) (c.loop-i.invariant.children i)) ∙ c.self.view_is

pub index_mut-requires : goal.index_mut-requires
index_mut-requires g t c = let kids = ap length c.loop-i.invariant.children in omega (arith, kids, c.loop-i-test.true, c.len-i-end.ensures)

pub sort_children-self-inside-requires-clause-few : goal.sort_children-self-inside-requires-clause-few
sort_children-self-inside-requires-clause-few g t c = subst (λ ks. length ks ≤ 4294967295) (sym (c.deref.ensures.value ∙ c.loop-i.invariant.children)) c.self.invariant.0.few
