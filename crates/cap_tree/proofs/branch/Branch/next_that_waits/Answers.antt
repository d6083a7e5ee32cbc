use Rattle.cap_tree.proofs.Prelude.{◌≡◌, ◌∙◌, [], refl, subst, sym, MatchOption, slice_get, option_copied, HasNoneAfter, IsFirstAfter, IsPlaceAfter, children_at, kid_items, that_pass}
use Rattle.cap_tree.proofs.Orders.{IsPlaceOf, got, next_of_all}
use Rattle.cap_tree.proofs.branch.Branch.next_that_waits.Goals.{in-None, in-Some}
use Rattle.cap_tree.proofs.branch.Branch.next_that_waits.Goals as goal

pub returns : goal.returns
returns g c =
    let order = g.T.TreeItem.order in
    let kids = c.self.inside.children.items in
    let indexes = c.self.inside.order.items in
    let value = c.args.self.now in
    let those = that_pass g.T.TreeItem.waits (children_at [] value) in
    let place : IsPlaceOf order (that_pass g.T.TreeItem.waits (kid_items kids)) indexes (option_copied c.child.result) c.match-child.place = elim c.match-child.branch [
      | in-None w ↦ rw (w.in-None.is, w.place-is) refl
      | in-Some w ↦ rw (w.in-Some.is, w.place-is)
          (subst (λ is. IsPlaceAfter order (that_pass g.T.TreeItem.waits (kid_items kids)) w.in-Some.last.now is w.place_after-place.result) w.deref-in-Some.ensures.value
          (subst (λ ks. IsPlaceAfter order (that_pass g.T.TreeItem.waits (kid_items ks)) w.in-Some.last.now w.deref-in-Some.result.now w.place_after-place.result) w.deref.ensures.value w.place_after-place.ensures))
    ] in
    let is : c.copied.result ≡ slice_get indexes c.match-child.place = c.copied.ensures ∙ subst (λ is. option_copied c.get.result ≡ slice_get is c.match-child.place) c.deref-2.ensures.value (got c.deref-2.result.now c.match-child.place c.get.result (c.get.ensures.lookup.0, c.get.ensures.lookup.1)) in
    subst (λ o. MatchOption o (HasNoneAfter order those c.args.after) (IsFirstAfter order those c.args.after)) (sym is)
    (next_of_all g.T.TreeItem.name c.self.inside.item kids value c.self.view_is order g.met.T.Served.total g.T.TreeItem.waits indexes (c.self.invariant.1 c.if-not-self.false) c.args.after (option_copied c.child.result) c.child.ensures c.requires c.match-child.place place)

pub place_after-place-requires : goal.place_after-place-requires
place_after-place-requires g c = rw (c.deref.ensures.value, c.deref-in-Some.ensures.value) (c.self.invariant.1 c.if-not-self.false).sorted
