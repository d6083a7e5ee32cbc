use Rattle.cap_tree.proofs.Prelude.{arith, ◌≡◌, ◌<◌, [], ◌∙◌, Some, ap, sym, length, option_copied, child_item, children_at, is_after, is_before, that_pass}
use Rattle.cap_tree.proofs.branch.Branch.next_below.Goals.{then-passes+then-is_after+then-is_before, else-passes, else-passes-via-then-passes+then-is_after+else-is_before, else-passes-via-then-passes+else-is_after, else-passes-via-else-passes}
use Rattle.cap_tree.proofs.Service.{named, named_passing, named_so_far, child_named, passing, failing, top_of_child, taken, passed, kept, skipped, of_all, there_within}
use Rattle.cap_tree.proofs.branch.Branch.next_below.Goals as goal

pub loop-i-preserved : goal.loop-i-preserved
loop-i-preserved g c =
    let kids = c.self.inside.children.items in
    let value = c.args.self.now in
    let test = g.C.Test.passes c.args.test.now in
    let child = children_at [] value in
    let those = that_pass test child in
    let order = g.T.TreeItem.order in
    let total = g.met.T.Served.total in
    let k = c.loop-i.i in
    let x = c.top-child.result.now in
    let within : k < length kids = omega arith in
    let is : child k ≡ Some x = top_of_child g.T.TreeItem.name c.self.inside.item kids value c.self.view_is k c.index.result.now within c.index.ensures x c.top-child.ensures in
    let last : option_copied c.child-last.result ≡ named those c.args.after = c.child-last.ensures ∙ child_named value c.args.after ∙ named_passing test child c.args.after c.requires in
    let first : child_item value c.loop-i.next ≡ named those c.loop-i.next = child_named value c.loop-i.next ∙ named_so_far order total test child c.args.after k c.loop-i.next c.loop-i.invariant in
    elim c.if-passes.branch [
      | then-passes+then-is_after+then-is_before w ↦
          let mine = passing test child k x is (sym c.passes.ensures ∙ w.if-passes.true) in
          let later = w.is_after.ensures ∙ ap (is_after order x) last in
          let sooner = w.is_before.ensures ∙ ap (is_before order x) (w.child.ensures ∙ first) in
          rw w.next-is (taken order total those c.args.after k x mine c.loop-i.next (sym later ∙ w.if-is_after.true) (sym sooner ∙ w.if-is_before.true) c.loop-i.invariant)
      | else-passes w ↦ rw w.next-is (elim w.else-passes.branch [
        | else-passes-via-then-passes+then-is_after+else-is_before w' ↦
            let mine = passing test child k x is (sym c.passes.ensures ∙ w'.if-passes.true) in
            let sooner = w'.is_before.ensures ∙ ap (is_before order x) (w'.child.ensures ∙ first) in
            kept order total those c.args.after k x mine c.loop-i.next (sym sooner ∙ w'.if-is_before.false) c.loop-i.invariant
        | else-passes-via-then-passes+else-is_after w' ↦
            let mine = passing test child k x is (sym c.passes.ensures ∙ w'.if-passes.true) in
            let later = w'.is_after.ensures ∙ ap (is_after order x) last in
            passed order total those c.args.after k x mine c.loop-i.next (sym later ∙ w'.if-is_after.false) c.loop-i.invariant
        | else-passes-via-else-passes w' ↦ skipped order total those c.args.after k (failing test child k x is (sym c.passes.ensures ∙ w'.if-passes.false)) c.loop-i.next c.loop-i.invariant
      ])
    ]

pub returns : goal.returns
returns g c =
    let test = g.C.Test.passes c.args.test.now in
    of_all g.T.TreeItem.order g.met.T.Served.total (that_pass test (children_at [] c.args.self.now)) c.args.after c.loop-i.i c.loop-i.next
    (λ j t. let w = there_within g.T.TreeItem.name c.self.inside.item c.self.inside.children.items c.args.self.now c.self.view_is test j t in omega (arith, w, c.loop-i-test.false))
    c.loop-i.invariant
