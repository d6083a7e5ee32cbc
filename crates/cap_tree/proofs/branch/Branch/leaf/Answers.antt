use Rattle.cap_tree.proofs.Prelude.{arith, subst, sym, All-nil, AreSpots, IsBranch, false≢true}
use Rattle.cap_tree.proofs.branch.Branch.leaf.Goals as goal

pub invariant_of-result : goal.invariant_of-result
invariant_of-result g c = (
  subst (IsBranch g.T.TreeItem.name g.T.TreeItem.stored g.T.TreeItem.own c.args.item) (sym c.new.ensures.items)
      (record { sums = λ m. let e = c.requires m in omega (arith, e); trees = All-nil (AreSpots g.T.TreeItem.name); few = omega arith }),
  λ sorted. absurd (false≢true sorted),
)
