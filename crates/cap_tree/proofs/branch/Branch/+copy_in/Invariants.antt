use Rattle.cap_tree.proofs.Prelude.{◌≡◌, ◌≤◌, map, take, length, vec_capacity, made_of}
use Rattle.cap_tree.proofs.branch.Branch.+copy_in.Given as goal

abbrev pub decreases-copy_in : goal.decreases-copy_in
decreases-copy_in g l = length l.self.now

abbrev pub invariant-loop-child : goal.invariant-loop-child
invariant-loop-child g l = record {
  items : l.children.items ≡ map (map (made_of g.T.CopyIn.copied)) (take l.child-index l.child-items);
  room : length l.child-items ≤ vec_capacity l.children;
}
