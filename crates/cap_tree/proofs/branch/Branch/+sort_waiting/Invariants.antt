use Rattle.std.proofs.Common.{◌≡◌, length}
use Rattle.cap_tree.proofs.branch.Branch.+sort_waiting.Given as goal

abbrev pub decreases-sort_waiting : goal.decreases-sort_waiting
decreases-sort_waiting g l = length l.self.now

-- the item and the children stay as they were
abbrev pub invariant-loop-i : goal.invariant-loop-i
invariant-loop-i g l = record {
  item : l.self-inside.item ≡ l.initial.self-inside.item;
  children : l.self-inside.children.items ≡ l.initial.self-inside.children.items;
}
