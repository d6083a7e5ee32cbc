use Rattle.cap_tree.proofs.Prelude.{◌≡◌, ℕ, ◌-◌, ◌<◌, ◌≤◌, length, get_or, Some, option_cmp, Less, kid_items, that_pass}
use Rattle.cap_tree.proofs.branch.place_after.Given as goal

-- what stands before the one end is not after the item, and what stands from the other on is
abbrev pub invariant-loop-low : goal.invariant-loop-low
invariant-loop-low g l = record {
  within : l.high ≤ length l.order;
  ordered : l.low ≤ l.high;
  before : (a : ℕ) → a < l.low → ¬ (option_cmp g.T.TreeItem.order (Some l.item) (that_pass g.T.TreeItem.waits (kid_items l.children) (get_or l.order a 0)) ≡ Less);
  after : (a : ℕ) → l.high ≤ a → a < length l.order → option_cmp g.T.TreeItem.order (Some l.item) (that_pass g.T.TreeItem.waits (kid_items l.children) (get_or l.order a 0)) ≡ Less;
}

abbrev pub decreases-loop-low : goal.decreases-loop-low
decreases-loop-low g l = l.high - l.low
