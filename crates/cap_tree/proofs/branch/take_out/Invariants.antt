use Rattle.cap_tree.proofs.Prelude.{◌≡◌, ℕ, ◌<◌, get_or}
use Rattle.cap_tree.proofs.branch.take_out.Given as goal

-- nothing is taken out, and the index stands at no place that was looked at
abbrev pub invariant-loop-place : goal.invariant-loop-place
invariant-loop-place g l = record {
  same : l.order.items ≡ l.initial.order.items;
  none : (a : ℕ) → a < l.place → ¬ (get_or l.order.items a 0 ≡ l.index);
}
