use Rattle.cap_workers.proofs.Prelude.{◌≡◌, ◌++◌, map}
use Rattle.cap_workers.proofs.idle.in_order.Given as goal

-- those so far
abbrev pub invariant-loop-first : goal.invariant-loop-first
invariant-loop-first g l = record {
  all : l.yielded ++ l.first-iterator.rest.items ≡ l.fn.firsts.items;
  same : map (λ w. w.first) l.ordered.items ≡ l.yielded;
}
