use Rattle.cap_asks.proofs.Prelude.{arith, ap, length-set, slice_set, true}
use Rattle.cap_asks.proofs.Impossible.{count_set, few_marks, one_if}
use Rattle.cap_asks.proofs.marks.Marks.set.Goals as goal

pub overflow_add-self : goal.overflow_add-self
overflow_add-self c =
    let few = few_marks (slice_set c.self.inside.items.items c.args.index true) in
    let size = length-set c.self.inside.items.items c.args.index true in
    let view = c.requires in
    let counted = count_set c.self.inside.items.items c.args.index true c.index-was_set.result.now (rw (← c.self.view_is) at c.requires) c.index-was_set.ensures in
    let was = ap one_if c.in-false-true.is-0 in
    let is = c.self.invariant in
    let len = c.self.inside.items.ok.0 in
    omega (arith, few, size, counted, was, is, len)
