use Rattle.cap_asks.proofs.Prelude.{arith}
use Rattle.cap_asks.proofs.Impossible.{few_marks}
use Rattle.cap_asks.proofs.marks.Marks.insert.Goals as goal

pub overflow_add-self : goal.overflow_add-self
overflow_add-self c = let few = few_marks c.self.inside.items.items in let is = c.self.invariant in omega (arith, few, is, c.in-Ok.ensures.len)
